-- All marks of a list, one after the other.
use Rattle.std.proofs.Common.{ℕ, ◌≡◌, ◌+◌, Some, List, [], ◌∷◌, ◌++◌, length, take, slice_get, refl, sym, subst, ap, ◌∙◌, append_assoc, append-nil}
use Rattle.std.proofs.lemmas.List.{length-take-le}
use Rattle.std.specs.Prelude.{not}
use Rattle.std.proofs.lemmas.List.Elements.{All-filter}
use Rattle.lw_gramlex.specs.Places.{IsPlace}
use Rattle.lw_base.specs.declared.token.Token.{Token}
use Rattle.lw_grammar.specs.declared.grammar.Grammar.{Grammar}
use Rattle.lw_grammar.specs.Marks as mark
use Rattle.lw_grammar.specs.Marks.{Mark}
use Rattle.lw_reading.specs.Brackets.{Bracket}
use Rattle.lw_reading.specs.Follows as follows
use Rattle.lw_reading.specs.Follows.{ChangesOpen, FollowsMarks, Closes}
use Rattle.lw_reading.specs.Grown.{Grown}
use Rattle.lw_reading.specs.Numbers.{IsNamingProperty}
use Rattle.lw_reading.specs.Trees.{IsOpenedTree, parts_of_tree}
use Rattle.lw_tree.specs.Parts.{Parts, SameTables}
use Rattle.lw_program.specs.declared.recipes.mark.TreeMark.{TreeMark}
use Rattle.lw_program.specs.Making.{AreRecipesOf, RecipeLists}
use Rattle.lw_program.specs.Meant as meant
use Rattle.lw_program.specs.Meant.{MeansMark, AreMeant}
use Rattle.lw_builder.specs.declared.builder.Builder.{Builder}
use Rattle.lw_builder.specs.Built.{ArePartsOf, visible_of, HasFollowed, GoesOnBy, token, other}
use Rattle.lw_builder.specs.Steps.{read_tokens}
use Rattle.lw_builder.proofs.Counted.{counted, read_one, read_none}
use Rattle.lw_builder.proofs.Following.{one_more}

-- `GoesTo read bs m visible after`: where the tokens `read` were read and bs is open, the marks m read the rest of `visible`, and leave `after`
pub data GoesTo (g : Grammar) (text : List ℕ) (visible : List Token) (after : List Bracket) : List Token → List Bracket → List Mark → Type 0 where
  there : GoesTo g text visible after visible after []
  by_token : {read : List Token} {bs : List Bracket} {m : List Mark} (t : Token) → GoesTo g text visible after (read ++ t ∷ []) bs m →
      GoesTo g text visible after read bs (mark.Token t.kind.0 ∷ m)
  by_change : {read : List Token} {bs mid : List Bracket} {x : Mark} {m : List Mark} → ChangesOpen g text read x bs mid → GoesTo g text visible after read mid m →
      GoesTo g text visible after read bs (x ∷ m)

more_token : (g : Grammar) (text : List ℕ) (visible : List Token) (mid : List Bracket) (t : Token) (read : List Token) (bs : List Bracket) (m : List Mark) →
    GoesTo g text visible mid read bs m → GoesTo g text (visible ++ t ∷ []) mid read bs (m ++ mark.Token t.kind.0 ∷ [])
more_token g text visible mid t read bs m there = by_token t there
more_token g text visible mid t read bs m (by_token {m = rest} u goes) = by_token u (more_token g text visible mid t _ bs rest goes)
more_token g text visible mid t read bs m (by_change {mid = now} {m = rest} change goes) = by_change change (more_token g text visible mid t read now rest goes)

more_change : (g : Grammar) (text : List ℕ) (visible : List Token) (mid after : List Bracket) (x : Mark) → ChangesOpen g text visible x mid after → (read : List Token)
    (bs : List Bracket) (m : List Mark) → GoesTo g text visible mid read bs m → GoesTo g text visible after read bs (m ++ x ∷ [])
more_change g text visible mid after x last read bs m there = by_change last there
more_change g text visible mid after x last read bs m (by_token {m = rest} u goes) = by_token u (more_change g text visible mid after x last _ bs rest goes)
more_change g text visible mid after x last read bs m (by_change {mid = now} {m = rest} change goes) =
    by_change change (more_change g text visible mid after x last read now rest goes)

pub goes_to : (g : Grammar) (text : List ℕ) (m : List Mark) (ts : List Token) (bs : List Bracket) → FollowsMarks g text m ts bs → GoesTo g text ts bs [] [] m
goes_to g text m ts bs follows.nothing = there
goes_to g text m ts bs (follows.token {m = n} {ts = us} t f) = more_token g text us bs t [] [] n (goes_to g text n us bs f)
goes_to g text m ts bs (follows.next {m = n} {mark = x} {bs = mid} f change) = more_change g text ts mid bs x change [] [] n (goes_to g text n ts mid f)

-- the tokens that were read are the first of all
rest_of : (g : Grammar) (text : List ℕ) (visible : List Token) (after : List Bracket) (read : List Token) (bs : List Bracket) (m : List Mark) →
    GoesTo g text visible after read bs m → (rest : List Token) × (visible ≡ read ++ rest)
rest_of g text visible after read bs m there = ([], sym (append-nil visible))
rest_of g text visible after read bs m (by_token {m = n} t goes) =
    let r = rest_of g text visible after (read ++ t ∷ []) bs n goes in
    let e : (read ++ t ∷ []) ++ r.0 ≡ read ++ (t ∷ r.0) = simp append_assoc in
    (t ∷ r.0, r.1 ∙ e)
rest_of g text visible after read bs m (by_change {mid = mid} {m = n} change goes) = rest_of g text visible after read mid n goes

at_seam : {X : Type 0} (xs ys : List X) (x : X) → slice_get (xs ++ x ∷ ys) (length xs) ≡ Some x
at_seam [] ys x = refl
at_seam (y ∷ xs) ys x = at_seam xs ys x

at_end : (g : Grammar) (text : List ℕ) (visible : List Token) (after : List Bracket) (read : List Token) (bs : List Bracket) →
    GoesTo g text visible after read bs [] → (read ≡ visible) × (bs ≡ after)
at_end g text visible after read bs there = (refl, refl)

-- the builder stands so inside the list of marks, with these still to come
pub record IsUnderway (g : Grammar) (m : List Mark) (after : List Bracket) (rest : List TreeMark) (builder : Builder) : Type 0 where
  pub gone : List Mark
  pub coming : List Mark
  pub whole : gone ++ coming ≡ m
  pub brackets : List Bracket
  pub followed : HasFollowed g gone brackets builder
  pub meant : AreMeant g rest coming
  pub goes : GoesTo g builder.text.now builder.visible.now after (read_tokens builder) brackets coming

-- the next mark
pub record HasNext (g : Grammar) (m : List Mark) (after : List Bracket) (x : TreeMark) (rest : List TreeMark) (builder : Builder) : Type 0 where
  pub gone : List Mark
  pub it : Mark
  pub brackets : List Bracket
  pub then_open : List Bracket
  pub followed : HasFollowed g gone brackets builder
  pub means : MeansMark g x it
  pub by : GoesOnBy g builder it brackets then_open
  pub onward : (new : Builder) → HasFollowed g (gone ++ it ∷ []) then_open new → new.text.now ≡ builder.text.now → new.visible.now ≡ builder.visible.now →
      IsUnderway g m after rest new

next_by : (g : Grammar) (m : List Mark) (after : List Bracket) (x : TreeMark) (rest : List TreeMark) (builder : Builder) (gone coming : List Mark) (bs : List Bracket) →
    gone ++ coming ≡ m → HasFollowed g gone bs builder → AreMeant g (x ∷ rest) coming → (read : List Token) → read ≡ read_tokens builder →
    GoesTo g builder.text.now builder.visible.now after read bs coming → HasNext g m after x rest builder
next_by g m after x rest builder gone coming bs whole h (meant.more {ms = ms} means others) read is (by_token t goes) =
    let r = rest_of g builder.text.now builder.visible.now after (read ++ t ∷ []) bs ms goes in
    let e : (read ++ t ∷ []) ++ r.0 ≡ read ++ (t ∷ r.0) = simp append_assoc in
    let long : length read ≡ builder.read = ap length is ∙ length-take-le builder.read builder.visible.now h.within in
    let at : slice_get builder.visible.now builder.read ≡ Some t =
    ap (λ l. slice_get l builder.read) (r.1 ∙ e) ∙ ap (λ n. slice_get (read ++ t ∷ r.0) n) (sym long) ∙ at_seam read r.0 t in
    let it : Mark = mark.Token t.kind.0 in
    let whole' : (gone ++ it ∷ []) ++ ms ≡ gone ++ (it ∷ ms) = simp append_assoc in
    record {
      gone = gone;
      it = it;
      brackets = bs;
      then_open = bs;
      followed = h;
      means = means;
      by = token at;
      onward = λ new j text visible.
          let one : new.read ≡ builder.read + 1 = read_one g gone t.kind.0 bs bs builder new h j in
          let read' : read ++ t ∷ [] ≡ read_tokens new =
          ap (λ l. l ++ t ∷ []) is ∙ sym (one_more builder.visible.now builder.read t at) ∙ ap (λ n. take n builder.visible.now) (sym one)
          ∙ ap (λ (l : List Token). take new.read l) (sym visible) in
          record {
            gone = gone ++ it ∷ [];
            coming = ms;
            whole = whole' ∙ whole;
            brackets = bs;
            followed = j;
            meant = others;
            goes = subst (λ l. GoesTo g l new.visible.now after (read_tokens new) bs ms) (sym text)
                (subst (λ l. GoesTo g builder.text.now l after (read_tokens new) bs ms) (sym visible)
                (subst (λ l. GoesTo g builder.text.now builder.visible.now after l bs ms) read' goes));
          };
    }
next_by g m after x rest builder gone coming bs whole h (meant.more {m = it} {ms = ms} means others) read is (by_change {mid = mid} change goes) =
    let whole' : (gone ++ it ∷ []) ++ ms ≡ gone ++ (it ∷ ms) = simp append_assoc in
    let change' : ChangesOpen g builder.text.now (read_tokens builder) it bs mid = subst (λ l. ChangesOpen g builder.text.now l it bs mid) is change in
    record {
      gone = gone;
      it = it;
      brackets = bs;
      then_open = mid;
      followed = h;
      means = means;
      by = other change';
      onward = λ new j text visible.
          let same : new.read ≡ builder.read = read_none g gone it bs mid mid builder.text.now read builder new h j change in
          let read' : read ≡ read_tokens new =
          is ∙ ap (λ n. take n builder.visible.now) (sym same) ∙ ap (λ (l : List Token). take new.read l) (sym visible) in
          record {
            gone = gone ++ it ∷ [];
            coming = ms;
            whole = whole' ∙ whole;
            brackets = mid;
            followed = j;
            meant = others;
            goes = subst (λ l. GoesTo g l new.visible.now after (read_tokens new) mid ms) (sym text)
                (subst (λ l. GoesTo g builder.text.now l after (read_tokens new) mid ms) (sym visible)
                (subst (λ l. GoesTo g builder.text.now builder.visible.now after l mid ms) read' goes));
          };
    }

pub next_mark : (g : Grammar) (m : List Mark) (after : List Bracket) (x : TreeMark) (rest : List TreeMark) (builder : Builder) →
    IsUnderway g m after (x ∷ rest) builder → HasNext g m after x rest builder
next_mark g m after x rest builder under =
    next_by g m after x rest builder under.gone under.coming under.brackets under.whole under.followed under.meant (read_tokens builder) refl under.goes

-- no mark is left
pub all_followed : (g : Grammar) (m : List Mark) (after : List Bracket) (builder : Builder) → IsUnderway g m after [] builder →
    HasFollowed g m after builder × (read_tokens builder ≡ builder.visible.now)
all_followed g m after builder under =
    let none = none_coming under.coming under.meant in
    let goes = subst (λ l. GoesTo g builder.text.now builder.visible.now after (read_tokens builder) under.brackets l) none under.goes in
    let e = at_end g builder.text.now builder.visible.now after (read_tokens builder) under.brackets goes in
    let whole : under.gone ≡ m = sym (append-nil under.gone) ∙ ap (λ l. under.gone ++ l) (sym none) ∙ under.whole in
    (subst (λ l. HasFollowed g l after builder) whole (subst (λ l. HasFollowed g under.gone l builder) e.1 under.followed), e.0)
  where
    none_coming : (coming : List Mark) → AreMeant g [] coming → coming ≡ []
    none_coming coming meant.none = refl

-- at the start all marks are to come
pub underway : (g : Grammar) (marks : List TreeMark) (m : List Mark) (ts : List Token) (bs : List Bracket) (builder : Builder) → HasFollowed g [] [] builder →
    AreMeant g marks m → FollowsMarks g builder.text.now m ts bs → builder.visible.now ≡ ts → IsUnderway g m bs marks builder
underway g marks m ts bs builder h are f visible =
    let none : builder.read ≡ 0 = counted g [] [] builder h in
    let read : [] ≡ read_tokens builder = sym (ap (λ n. take n builder.visible.now) none) in
    record {
      gone = [];
      coming = m;
      whole = refl;
      brackets = [];
      followed = h;
      meant = are;
      goes = subst (λ l. GoesTo g builder.text.now builder.visible.now bs l [] m) read
          (subst (λ l. GoesTo g builder.text.now l bs [] [] m) (sym visible) (goes_to g builder.text.now m ts bs f));
    }

-- the tree that was made is that of the marks
pub opened : (g : Grammar) (text : List ℕ) (m : List Mark) (visible tokens : List Token) (bs : List Bracket) (x : Grown) (recipes : RecipeLists) (tree : Parts) →
    AreRecipesOf g recipes → FollowsMarks g text m visible bs → Closes g text visible bs x → SameTables tree (parts_of_tree x tokens recipes.naming) →
    IsOpenedTree g text m visible tokens tree
opened g text m visible tokens bs x recipes tree are f closes same = record {
  brackets = bs;
  grown = x;
  follows = f;
  closes = closes;
  named = subst (λ n. IsNamingProperty g n) (sym same.name) are.name;
  parts = record { nodes = same.nodes; values = same.values; refs = same.refs; tokens = same.tokens; name = refl };
}

pub visible_parts : (text : List ℕ) (tokens : List Token) → ArePartsOf text tokens → ArePartsOf text (visible_of tokens)
visible_parts text tokens parts = All-filter (λ (t : Token). not t.hidden) (λ (t : Token). IsPlace text t.span) tokens parts

-- a builder of these tokens, which were followed so far
pub started : (g : Grammar) (marks rest : List TreeMark) (m : List Mark) (bs : List Bracket) (text : List ℕ) (visible : List Token) (recipes : RecipeLists)
    (first builder : Builder) →
    ((g : Grammar) (m : List Mark) (bs : List Bracket) → AreRecipesOf g first.recipes.now → AreMeant g marks m → FollowsMarks g first.text.now m first.visible.now bs →
    IsUnderway g m bs rest builder) →
    first.text.now ≡ text → first.visible.now ≡ visible → first.recipes.now ≡ recipes → AreRecipesOf g recipes → AreMeant g marks m → FollowsMarks g text m visible bs →
    IsUnderway g m bs rest builder
started g marks rest m bs text visible recipes first builder all same_text same_visible same_recipes are meant f =
    all g m bs (subst (λ l. AreRecipesOf g l) (sym same_recipes) are) meant
    (subst (λ l. FollowsMarks g l m first.visible.now bs) (sym same_text) (subst (λ l. FollowsMarks g text m l bs) (sym same_visible) f))

-- where no mark is left, what closes the brackets closes those of the builder
pub closes_at_end : (g : Grammar) (m : List Mark) (bs : List Bracket) (x : Grown) (text : List ℕ) (visible : List Token) (builder : Builder) →
    IsUnderway g m bs [] builder → builder.text.now ≡ text → builder.visible.now ≡ visible → Closes g text visible bs x →
    HasFollowed g m bs builder × Closes g builder.text.now (read_tokens builder) bs x
closes_at_end g m bs x text visible builder under same_text same_visible closes =
    let h = all_followed g m bs builder under in (
      h.0,
      subst (λ l. Closes g l (read_tokens builder) bs x) (sym same_text) (subst (λ l. Closes g text l bs x) (sym (h.1 ∙ same_visible)) closes),
    )
