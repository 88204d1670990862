-- A mark that is followed.
use Rattle.std.proofs.Common.{ℕ, ◌≡◌, ◌+◌, ◌<◌, Some, List, [], ◌∷◌, ◌++◌, length, take, slice_get, refl, sym, subst, ap, ◌∙◌, arith}
use Rattle.std.specs.Prelude.{Result, OnOk}
use Rattle.std.proofs.lemmas.List.{take_more}
use Rattle.std.proofs.lemmas.Option.{slice_get_within, get_or_from_slice_get}
use Rattle.lw_base.specs.declared.numbers.KindId.{KindId}
use Rattle.lw_base.specs.declared.numbers.RuleId.{RuleId}
use Rattle.lw_base.specs.declared.token.Token.{Token}
use Rattle.lw_grammar.specs.declared.grammar.Grammar.{Grammar}
use Rattle.lw_grammar.specs.declared.rule.Action.{Action}
use Rattle.lw_grammar.specs.declared.rule.Op.{Op}
use Rattle.lw_grammar.specs.declared.rule.Value0.{Value0}
use Rattle.lw_grammar.specs.Marks as mark
use Rattle.lw_grammar.specs.Marks.{Mark}
use Rattle.lw_reading.specs.Brackets.{Bracket}
use Rattle.lw_reading.specs.Follows as follows
use Rattle.lw_reading.specs.Follows.{ChangesOpen, FollowsMarks}
use Rattle.lw_program.specs.declared.recipes.mark.TreeMark.TheVariants as numbered
use Rattle.lw_program.specs.Making.{AreRecipesOf}
use Rattle.lw_program.specs.Meant as meant
use Rattle.lw_program.specs.Meant.{MeansMark}
use Rattle.lw_builder.specs.declared.builder.Builder.{Builder}
use Rattle.lw_builder.specs.Standing.{AreOpen}
use Rattle.lw_builder.specs.Built.{ArePartsOf, HasFollowed, GoesOnBy, token, other}
use Rattle.lw_builder.specs.Steps.{IsOver, DoesMark, CanDo, IsSameReading, read_tokens}
use Rattle.lw_builder.proofs.ClosingSteps.{still_over}
use Rattle.lw_builder.proofs.Results.{on_ok}
use Rattle.lw_builder.proofs.SameReading.{same_tokens}

-- ---- which mark is meant

pub means_token : (g : Grammar) (k : KindId) (x : Mark) → MeansMark g (numbered.Token k) x → x ≡ mark.Token k.0
means_token g k x (meant.token kind) = refl

pub means_open : (g : Grammar) (r : RuleId) (x : Mark) → MeansMark g (numbered.Open r) x → x ≡ mark.Open r.0
means_open g r x (meant.opens rule) = refl

pub means_shut : (g : Grammar) (x : Mark) → MeansMark g numbered.Shut x → x ≡ mark.Shut
means_shut g x meant.shuts = refl

pub means_end : (g : Grammar) (x : Mark) → MeansMark g numbered.End x → x ≡ mark.End
means_end g x meant.ends = refl

pub means_put : (g : Grammar) (n : ℕ) (x : Mark) → MeansMark g (numbered.Put n) x → (name : List ℕ) × (op : Op) × (c : Value0) × (x ≡ mark.Put name op c)
means_put g n x (meant.puts {p = name} {op = op} {v = v} at assigned stands) = (name, op, v, refl)

pub means_act : (g : Grammar) (n : ℕ) (x : Mark) → MeansMark g (numbered.Act n) x → (a : Action) × (x ≡ mark.Act a)
means_act g n x (meant.acts {a = a} at stands) = (a, refl)

-- ---- a token

no_token : (g : Grammar) (text : List ℕ) (ts : List Token) (k : ℕ) (bs after : List Bracket) → ChangesOpen g text ts (mark.Token k) bs after → ⊥
no_token g text ts k bs after change = elim change [ ]

pub next_token : (g : Grammar) (builder : Builder) (x : Mark) (k : ℕ) (bs after : List Bracket) → x ≡ mark.Token k → GoesOnBy g builder x bs after →
    (t : Token) × (slice_get builder.visible.now builder.read ≡ Some t) × (x ≡ mark.Token t.kind.0) × (bs ≡ after)
next_token g builder x k bs after is (token {t = t} at) = (t, at, refl, refl)
next_token g builder x k bs after is (other change) =
    absurd (no_token g builder.text.now (read_tokens builder) k bs after (subst (λ y. ChangesOpen g builder.text.now (read_tokens builder) y bs after) is change))

pub one_more : (ts : List Token) (n : ℕ) (t : Token) → slice_get ts n ≡ Some t → take (n + 1) ts ≡ take n ts ++ t ∷ []
one_more ts n t at =
    take_more ts n t (slice_get_within ts n t at) ∙ ap (λ (u : Token). take n ts ++ u ∷ []) (get_or_from_slice_get ts n t t at)

pub token_followed : (g : Grammar) (m : List Mark) (x : Mark) (k : ℕ) (bs after : List Bracket) (old new : Builder) → x ≡ mark.Token k → HasFollowed g m bs old →
    GoesOnBy g old x bs after → new.recipes.now ≡ old.recipes.now → new.text.now ≡ old.text.now → new.visible.now ≡ old.visible.now → new.read ≡ old.read + 1 →
    new.finished.items ≡ old.finished.items → new.kept.items ≡ old.kept.items → new.loose.items ≡ old.loose.items → new.refs.items ≡ old.refs.items →
    new.brackets.items ≡ old.brackets.items → HasFollowed g (m ++ x ∷ []) after new
token_followed g m x k bs after old new is h goes recipes text visible read finished kept loose refs brackets =
    let n = next_token g old x k bs after is goes in
    let t : Token = n.0 in
    let lt : old.read < length old.visible.now = slice_get_within old.visible.now old.read t n.1 in
    let long : length new.visible.now ≡ length old.visible.now = ap length visible in
    let read' : read_tokens new ≡ read_tokens old ++ t ∷ [] =
    ap (λ (l : List Token). take new.read l) visible ∙ ap (λ (j : ℕ). take j old.visible.now) read ∙ one_more old.visible.now old.read t n.1 in
    let f : FollowsMarks g old.text.now (m ++ mark.Token t.kind.0 ∷ []) (read_tokens old ++ t ∷ []) bs = follows.token t h.follows in
    let f1 : FollowsMarks g old.text.now (m ++ x ∷ []) (read_tokens old ++ t ∷ []) bs = subst (λ y. FollowsMarks g old.text.now (m ++ y ∷ []) (read_tokens old ++ t ∷ []) bs) (sym n.2) f in
    let f2 : FollowsMarks g old.text.now (m ++ x ∷ []) (read_tokens new) bs = subst (λ l. FollowsMarks g old.text.now (m ++ x ∷ []) l bs) (sym read') f1 in
    let f3 : FollowsMarks g new.text.now (m ++ x ∷ []) (read_tokens new) bs = subst (λ l. FollowsMarks g l (m ++ x ∷ []) (read_tokens new) bs) (sym text) f2 in
    let now : HasFollowed g (m ++ x ∷ []) bs new = record {
      recipes = subst (λ l. AreRecipesOf g l) (sym recipes) h.recipes;
      parts = subst (λ l. ArePartsOf l new.visible.now) (sym text) (subst (λ l. ArePartsOf old.text.now l) (sym visible) h.parts);
      within = omega arith;
      follows = f3;
      stands = record {
        finished = finished ∙ h.stands.finished;
        stored = kept ∙ h.stands.stored;
        loose = loose ∙ h.stands.loose;
        refs = refs ∙ h.stands.refs;
        brackets = subst (λ l. AreOpen g bs l) (sym brackets) h.stands.brackets;
      };
    } in
    subst (λ l. HasFollowed g (m ++ x ∷ []) l new) n.3 now

-- ---- any other mark

pub over_of : (g : Grammar) (m : List Mark) (bs : List Bracket) (builder : Builder) → HasFollowed g m bs builder → IsOver g builder
over_of g m bs builder h = record { recipes = h.recipes; parts = h.parts; within = h.within }

-- what a mark that is no token changes
pub changes : (g : Grammar) (builder : Builder) (x y : Mark) (bs after : List Bracket) → x ≡ y → ((k : ℕ) → y ≡ mark.Token k → ⊥) → GoesOnBy g builder x bs after →
    ChangesOpen g builder.text.now (read_tokens builder) y bs after
changes g builder x y bs after is apart (token {t = t} at) = absurd (apart t.kind.0 (sym is))
changes g builder x y bs after is apart (other change) = subst (λ z. ChangesOpen g builder.text.now (read_tokens builder) z bs after) is change

pub can_do : (g : Grammar) (m : List Mark) (x y : Mark) (bs after : List Bracket) (builder : Builder) → HasFollowed g m bs builder → x ≡ y →
    ((k : ℕ) → y ≡ mark.Token k → ⊥) → GoesOnBy g builder x bs after → CanDo g y builder
can_do g m x y bs after builder h is apart goes = (bs, after, over_of g m bs builder h, h.stands, changes g builder x y bs after is apart goes)

pub followed : {E : Type 0} (answer : Result (Unit {0}) E) (g : Grammar) (m : List Mark) (x y : Mark) (bs after : List Bracket) (old new : Builder) →
    HasFollowed g m bs old → x ≡ y → ((k : ℕ) → y ≡ mark.Token k → ⊥) → GoesOnBy g old x bs after → OnOk answer (DoesMark g y old new) → IsSameReading old new →
    OnOk answer (HasFollowed g (m ++ x ∷ []) after new)
followed answer g m x y bs after old new h is apart goes does same =
    let change = changes g old x y bs after is apart goes in
    let change' = subst (λ z. ChangesOpen g old.text.now (read_tokens old) z bs after) (sym is) change in
    let over = over_of g m bs old h in
    let now = still_over g old new over same in
    let f : FollowsMarks g old.text.now (m ++ x ∷ []) (read_tokens old) after = follows.next h.follows change' in
    let f' : FollowsMarks g new.text.now (m ++ x ∷ []) (read_tokens new) after =
    subst (λ l. FollowsMarks g l (m ++ x ∷ []) (read_tokens new) after) (sym same.over.text)
    (subst (λ l. FollowsMarks g old.text.now (m ++ x ∷ []) l after) (sym (same_tokens old new same)) f) in
    on_ok answer (DoesMark g y old new) (HasFollowed g (m ++ x ∷ []) after new) does
    (λ d. record { recipes = now.recipes; parts = now.parts; within = now.within; follows = f'; stands = d bs after over h.stands change })

-- no other mark is a token
pub open_apart : (r k : ℕ) → mark.Open r ≡ mark.Token k → ⊥
open_apart r k e = cc

pub shut_apart : (k : ℕ) → mark.Shut ≡ mark.Token k → ⊥
shut_apart k e = cc

pub put_apart : (name : List ℕ) (op : Op) (c : Value0) (k : ℕ) → mark.Put name op c ≡ mark.Token k → ⊥
put_apart name op c k e = cc

pub end_apart : (k : ℕ) → mark.End ≡ mark.Token k → ⊥
end_apart k e = cc

pub act_apart : (a : Action) (k : ℕ) → mark.Act a ≡ mark.Token k → ⊥
act_apart a k e = cc
