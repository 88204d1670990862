-- A sentence in which a reference is left blank has a tree, where the grammar has no faults.
use Rattle.std.proofs.Common.{◌≡◌, ◌≢◌, ℕ, List, [], ◌∷◌, ◌++◌, Option, false, map, refl, sym, ap, subst, ◌∙◌}
use Rattle.std.proofs.lemmas.List.{append-nil, append_assoc, map-append}
use Rattle.lw_base.specs.declared.numbers.PropId.{PropId}
use Rattle.lw_base.specs.declared.token.Token.{Token}
use Rattle.lw_grammar.specs.declared.grammar.Grammar.{Grammar}
use Rattle.lw_grammar.specs.Kinds.{Kinds}
use Rattle.lw_reading.specs.Brackets.{Bracket, InNode, Root}
use Rattle.lw_reading.specs.Follows.{Closes, FollowsMarks, MakesReference}
use Rattle.lw_reading.specs.Follows as f
use Rattle.lw_reading.specs.Grown.{Grown, Held}
use Rattle.lw_reading.specs.Numbers.{IsNamingProperty}
use Rattle.lw_reading.specs.Trees.{IsOpenedTree, IsTree, parts_of_tree}
use Rattle.lw_reading.proofs.Listed.{no_end_is_empty}
use Rattle.lw_reading.proofs.Rootable.{IsRootable}
use Rattle.lw_reading.proofs.Sentence.{begun_tree, whole_tree}
use Rattle.lw_reading.specs.Growing.{ReadMarks}
use Rattle.lw_grammar.proofs.Joined.{kinds_join}
use Rattle.lw_grammar.specs.Marks.{Mark, Put, End, kinds_of}
use Rattle.lw_grammar.specs.Sentences.{IsSentence}
use Rattle.lw_tokens.specs.Cut.{kinds}
use Rattle.lw_tree.specs.Parts.{Parts}
use Rattle.lw_places.specs.Starting.{ReferenceNext, marks_with, token_marks}
use Rattle.lw_substitution.specs.Growth.{points_open}
use Rattle.lw_substitution.specs.Places.{DifferInReference, LeadsToRoot}
use Rattle.lw_substitution.specs.Tokens.{AreSameTokens}
use Rattle.lw_substitution.proofs.Differing.{closes_other, roots_other, tables_of}
use Rattle.lw_substitution.proofs.OneReference.{end_of_reference, kinds_to_end, start_of}

-- tokens of these kinds
abbrev pub any_tokens : List ℕ → List Token
any_tokens ks = map (λ (k : ℕ). record { kind = record { 0 = k }; span = record { start = 0; end = 0 }; hidden = false }) ks

kinds_of_any : (ks : List ℕ) → kinds (any_tokens ks) ≡ ks
kinds_of_any [] = refl
kinds_of_any (k ∷ ks) = ap (λ (ls : List ℕ). k ∷ ls) (kinds_of_any ks)

reads_both : (m n : List Mark) (ts us : List Token) → ReadMarks ts m → ReadMarks us n → ReadMarks (ts ++ us) (m ++ n)
reads_both m n ts us reads others =
    map-append (λ (t : Token). t.kind.0) ts us ∙ ap (λ (ks : List ℕ). ks ++ kinds us) reads ∙ ap (λ (ks : List ℕ). kinds_of m ++ ks) others
    ∙ sym (kinds_join m n)

same_as_itself : (text : List ℕ) (ts : List Token) → AreSameTokens text text ts ts
same_as_itself text [] = tt
same_as_itself text (t ∷ ts) = (record { kind = refl; bytes = refl }, same_as_itself text ts)

-- nothing behind marks and tokens
with_nothing : (P : List Mark → List Token → Type 0) (m : List Mark) (ts : List Token) → P m ts → P (m ++ []) (ts ++ [])
with_nothing P m ts is = subst (λ (n : List Mark). P n (ts ++ [])) (sym (append-nil m)) (subst (λ (us : List Token). P m us) (sym (append-nil ts)) is)

without_nothing : (P : List Mark → List Token → Type 0) (m : List Mark) (ts : List Token) → P (m ++ []) (ts ++ []) → P m ts
without_nothing P m ts is = subst (λ (us : List Token). P m us) (append-nil ts) (subst (λ (n : List Mark). P n (ts ++ [])) (append-nil m) is)

with_none : (P : List Token → Type 0) (ts : List Token) → P (ts ++ []) → P ts
with_none P ts is = subst P (append-nil ts) is

none_open : (g : Grammar) (text : List ℕ) {m : List Mark} {ts : List Token} {bs : List Bracket} → FollowsMarks g text m ts bs → m ≡ [] → bs ≡ []
none_open g text f.nothing none = refl
none_open g text (f.token {m} t is) none = absurd (no_end_is_empty m _ none)
none_open g text (f.next {m} is change) none = absurd (no_end_is_empty m _ none)

node_is_open : {type from : ℕ} {held : Held} {bs : List Bracket} → InNode type from held ∷ bs ≡ [] → ⊥
node_is_open e = cc

module _ (g : Grammar) (of : Kinds) (text : List ℕ) (rootable : IsRootable g) where
  pub leads_to_root : (m more : List Mark) (ts : List Token) → IsSentence g of (m ++ more) → ReadMarks ts m → LeadsToRoot g text m ts
  leads_to_root m more ts is reads =
      let others = any_tokens (kinds_of more) in
      (more, others, whole_tree g of text rootable (m ++ more) (ts ++ others) is (reads_both m more ts others reads (kinds_of_any (kinds_of more))))

  module _ (next : ReferenceNext) (some_kinds : List ℕ) (after : List Mark) (front : List Token) (makes : MakesReference next.op next.value)
      (sentence : IsSentence g of (marks_with next some_kinds ++ after)) (reads_front : ReadMarks front next.before) where
    is_sentence : IsSentence g of (marks_with next (kinds (any_tokens some_kinds)) ++ after)
    is_sentence = subst (λ (ks : List ℕ). IsSentence g of (marks_with next ks ++ after)) (sym (kinds_of_any some_kinds)) sentence

    reads_mid : ReadMarks (front ++ (any_tokens some_kinds)) (marks_with next (kinds (any_tokens some_kinds)))
    reads_mid = kinds_to_end next.before next.prop next.op next.value front (any_tokens some_kinds) reads_front

    differs : (rest : List Token) (stack : List Bracket) → FollowsMarks g text (marks_with next (kinds (any_tokens some_kinds))) (front ++ (any_tokens some_kinds)) stack →
        (place : ℕ) × DifferInReference g text text next place front front rest rest
    differs rest stack follows =
        let (type, from, held, bs, start) = start_of g text next.before next.prop next.op next.value front (any_tokens some_kinds) reads_front stack follows in (
          points_open (InNode type from held ∷ bs),
          record {
            makes = makes;
            place_of = record { brackets = InNode type from held ∷ bs; follows = start; counted = refl };
            same_front = same_as_itself text front;
            same_rest = same_as_itself text rest;
          },
        )

    pub whole_blank : (rest tokens : List Token) (name : Option PropId) → IsNamingProperty g name → ReadMarks rest after →
        (tree : Parts) × IsTree g text (marks_with next [] ++ after) (front ++ rest) tokens tree
    whole_blank rest tokens name named reads =
        let (x, follows) = whole_tree g of text rootable (marks_with next (kinds (any_tokens some_kinds)) ++ after) ((front ++ (any_tokens some_kinds)) ++ rest)
        is_sentence (reads_both (marks_with next (kinds (any_tokens some_kinds))) after (front ++ (any_tokens some_kinds)) rest reads_mid reads) in
        let (stack, first) = end_of_reference g text next.before next.prop next.op next.value front (any_tokens some_kinds) reads_front after rest (Root x ∷ []) follows in
        let (place, differ) = differs rest stack first in
        let (y, too, like) = roots_other g text text next place front front rest rest differ (any_tokens some_kinds) [] after x follows in (
          parts_of_tree y tokens name,
          record {
            grown = y;
            follows = subst (λ (ts : List Token). FollowsMarks g text (marks_with next [] ++ after) (ts ++ rest) (Root y ∷ [])) (append-nil front) too;
            named = named;
            parts = tables_of y tokens name;
          },
        )

    before_there : (stack : List Bracket) → FollowsMarks g text (marks_with next (kinds (any_tokens some_kinds))) (front ++ (any_tokens some_kinds)) stack → next.before ≢ []
    before_there stack follows none =
        let (type, from, held, bs, start) = start_of g text next.before next.prop next.op next.value front (any_tokens some_kinds) reads_front stack follows in
        node_is_open (none_open g text start none)

    -- the marks behind `before`
    abbrev Behind : List Mark
    Behind = Put next.prop next.op next.value ∷ token_marks some_kinds ++ (End ∷ [] ++ after)

    sentence_from : IsSentence g of (next.before ++ Behind)
    sentence_from =
        let put : List Mark = Put next.prop next.op next.value ∷ token_marks some_kinds in
        subst (λ (m : List Mark). IsSentence g of m)
        (append_assoc (next.before ++ put) (End ∷ []) after ∙ append_assoc next.before put (End ∷ [] ++ after)) sentence

    opened : {m : List Mark} {ts : List Token} (bs : List Bracket) (x : Grown) (tokens : List Token) (name : Option PropId) → IsNamingProperty g name →
        FollowsMarks g text m ts bs → Closes g text ts bs x → (tree : Parts) × IsOpenedTree g text m ts tokens tree
    opened bs x tokens name named follows closes = (
      parts_of_tree x tokens name,
      record { brackets = bs; grown = x; follows = follows; closes = closes; named = named; parts = tables_of x tokens name },
    )

    pub begun_blank : (tokens : List Token) (name : Option PropId) → IsNamingProperty g name →
        (before : Parts) × (tree : Parts) × IsOpenedTree g text next.before front tokens before × IsOpenedTree g text (marks_with next []) front tokens tree
    begun_blank tokens name named =
        let mid = any_tokens some_kinds in
        let m = marks_with next (kinds (any_tokens some_kinds)) in
        let (stack, x, follows, closes) = begun_tree g of text rootable m after (front ++ mid) is_sentence (λ e. no_end_is_empty _ End e) reads_mid in
        let (place, differ) = differs [] stack follows in
        let leads = with_nothing (λ m ts. LeadsToRoot g text m ts) m (front ++ mid) (leads_to_root m after (front ++ mid) is_sentence reads_mid) in
        let (cs, y, too, closed, like) =
        closes_other g text text next place front front [] [] differ mid [] [] leads stack x
        (with_nothing (λ m ts. FollowsMarks g text m ts stack) m (front ++ mid) follows)
        (with_nothing (λ m ts. Closes g text ts stack x) m (front ++ mid) closes) in
        let (tree, is_tree) = opened cs y tokens name named too closed in
        let (bs, z, start, closing) = begun_tree g of text rootable next.before Behind front sentence_from (before_there stack follows) reads_front in
        let (before, is_before) = opened bs z tokens name named start closing in (
          before,
          tree,
          is_before,
          with_none (λ ts. IsOpenedTree g text (marks_with next []) ts tokens tree) front
              (without_nothing (λ m ts. IsOpenedTree g text m ts tokens tree) (marks_with next []) (front ++ []) is_tree),
        )
