-- The keywords of a grammar can be told apart where none is empty, as where no rule writes an empty one.
use Rattle.std.proofs.Common.{◌≡◌, ◌≢◌, ℕ, zero, suc, ◌<◌, Bool, true, false, ◌||◌, cond, List, [], ◌∷◌, length, get_or, Some, AllPairs, bytes_eq, refl, sym, ap, ◌∙◌, subst, arith, true≢false, Contains, ◌⊎◌, inl, inr}
use Rattle.std.specs.List.{flat_map}
use Rattle.std.proofs.lemmas.Option.{slice_get-get_or, slice_get_within, get_or_from_slice_get}
use Rattle.std.proofs.lemmas.List.Elements.{Contains-append_cases}
use Rattle.std.proofs.lemmas.Bool.Decides.{nat_tests}
use Rattle.std.proofs.lemmas.Slice.Eq.{bytes_eq-Decides}
use Rattle.lw_grammar.specs.declared.grammar.Grammar.{Grammar}
use Rattle.lw_grammar.specs.declared.rule.Rule.{Rule}
use Rattle.lw_grammar.specs.Leaves.{keywords_in}
use Rattle.lw_grammar.specs.Reached.{IsReached}
use Rattle.lw_grammar.specs.Kinds.{Kinds, AreKinds, first_uses}
use Rattle.lw_grammar.proofs.FirstUses.{stands_in, Contains-from_first_uses}
use Rattle.lw_base.proofs.Lists.{there}
use Rattle.lw_grammar.proofs.KeptLemmas.{kept_from}
use Rattle.lw_tokens.specs.Keywords.{AreKeywords}
pub use Rattle.lw_grammar.proofs.KindLemmas.{one_kind_text}
use Rattle.lw_reading.specs.Laws.{HasNoEmptyKeyword, WritesNoEmptyKeyword}

-- the first uses are none of those that were seen before
abbrev AreUnseen : List (List ℕ) → List (List ℕ) → Type 0
AreUnseen seen uses = (k : ℕ) (d : List ℕ) → k < length uses → stands_in (get_or uses k d) seen ≡ false

unseen : (seen texts : List (List ℕ)) → AreUnseen seen (first_uses seen texts)
unseen seen [] = λ k d inside. absurd (omega arith)
unseen seen (text ∷ texts) = by (stands_in text seen) refl (unseen seen texts) (unseen (text ∷ seen) texts)
  where
    by : (b : Bool) → stands_in text seen ≡ b → AreUnseen seen (first_uses seen texts) → AreUnseen (text ∷ seen) (first_uses (text ∷ seen) texts) →
        AreUnseen seen (cond b (first_uses seen texts) (text ∷ first_uses (text ∷ seen) texts))
    by true is same new k d inside = same k d inside
    by false is same new zero d inside = is
    by false is same new (suc k) d inside = let e = new k d (omega arith) in grind (arith, nat_tests, e)

-- and no two of them are equal
differ : (a b : List ℕ) → bytes_eq b a ≡ false → a ≢ b
differ a b apart same = true≢false (sym ((bytes_eq-Decides b a).1 (sym same)) ∙ apart)

apart : (seen texts : List (List ℕ)) → AllPairs (λ a b. a ≢ b) (first_uses seen texts)
apart seen [] = λ i j d below inside. absurd (omega arith)
apart seen (text ∷ texts) = by (stands_in text seen) (apart seen texts) (apart (text ∷ seen) texts)
  where
    by : (b : Bool) → AllPairs (λ a b. a ≢ b) (first_uses seen texts) → AllPairs (λ a b. a ≢ b) (first_uses (text ∷ seen) texts) →
        AllPairs (λ a b. a ≢ b) (cond b (first_uses seen texts) (text ∷ first_uses (text ∷ seen) texts))
    by true same new i j d below inside = same i j d below inside
    by false same new zero zero d below inside = absurd (omega arith)
    by false same new zero (suc j) d below inside = differ _ _ (let e = unseen (text ∷ seen) texts j d (omega arith) in grind (arith, nat_tests, e))
    by false same new (suc i) zero d below inside = absurd (omega arith)
    by false same new (suc i) (suc j) d below inside = new i j d (omega arith) (omega arith)

-- ---- where a keyword kind comes from
in_one : {X Y : Type 0} (f : X → List Y) (xs : List X) (y : Y) → Contains (flat_map f xs) y → (x : X) × Contains xs x × Contains (f x) y
in_one f [] y (k, inside, is) = absurd (omega arith)
in_one f (x ∷ xs) y has = by (Contains-append_cases (f x) (flat_map f xs) y has) (in_one f xs y)
  where
    by : Contains (f x) y ⊎ Contains (flat_map f xs) y → (Contains (flat_map f xs) y → (z : _) × Contains xs z × Contains (f z) y) →
        (z : _) × Contains (x ∷ xs) z × Contains (f z) y
    by (inl here) rest = (x, (0, omega arith, refl), here)
    by (inr later) rest = let found = rest later in (found.0, there x xs found.0 found.1, found.2)

module _ (g : Grammar) where
  -- a keyword kind is a keyword that a rule writes
  pub filled_rules : WritesNoEmptyKeyword g → HasNoEmptyKeyword g
  filled_rules filled of k are is =
      let has : Contains of.keywords [] = (k, slice_get_within of.keywords k [] is, get_or_from_slice_get of.keywords k [] [] is) in
      let uses = Contains-from_first_uses (flat_map (λ (rule : Rule). keywords_in rule.body) are.rules) [] (subst (λ texts. Contains texts []) are.keywords has) in
      let found = in_one (λ (rule : Rule). keywords_in rule.body) are.rules [] uses in
      filled found.0 (kept_from (IsReached g) found.0 are.reached found.1) found.2

  -- they can be told apart
  pub can_be_told_apart : (of : Kinds) → HasNoEmptyKeyword g → AreKinds g of → AreKeywords of.keywords
  can_be_told_apart of filled are = record {
    not_empty = λ k d inside. not_nothing (get_or of.keywords k d) (λ is. filled of k are (slice_get-get_or of.keywords k d inside ∙ ap Some is));
    distinct = subst (AllPairs (λ a b. a ≢ b)) (sym are.keywords) (apart [] (flat_map (λ (rule : Rule). keywords_in rule.body) are.rules));
  }
    where
      not_nothing : (text : List ℕ) → text ≢ [] → 0 < length text
      not_nothing [] not = absurd (not refl)
      not_nothing (b ∷ text) not = omega arith
