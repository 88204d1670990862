-- Flags of the types that rules have, rule by rule.
use Rattle.std.proofs.Common.{◌≡◌, ◌≢◌, ℕ, zero, suc, ◌+◌, ◌<◌, List, [], ◌∷◌, Bool, true, false, Some, length, get_or, slice_get, slice_set, length-set, Contains, inl, inr, refl, sym, ap, ◌∙◌, subst, arith, true≢false}
use Rattle.std.specs.Bool.{beq}
use Rattle.std.proofs.lemmas.Bool.{cases_eq, cases_lt}
use Rattle.std.proofs.lemmas.Option.{none-some, same_Some, slice_get_within, slice_get-get_or}
use Rattle.lw_grammar.specs.declared.grammar.Grammar.{Grammar}
use Rattle.lw_grammar.specs.declared.rule.Rule.{Rule}
use Rattle.lw_grammar.specs.Nodes.{MakesNodes}
use Rattle.lw_grammar.specs.Subtypes.{HasType}
use Rattle.lw_faults.specs.Attributes.{IsTypeOfTexts}
use Rattle.lw_numbers.specs.Numbering.{type_names}
use Rattle.lw_numbers.specs.Kinship.{AreNodeRules}
use Rattle.lw_flow.specs.Effects.{type_number}
use Rattle.lw_flow.proofs.NumberLemmas.{same_place, has_place, of_type}
use Rattle.lw_flow.proofs.RowLemmas.{at_place, place_there}
use Rattle.lw_properties.specs.Typed.{AreTypesOfRules, AreTextTypes, AreNodeTypes, HasTypeNumber, IsMarked, IsTypeOfNodes}

module _ {A : Type 0} where
  pub get_set_same : (xs : List A) (n : ℕ) (a b : A) → slice_get xs n ≡ Some b → slice_get (slice_set xs n a) n ≡ Some a
  get_set_same [] n a b is = absurd (none-some b is)
  get_set_same (x ∷ xs) zero a b is = refl
  get_set_same (x ∷ xs) (suc n) a b is = get_set_same xs n a b is

  pub get_set_other : (xs : List A) (n m : ℕ) (a : A) → m ≢ n → slice_get (slice_set xs n a) m ≡ slice_get xs m
  get_set_other [] n m a apart = refl
  get_set_other (x ∷ xs) zero zero a apart = absurd (apart refl)
  get_set_other (x ∷ xs) zero (suc m) a apart = refl
  get_set_other (x ∷ xs) (suc n) zero a apart = refl
  get_set_other (x ∷ xs) (suc n) (suc m) a apart = get_set_other xs n m a (λ is. apart (ap suc is))

flag_false : (flags : List Bool) (n : ℕ) → n < length flags → (slice_get flags n ≡ Some true → ⊥) → slice_get flags n ≡ Some false
flag_false flags n inside none = by (get_or flags n false) (slice_get-get_or flags n false inside)
  where
    by : (b : Bool) → slice_get flags n ≡ Some b → slice_get flags n ≡ Some false
    by true is = absurd (none is)
    by false is = is

module _ (g : Grammar) (nodes : List Bool) (makes : Bool) where
  module _ (k : ℕ) (rule : Rule) (there : slice_get g.rules k ≡ Some rule) (flags : List Bool) (known : AreTypesOfRules g nodes makes k flags) where
    -- by a rule whose own flag is another, or that has no type
    pub types_passed : ((n : ℕ) → slice_get nodes k ≡ Some makes → ¬ HasTypeNumber g rule n) → AreTypesOfRules g nodes makes (k + 1) flags
    types_passed none = record { all = known.all; exact = λ n. (λ marked. later n ((known.exact n).0 marked), λ some. earlier n some) }
      where
        later : (n : ℕ) → ((r : ℕ) × (x : Rule) × (r < k) × (slice_get g.rules r ≡ Some x) × (slice_get nodes r ≡ Some makes) × HasTypeNumber g x n) →
            (r : ℕ) × (x : Rule) × (r < k + 1) × (slice_get g.rules r ≡ Some x) × (slice_get nodes r ≡ Some makes) × HasTypeNumber g x n
        later n (r, x, before, at, does, has) = (r, x, omega (arith, before), at, does, has)

        earlier : (n : ℕ) → ((r : ℕ) × (x : Rule) × (r < k + 1) × (slice_get g.rules r ≡ Some x) × (slice_get nodes r ≡ Some makes) × HasTypeNumber g x n) →
            slice_get flags n ≡ Some true
        earlier n (r, x, before, at, does, has) = elim (cases_lt r k) [
          | inl lt ↦ (known.exact n).1 (r, x, lt, at, does, has)
          | inr ge ↦
              let this : r ≡ k = omega (arith, before, ge) in
              let same : x ≡ rule = same_Some x rule (sym at ∙ ap (slice_get g.rules) this ∙ there) in
              absurd (none n (subst (λ i. slice_get nodes i ≡ Some makes) this does) (subst (λ y. HasTypeNumber g y n) same has))
        ]

    pub types_marked : (m : ℕ) (now : List Bool) → now ≡ slice_set flags m true → m < length flags → slice_get nodes k ≡ Some makes → HasTypeNumber g rule m →
        ((n : ℕ) → HasTypeNumber g rule n → n ≡ m) → AreTypesOfRules g nodes makes (k + 1) now
    types_marked m now is inside does has only = record { all = ap length is ∙ length-set flags m true ∙ known.all; exact = λ n. (λ marked. told n marked, λ some. tells n some) }
      where
        told : (n : ℕ) → slice_get now n ≡ Some true →
            (r : ℕ) × (x : Rule) × (r < k + 1) × (slice_get g.rules r ≡ Some x) × (slice_get nodes r ≡ Some makes) × HasTypeNumber g x n
        told n marked = elim (cases_eq n m) [
          | inl this ↦ (k, rule, omega arith, there, does, subst (HasTypeNumber g rule) (sym this) has)
          | inr apart ↦
              let was = (known.exact n).0 (sym (get_set_other flags m n true apart) ∙ ap (λ fs. slice_get fs n) (sym is) ∙ marked) in
              (was.0, was.1, omega (arith, was.2), was.3, was.4, was.5)
        ]

        marked_there : slice_get now m ≡ Some true
        marked_there = ap (λ fs. slice_get fs m) is ∙ get_set_same flags m true _ (slice_get-get_or flags m true inside)

        tells : (n : ℕ) → ((r : ℕ) × (x : Rule) × (r < k + 1) × (slice_get g.rules r ≡ Some x) × (slice_get nodes r ≡ Some makes) × HasTypeNumber g x n) →
            slice_get now n ≡ Some true
        tells n (r, x, before, at, makes_so, of) = elim (cases_eq n m) [
          | inl this ↦ subst (λ i. slice_get now i ≡ Some true) (sym this) marked_there
          | inr apart ↦ elim (cases_lt r k) [
            | inl lt ↦ ap (λ fs. slice_get fs n) is ∙ get_set_other flags m n true apart ∙ (known.exact n).1 (r, x, lt, at, makes_so, of)
            | inr ge ↦
                let same : x ≡ rule = same_Some x rule (sym at ∙ ap (slice_get g.rules) (omega (arith, before, ge)) ∙ there) in
                absurd (apart (only n (subst (λ y. HasTypeNumber g y n) same of)))
          ]
        ]

-- ---- what the flags say of names

module _ (g : Grammar) (nodes : List Bool) (are : AreNodeRules g nodes) (flags : List Bool) where
  -- one of the rules with this flag has the type
  abbrev SomeRule : Bool → ℕ → Type 0
  SomeRule makes n = (r : ℕ) × (x : Rule) × (r < length g.rules) × (slice_get g.rules r ≡ Some x) × (slice_get nodes r ≡ Some makes) × HasTypeNumber g x n

  one_name : (name other : List ℕ) (n : ℕ) → type_number g name ≡ Some n → type_number g other ≡ Some n → other ≡ name
  one_name name other n is was = same_Some other name (sym (same_place other (type_names g) n was) ∙ same_place name (type_names g) n is)

  marked : (makes : Bool) (name : List ℕ) (rule : Rule) → AreTypesOfRules g nodes makes (length g.rules) flags → Contains g.rules rule → HasType g rule name →
      ((r : ℕ) → slice_get g.rules r ≡ Some rule → slice_get nodes r ≡ Some makes) → IsMarked g flags name
  marked makes name rule types among has so =
      let number = has_place name (type_names g) (of_type g rule name among has) in
      let at = place_there g.rules rule among in
      record {
        number = number.0;
        has = number.1;
        set = (types.exact number.0).1 (at.0, rule, slice_get_within g.rules at.0 rule at.1, at.1, so at.0 at.1, (name, has, number.1));
      }

  -- those of data type rules
  pub texts_told : AreTypesOfRules g nodes false (length g.rules) flags → AreTextTypes g flags
  texts_told types name = (λ is. marked false name is.rule types is.among is.of_type (unset is.rule is.reads_text.1), λ is. of_texts is.number is.has ((types.exact is.number).0 is.set))
    where
      unset : (rule : Rule) → ¬ MakesNodes g rule → (r : ℕ) → slice_get g.rules r ≡ Some rule → slice_get nodes r ≡ Some false
      unset rule none r there = flag_false nodes r (omega (arith, slice_get_within g.rules r rule there, are.all)) (λ does. none ((are.exact r rule there).1 does))

      of_texts : (n : ℕ) → type_number g name ≡ Some n → SomeRule false n → IsTypeOfTexts g name
      of_texts n is (r, x, inside, at, does, (other, has, number)) = record {
        rule = x;
        among = at_place g.rules r x at;
        reads_text = (has.0, λ makes. true≢false (same_Some true false (sym ((are.exact r x at).0 makes) ∙ does)));
        of_type = subst (HasType g x) (one_name name other n is number) has;
      }

  -- those of rules that make nodes
  pub nodes_told : AreTypesOfRules g nodes true (length g.rules) flags → AreNodeTypes g flags
  nodes_told types name = (λ is. marked true name is.rule types is.among is.of_type (set is.rule is.makes_nodes), λ is. of_nodes is.number is.has ((types.exact is.number).0 is.set))
    where
      set : (rule : Rule) → MakesNodes g rule → (r : ℕ) → slice_get g.rules r ≡ Some rule → slice_get nodes r ≡ Some true
      set rule makes r there = (are.exact r rule there).0 makes

      of_nodes : (n : ℕ) → type_number g name ≡ Some n → SomeRule true n → IsTypeOfNodes g name
      of_nodes n is (r, x, inside, at, does, (other, has, number)) = record {
        rule = x;
        among = at_place g.rules r x at;
        makes_nodes = (are.exact r x at).1 does;
        of_type = subst (HasType g x) (one_name name other n is number) has;
      }

pub same_bool : (a b : Bool) → beq a b ≡ true → a ≡ b
same_bool true true is = refl
same_bool true false is = absurd (true≢false (sym is))
same_bool false true is = absurd (true≢false (sym is))
same_bool false false is = refl

pub apart_bool : (a b : Bool) → beq a b ≡ false → ¬ (a ≡ b)
apart_bool true true is same = true≢false is
apart_bool true false is same = true≢false same
apart_bool false true is same = true≢false (sym same)
apart_bool false false is same = true≢false is
