-- What holds of one of the types of some numbers, and of one of the parts of a value, number by number and part by part.
use Rattle.std.proofs.Common.{◌≡◌, ℕ, List, [], ◌∷◌, ◌++◌, Option, Some, None, Bool, true, false, not, MatchOption, Result, Ok, Err, IfOk, IsTrue, ◌↔◌, inl, inr, refl, sym, ◌∙◌, subst, arith}
use Rattle.lw_base.specs.declared.memory.NoMemory.{NoMemory}
use Rattle.std.specs.Borrow.{Bor}
use Rattle.std.specs.Option.{is_some}
use Rattle.std.proofs.lemmas.Bool.{true≢false, both_ways, not-true, not-false, not_from_false, false_from_ne_true}
use Rattle.std.proofs.lemmas.List.Elements.{Contains-push_cases}
use Rattle.lw_grammar.specs.declared.grammar.Grammar.{Grammar}
use Rattle.lw_grammar.specs.declared.rule.Op.{Op}
use Rattle.lw_grammar.specs.declared.rule.Op.TheVariants.{One, Add, Flag}
use Rattle.lw_grammar.specs.declared.rule.Value0.{Value0}
use Rattle.lw_grammar.specs.declared.terminal.Primitive.TheVariants.{Boolean}
use Rattle.lw_grammar.specs.declared.declared_types.Attribute.{Attribute}
use Rattle.lw_grammar.specs.Leaves.{ValueLeaf, value_leaves}
use Rattle.lw_faults.specs.Attributes.{Kind, Plain, IsKindOf, HasAttribute, HasNoAttribute}
use Rattle.lw_faults.specs.Properties.{IsRefusedKind, MisfitsAttribute}
use Rattle.lw_faults.specs.Properties as property
use Rattle.lw_faults.proofs.LineageLemmas.{one_attribute}
use Rattle.lw_flow.specs.declared.before.Before.{Before}
use Rattle.lw_properties.specs.Asked.{RefusesSome, SomeType, MisfitsProperty}
use Rattle.lw_properties.specs.Told.{PutMisfits, IsPutRefused}

-- ---- a test and its opposite
module _ {P : Type 0} (b : Bool) (so : b ≡ true → P) (told : P → b ≡ true) where
  pub refuted : not b ≡ true → ¬ P
  refuted no_longer is = both_ways b (not-true b no_longer) (told is)

  pub refutes : ¬ P → not b ≡ true
  refutes none = not_from_false b (false_from_ne_true b (λ e. none (so e)))

  pub ruled_out : b ≡ false → ¬ P
  ruled_out e is = both_ways b e (told is)

-- a test that tells one fact tells another that holds where it holds
pub told_again : {P Q : Type 0} (r : Result Bool NoMemory) → IfOk r (λ so. IsTrue so ↔ P) → (P → Q) × (Q → P) → IfOk r (λ so. IsTrue so ↔ Q)
told_again (Ok b) told same = (λ so. same.0 (told.0 so), λ is. told.1 (same.1 is))
told_again (Err e) told same = tt

module _ (g : Grammar) where
  -- ---- attributes
  pub none_told : (type_name p : List ℕ) (found : Option (Bor Attribute)) → MatchOption found (HasNoAttribute g type_name p) (λ a. HasAttribute g type_name p a.now) → (b : Bool) →
      is_some found ≡ not b → (b ≡ true → HasNoAttribute g type_name p) × (HasNoAttribute g type_name p → b ≡ true)
  none_told type_name p None none b is = (λ _. none, λ _. not-false b (sym is))
  none_told type_name p (Some a) has b is = (λ so. absurd (both_ways b (not-true b (sym is)) so), λ none. absurd (none a.now has))

  -- ---- types
  module _ (P : List ℕ → Type 0) where
    pub some_none : ¬ SomeType g P []
    some_none some = omega (arith, some.1.among.1)

  -- ---- parts of a value
  module _ (attribute : Attribute) where
    pub refuses_more : (parts : List ValueLeaf) (x : ValueLeaf) → ((kind : Kind) → IsKindOf g x kind → ¬ IsRefusedKind g attribute kind) → ¬ RefusesSome g attribute parts →
        ¬ RefusesSome g attribute (parts ++ x ∷ [])
    refuses_more parts x taken none (y, kind, has, is, refused) = elim (Contains-push_cases parts x y has) [
      | inl before ↦ none (y, kind, before, is, refused)
      | inr same ↦ taken kind (subst (λ z. IsKindOf g z kind) (sym same) is) refused
    ]

    -- ---- the form of an attribute
    module _ (v : Value0) where
      pub flag_misfits : MisfitsAttribute g attribute v Flag → IsRefusedKind g attribute (Plain Boolean)
      flag_misfits (property.no_flag refused) = refused
      flag_misfits (property.value x kind apart has is refused) = absurd (apart refl)

      pub one_misfits : attribute.list ≡ false → MisfitsAttribute g attribute v One → RefusesSome g attribute (value_leaves v)
      one_misfits single (property.list many) = absurd (true≢false (sym many ∙ single))
      one_misfits single (property.value x kind apart has is refused) = (x, kind, has, is, refused)

      pub add_misfits : attribute.list ≡ true → MisfitsAttribute g attribute v Add → RefusesSome g attribute (value_leaves v)
      add_misfits many (property.no_list single) = absurd (true≢false (sym many ∙ single))
      add_misfits many (property.value x kind apart has is refused) = (x, kind, has, is, refused)

      one_apart : One ≡ Flag → ⊥
      one_apart e = cc

      add_apart : Add ≡ Flag → ⊥
      add_apart e = cc

      pub misfits_one : RefusesSome g attribute (value_leaves v) → MisfitsAttribute g attribute v One
      misfits_one (x, kind, has, is, refused) = property.value x kind one_apart has is refused

      pub misfits_add : RefusesSome g attribute (value_leaves v) → MisfitsAttribute g attribute v Add
      misfits_add (x, kind, has, is, refused) = property.value x kind add_apart has is refused

  pub misfits_known : (type_name p : List ℕ) (op : Op) (v : Value0) (attribute : Attribute) → HasAttribute g type_name p attribute → MisfitsProperty g type_name p op v →
      MisfitsAttribute g attribute v op
  misfits_known type_name p op v attribute has (declared, other, had, misfits) = subst (λ a. MisfitsAttribute g a v op) (one_attribute g other attribute had has) misfits

  pub put_refused_known : (before : Before) (type_name p : List ℕ) (list : Bool) (attribute : Attribute) → HasAttribute g type_name p attribute →
      PutMisfits g before type_name p list → IsPutRefused g before attribute list
  put_refused_known before type_name p list attribute has (declared, other, had, refused) =
      subst (λ a. IsPutRefused g before a list) (one_attribute g other attribute had has) refused
