-- The grammar of one rule that returns a declared type and has one assignment: which property it knows, and which form it asks for.
use Rattle.std.proofs.Common.{◌≡◌, ℕ, List, [], ◌∷◌, refl, sym, subst, arith}
use Rattle.std.proofs.lemmas.List.Elements.{All-nil}
use Rattle.lw_base.specs.declared.token.Span.{Span}
use Rattle.lw_grammar.specs.declared.grammar.Grammar.{Grammar}
use Rattle.lw_grammar.specs.declared.rule.Rule.{Rule}
use Rattle.lw_grammar.specs.declared.rule.Op.{Op}
use Rattle.lw_grammar.specs.declared.rule.Value0.{Value0}
use Rattle.lw_grammar.specs.declared.rule.Element.TheVariants.{Assign}
use Rattle.lw_grammar.specs.declared.declared_types.Interface.{Interface}
use Rattle.lw_grammar.specs.declared.declared_types.Attribute.{Attribute}
use Rattle.lw_grammar.specs.declared.declared_types.UnionDef.{UnionDef}
use Rattle.lw_grammar.specs.Leaves as leaf
use Rattle.lw_grammar.specs.Leaves.{Leaf}
use Rattle.lw_grammar.specs.Subtypes.{HasType, IsDeclared}
use Rattle.lw_faults.specs.Steps.{Step, step, IsBehind, IsAct, IsNodeCall, IsCurrentType}
use Rattle.lw_faults.specs.Steps as steps
use Rattle.lw_faults.specs.Attributes.{HasAttribute, HasNoAttribute}
use Rattle.lw_faults.specs.Properties.{MisfitsAttribute, UnknownProperty, WrongPropertyForm}
use Rattle.lw_faults.specs.Properties as property
use Rattle.lw_faults.specs.Worked.{StandsAlone, StandsNowhere, rule_returning, returning}
use Rattle.lw_grammar.proofs.Every.{every_of}
use Rattle.lw_faults.proofs.LineageLemmas.{one_attribute}
use Rattle.lw_faults.proofs.StepLemmas.{inside_rule, rule_there, own_step, holds_behind, own_current}
use Rattle.lw_faults.proofs.WorkedSteps.{assign_holds, to_assign}

module _ (interfaces : List Interface) (unions : List UnionDef) (type_name p : List ℕ) (op : Op) (v : Value0) (s : Span) where
  abbrev A : Rule
  A = rule_returning type_name (Assign p op v s)

  abbrev G : Grammar
  G = returning interfaces unions type_name (Assign p op v s)

  behind : IsBehind G A [] (step A (leaf.Assign p op v s))
  behind = own_step G (0, omega arith, refl) refl (to_assign G) (λ is. is.2)

  current : IsCurrentType G A [] type_name
  current = steps.own (All-nil (λ (x : Step). ¬ IsAct x.leaf)) (All-nil (λ (x : Step). ¬ IsNodeCall G x.leaf)) (refl, refl)

  -- the assignment is the only step
  abbrev IsPut : Leaf → Type 0
  IsPut (leaf.Assign q o w t) = (q ≡ p) × (o ≡ op) × (w ≡ v) × (t ≡ s)
  IsPut _ = ⊥

  abbrev IsOnly : List Step → Leaf → Type 0
  IsOnly before l = (before ≡ []) × IsPut l

  the_rule : {rule : Rule} {before : List Step} {x : Step} → IsBehind G rule before x → A ≡ rule
  the_rule {rule} is = every_of (λ x. A ≡ x) (A ∷ []) rule (refl, tt) (rule_there G is)

  only_step : {rule : Rule} {before : List Step} {x : Step} → IsBehind G rule before x → IsOnly before x.leaf
  only_step is = holds_behind G IsOnly (refl, tt) (assign_holds G IsOnly (refl, (refl, refl, refl, refl)), tt) is

  in_file : {rule : Rule} {before : List Step} {x : Step} → IsBehind G rule before x → x.written.file ≡ 0
  in_file {x} is = every_of (λ (r : Rule). r.file ≡ 0) (A ∷ []) x.written (refl, tt) (inside_rule G is.begins)

  current_type : {rule : Rule} {before : List Step} {x : Step} {t : List ℕ} → IsBehind G rule before x → IsCurrentType G rule before t → t ≡ type_name
  current_type {rule} {before} {x} {t} is now =
      let first : IsCurrentType G rule [] t = subst (λ b. IsCurrentType G rule b t) (only_step is).0 now in
      let typed : HasType G rule t = own_current G (All-nil (λ (x : Step). ¬ IsAct x.leaf)) (All-nil (λ (x : Step). ¬ IsNodeCall G x.leaf)) first in
      (subst (λ (r : Rule). HasType G r t) (sym (the_rule is)) typed).1

  module _ (declared : IsDeclared G type_name) where
    -- ---- a property that the type does not have
    pub unknown_found : HasNoAttribute G type_name p → StandsAlone (UnknownProperty G) 0 s p
    unknown_found none = (property.assigned A A [] p op v s type_name behind current declared none, others)
      where
        others : (f : ℕ) (t : Span) (n : List ℕ) → UnknownProperty G f t n → (f ≡ 0) × (t ≡ s) × (n ≡ p)
        others f t n (property.assigned rule written before q o w u type_of is _ _ _) =
            let found = (only_step is).1 in (in_file is, found.3, found.0)
        others f t n (property.acted rule written before a put is _ _ _) = absurd (only_step is).1

    pub unknown_nowhere : ¬ HasNoAttribute G type_name p → StandsNowhere (UnknownProperty G)
    unknown_nowhere has file t name (property.assigned rule written before q o w u type_of is now _ none) =
        has (subst (λ n. HasNoAttribute G n p) (current_type is now) (subst (HasNoAttribute G type_of) (only_step is).1.0 none))
    unknown_nowhere has file t name (property.acted rule written before a put is _ _ _) = (only_step is).1

    -- ---- what is put into one that it has
    module _ (attribute : Attribute) (has : HasAttribute G type_name p attribute) where
      pub misfit_found : MisfitsAttribute G attribute v op → StandsAlone (WrongPropertyForm G) 0 s p
      misfit_found misfits = (property.assigned A A [] p op v s type_name attribute behind current declared has misfits, others)
        where
          others : (f : ℕ) (t : Span) (n : List ℕ) → WrongPropertyForm G f t n → (f ≡ 0) × (t ≡ s) × (n ≡ p)
          others f t n (property.assigned rule written before q o w u type_of other is _ _ _ _) =
              let found = (only_step is).1 in (in_file is, found.3, found.0)
          others f t n (property.put_as_other rule written before a put other is _ _ _ _) = absurd (only_step is).1
          others f t n (property.put_not_taken rule written before a put other type_of is _ _ _ _ _) = absurd (only_step is).1

      pub misfit_nowhere : ¬ MisfitsAttribute G attribute v op → StandsNowhere (WrongPropertyForm G)
      misfit_nowhere fits file t name (property.assigned rule written before q o w u type_of other is now _ had misfits) =
          let found = (only_step is).1 in
          let turned : HasAttribute G type_name p other =
          subst (λ n. HasAttribute G n p other) (current_type is now) (subst (λ n. HasAttribute G type_of n other) found.0 had) in
          let same : other ≡ attribute = one_attribute G other attribute turned has in
          let by_value : MisfitsAttribute G other v o = subst (λ x. MisfitsAttribute G other x o) found.2 misfits in
          fits (subst (λ x. MisfitsAttribute G x v op) same (subst (MisfitsAttribute G other v) found.1 by_value))
      misfit_nowhere fits file t name (property.put_as_other rule written before a put other is _ _ _ _) = (only_step is).1
      misfit_nowhere fits file t name (property.put_not_taken rule written before a put other type_of is _ _ _ _ _) = (only_step is).1
