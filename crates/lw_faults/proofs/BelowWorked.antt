-- An action makes a node of a type that is not below the one that its rule returns, or of one that is.
use Rattle.std.proofs.Common.{◌≡◌, ℕ, List, [], ◌∷◌, map, codes, Contains, refl, sym, ap, ◌∙◌, subst, arith}
use Rattle.std.proofs.lemmas.Option.{none-some}
use Rattle.lw_base.specs.declared.token.Span.{Span}
use Rattle.lw_grammar.specs.declared.grammar.Grammar.{Grammar}
use Rattle.lw_grammar.specs.declared.rule.Rule.{Rule}
use Rattle.lw_grammar.specs.declared.rule.Element.TheVariants.{Act}
use Rattle.lw_grammar.specs.declared.declared_types.Interface.{Interface}
use Rattle.lw_grammar.specs.Leaves as leaf
use Rattle.lw_grammar.specs.Leaves.{Leaf, leaves}
use Rattle.lw_grammar.specs.Named.{IsInterface, declared_interface, declared_union}
use Rattle.lw_grammar.specs.Subtypes.{IsDeclared, by_interface, InfersType, IsDirectlyBelow, IsSubtype}
use Rattle.lw_grammar.specs.Subtypes as below
use Rattle.lw_grammar.proofs.FirstLemmas.{first_item}
use Rattle.lw_grammar.proofs.LeafLemmas.{leaf_equations}
use Rattle.lw_faults.specs.Steps.{Step, step, IsBehind}
use Rattle.lw_faults.specs.Properties.{NotASubtype}
use Rattle.lw_faults.specs.Properties as property
use Rattle.lw_faults.specs.Worked.{StandsAlone, StandsNowhere, no_place, interface_of, rule_returning, s_interface, s_action, making_s}
use Rattle.lw_grammar.proofs.Every.{Every, every_of, differ, first_here, first_later, meant}
use Rattle.lw_faults.proofs.StepLemmas.{holds_of_step, rule_there, own_step}
use Rattle.lw_faults.proofs.WorkedSteps.{to_act}

module _ (above : List (List ℕ × Span)) (s : Span) where
  abbrev G : Grammar
  G = making_s above s

  abbrev A : Rule
  A = rule_returning (codes "T") (Act (s_action s))

  abbrev t_interface : Interface
  t_interface = interface_of (codes "T") [] []

  t_named : IsInterface G (codes "T") 0 t_interface
  t_named = meant declared_interface declared_union (codes "T") G.interfaces G.unions 0 t_interface (first_here refl) tt

  s_named : IsInterface G (codes "S") 1 (s_interface above)
  s_named = meant declared_interface declared_union (codes "S") G.interfaces G.unions 1 (s_interface above) (first_later (differ _ _ refl) (first_here refl)) tt

  t_declared : IsDeclared G (codes "T")
  t_declared = by_interface 0 t_interface t_named

  a_leaves : leaves A.body ≡ leaf.Act (s_action s) ∷ []
  a_leaves = simp leaf_equations

  -- the rule's type is declared, so nothing is inferred
  infers_none : (rule : Rule) (name : List ℕ) → Contains G.rules rule → ¬ InfersType G rule name
  infers_none rule name has is =
      let turned : InfersType G A name = subst (λ (x : Rule). InfersType G x name) (sym (every_of (λ x. A ≡ x) (A ∷ []) rule (refl, tt) has)) is in
      turned.1 (subst (IsDeclared G) (sym turned.0.1) t_declared)

  -- the only step is the action
  abbrev IsAction : Rule → Leaf → Type 0
  IsAction rule (leaf.Act a) = (rule.file ≡ 0) × (a ≡ s_action s)
  IsAction rule _ = ⊥

  only_action : {rule written : Rule} {before : List Step} {l : Leaf} → IsBehind G rule before (step written l) → IsAction written l
  only_action is = holds_of_step G IsAction (subst (Every (IsAction A)) (sym a_leaves) ((refl, refl), tt), tt) is

  pub found : ¬ IsSubtype G (codes "S") (codes "T") → StandsAlone (NotASubtype G) 0 s (codes "S")
  found apart =
      (property.acted A A [] (s_action s) (codes "T") (own_step G (0, omega arith, refl) refl (to_act G) (λ is. is.2)) (refl, refl) t_declared apart, others)
    where
      others : (f : ℕ) (t : Span) (n : List ℕ) → NotASubtype G f t n → (f ≡ 0) × (t ≡ s) × (n ≡ codes "S")
      others f t n (property.acted rule written before a type_name is _ _ _) =
          let it = only_action is in (it.0, ap (λ x. x.span) it.1, ap (λ x. x.type_name) it.1)
      others f t n (property.called rule written called before name at type_name under is _ _ _ _ _) =
          absurd (only_action is)

  pub nowhere_found : IsSubtype G (codes "S") (codes "T") → StandsNowhere (NotASubtype G)
  nowhere_found under f t n (property.acted rule written before a type_name is typed _ apart) =
      let it = only_action is in
      let rule_is : A ≡ rule = every_of (λ x. A ≡ x) (A ∷ []) rule (refl, tt) (rule_there G is) in
      let type_is : type_name ≡ codes "T" = (subst (λ (x : Rule). below.HasType G x type_name) (sym rule_is) typed).1 in
      let name_is : a.type_name ≡ codes "S" = ap (λ x. x.type_name) it.1 in
      apart (subst (IsSubtype G a.type_name) (sym type_is) (subst (λ x. IsSubtype G x (codes "T")) (sym name_is) under))
  nowhere_found under f t n (property.called rule written called before name at type_name other is _ _ _ _ _) = only_action is

-- S extends nothing
nothing_above : (s : Span) (top : List ℕ) → ¬ IsDirectlyBelow (making_s [] s) (codes "S") top
nothing_above s top (below.extends i interface is has) =
    none (subst (λ (x : Interface). Contains (map (λ n. n.0) x.above) top) (first_item is.first (s_named [] s).first) has)
  where
    none : ¬ Contains {X = List ℕ} [] top
    none (k, inside, at) = omega (arith, inside)
nothing_above s top (below.is_member u union t is has) = none-some union is.first.there
nothing_above s top (below.acts rule all a in_rules infers _ _) = infers_none [] s rule top in_rules infers
nothing_above s top (below.calls rule all name t r called in_rules infers _ _ _ _) = infers_none [] s rule top in_rules infers

pub apart : (s : Span) → StandsAlone (NotASubtype (making_s [] s)) 0 s (codes "S")
apart s = found [] s (λ is. by is refl refl)
  where
    by : {one top : List ℕ} → IsSubtype (making_s [] s) one top → one ≡ codes "S" → top ≡ codes "T" → ⊥
    by below.same is was = differ (codes "S") (codes "T") refl (sym is ∙ was)
    by (below.up {above} direct _) is was = nothing_above s above (subst (λ n. IsDirectlyBelow (making_s [] s) n above) is direct)

abbrev s_above : List (List ℕ × Span)
s_above = (codes "T", no_place) ∷ []

pub extending : (s : Span) → StandsNowhere (NotASubtype (making_s s_above s))
extending s = nowhere_found s_above s (below.up (below.extends 1 (s_interface s_above) (s_named s_above s) (0, omega arith, refl)) below.same)
