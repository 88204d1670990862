-- Mixed data type rules, from what single rules add.
use Rattle.std.proofs.Common.{◌≡◌, ◌↔◌, ℕ, List, Bool, true, false, not, IsTrue, Contains, refl, sym, subst}
use Rattle.std.proofs.lemmas.Bool.{false≢true}
use Rattle.lw_base.specs.declared.token.Span.{Span}
use Rattle.lw_grammar.specs.declared.fault.GrammarFault.{GrammarFault}
use Rattle.lw_grammar.specs.declared.grammar.Grammar.{Grammar}
use Rattle.lw_grammar.specs.declared.rule.Rule.{Rule}
use Rattle.lw_grammar.specs.declared.rule.RuleResult.{RuleResult}
use Rattle.lw_grammar.specs.declared.rule.RuleResult.TheVariants.{Own, Returns, Gives, Infers}
use Rattle.lw_grammar.specs.declared.declared_types.Interface.{Interface}
use Rattle.lw_grammar.specs.Named.{IsInterface, declared_interface, declared_union}
use Rattle.lw_grammar.proofs.Meaning.{one_of_two}
use Rattle.lw_faults.specs.DataTypes.{MixedDataTypeRule, gives, infers, returns, IsPlainUnion}
use Rattle.lw_faults.specs.Faults.{fault}
use Rattle.lw_faults.specs.Finding.{Finds, IsFaultOf, AtSome}
use Rattle.lw_faults.proofs.Joining.{Finds-told, told_fault_of}
use Rattle.lw_gramcheck.specs.Parts.{IsMixed, MixedHere}
use Rattle.lw_gramcheck.proofs.Places.{stands_in, place_in}

-- what a test says that is turned round
pub turned : (b : Bool) {P : Type 0} → IsTrue b ↔ P → IsTrue (not b) ↔ (¬ P)
turned true {P} exact = (λ (is : false ≡ true). λ (so : P). false≢true is, λ none. absurd (none (exact.0 refl)))
turned false {P} exact = (λ (is : true ≡ true). λ (so : P). false≢true (exact.1 so), λ none. refl)

module _ (g : Grammar) where
  pub no_plain_union : (name : List ℕ) (i : ℕ) (x : Interface) → IsInterface g name i x → ¬ IsPlainUnion g name
  no_plain_union name i x is (u, union, is_union, plain) =
      one_of_two declared_interface declared_union name g.interfaces g.unions i u x union is is_union

  mixed_rule : (rule : Rule) → Contains g.rules rule → (result : RuleResult) → rule.result ≡ result → IsMixed g rule result →
      MixedDataTypeRule g rule.file rule.span rule.name
  mixed_rule rule stands Own is mixed = absurd mixed
  mixed_rule rule stands (Returns name s) is mixed = returns rule name s stands mixed.0 is mixed.1
  mixed_rule rule stands (Gives p) is mixed = gives rule p stands is mixed
  mixed_rule rule stands (Infers name s) is mixed = infers rule name s stands mixed is

  mixed_to : (f : GrammarFault) → AtSome (MixedHere g) g.rules f → IsFaultOf 13 (MixedDataTypeRule g) f
  mixed_to f (r, rule, at, (mixed, told)) =
      told_fault_of (MixedDataTypeRule g) rule.file rule.span rule.name told (mixed_rule rule (stands_in g.rules r rule at) rule.result refl mixed)

  here : (rule : Rule) → Contains g.rules rule → IsMixed g rule rule.result → AtSome (MixedHere g) g.rules (fault 13 rule.file rule.span rule.name)
  here rule stands mixed = let place = place_in g.rules rule stands in (place.0, rule, place.1, (mixed, refl))

  mixed_from : (file : ℕ) (s : Span) (name : List ℕ) → MixedDataTypeRule g file s name → AtSome (MixedHere g) g.rules (fault 13 file s name)
  mixed_from _ _ _ (gives rule p stands is so) = here rule stands (subst (IsMixed g rule) (sym is) so)
  mixed_from _ _ _ (infers rule name s stands so is) = here rule stands (subst (IsMixed g rule) (sym is) so)
  mixed_from _ _ _ (returns rule name s stands so is none) = here rule stands (subst (IsMixed g rule) (sym is) (so, none))

  pub found_mixed : {a b : List GrammarFault} → Finds (AtSome (MixedHere g) g.rules) a b → Finds (IsFaultOf 13 (MixedDataTypeRule g)) a b
  found_mixed finds = Finds-told (MixedDataTypeRule g) mixed_to mixed_from finds
