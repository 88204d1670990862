-- What is told at one leaf: one fault, or none.
use Rattle.std.proofs.Common.{◌≡◌, ℕ, List, Some, None, Bool, true, false, refl, sym, ◌∙◌, subst}
use Rattle.std.proofs.lemmas.Bool.{false≢true}
use Rattle.lw_base.specs.declared.token.Span.{Span}
use Rattle.lw_grammar.specs.declared.fault.GrammarFault.{GrammarFault}
use Rattle.lw_grammar.specs.declared.grammar.Grammar.{Grammar}
use Rattle.lw_grammar.specs.declared.rule.Action.{Action}
use Rattle.lw_grammar.specs.declared.rule.Rule.{Rule}
use Rattle.lw_grammar.specs.Leaves as leaf
use Rattle.lw_faults.specs.Faults.{fault}
use Rattle.lw_faults.specs.Steps.{IsNodeCall}
use Rattle.lw_faults.specs.Finding.{Finds}
use Rattle.lw_faults.proofs.Joining.{Finds-iff}
use Rattle.lw_flow.specs.declared.before.Before.{Before}
use Rattle.lw_gramcheck.specs.Found.{IsToldAt, too_late, too_early, called_late}

module _ (g : Grammar) (rule : Rule) (entry : Before) where
  -- ---- at an action

  module _ (a : Action) where
    action_alone : (f : GrammarFault) → IsToldAt g rule entry (leaf.Act a) f → f ≡ fault 11 rule.file a.span rule.name
    action_alone _ (too_late _ none behind) = refl
    action_alone _ (too_early _ put some first) = refl

    told_action : IsToldAt g rule entry (leaf.Act a) (fault 11 rule.file a.span rule.name) → {old new : List GrammarFault} →
        Finds (λ f. f ≡ fault 11 rule.file a.span rule.name) old new → Finds (IsToldAt g rule entry (leaf.Act a)) old new
    told_action told finds =
        let P : GrammarFault → Type 0 = IsToldAt g rule entry (leaf.Act a) in
        Finds-iff (λ f. (λ is. subst P (sym is) told, action_alone f)) finds

    pub told_late : a.put ≡ None → entry.behind ≡ true → {old new : List GrammarFault} →
        Finds (λ f. f ≡ fault 11 rule.file a.span rule.name) old new → Finds (IsToldAt g rule entry (leaf.Act a)) old new
    told_late none behind finds = told_action (too_late a none behind) finds

    pub told_early : (put : List ℕ × Bool) → a.put ≡ Some put → entry.first ≡ true → {old new : List GrammarFault} →
        Finds (λ f. f ≡ fault 11 rule.file a.span rule.name) old new → Finds (IsToldAt g rule entry (leaf.Act a)) old new
    told_early put some first finds = told_action (too_early a put some first) finds

  -- ---- at a call

  module _ (name : List ℕ) (s : Span) where
    call_alone : (f : GrammarFault) → IsToldAt g rule entry (leaf.Call name s) f → f ≡ fault 12 rule.file s name
    call_alone _ (called_late _ _ called calls filled) = refl

    pub told_call : IsNodeCall g (leaf.Call name s) → entry.filled ≡ true → {old new : List GrammarFault} →
        Finds (λ f. f ≡ fault 12 rule.file s name) old new → Finds (IsToldAt g rule entry (leaf.Call name s)) old new
    told_call (called, calls) filled finds =
        let P : GrammarFault → Type 0 = IsToldAt g rule entry (leaf.Call name s) in
        Finds-iff (λ f. (λ is. subst P (sym is) (called_late name s called calls filled), call_alone f)) finds

    pub none_where_unfilled : entry.filled ≡ false → (f : GrammarFault) → ¬ IsToldAt g rule entry (leaf.Call name s) f
    none_where_unfilled unfilled _ (called_late _ _ called calls filled) = false≢true (sym unfilled ∙ filled)

    pub none_at_other_call : ¬ IsNodeCall g (leaf.Call name s) → (f : GrammarFault) → ¬ IsToldAt g rule entry (leaf.Call name s) f
    none_at_other_call other _ (called_late _ _ called calls filled) = other (called, calls)
