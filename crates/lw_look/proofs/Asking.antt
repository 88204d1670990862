-- A step takes a way of a choice, or nothing is asked where it is done.
use Rattle.std.proofs.Common.{ℕ, List, [], subst}
use Rattle.lw_grammar.specs.declared.grammar.Grammar.{Grammar}
use Rattle.lw_grammar.specs.declared.rule.Element.{Element}
use Rattle.lw_grammar.specs.declared.rule.Element.TheOpen as layer
use Rattle.lw_grammar.specs.declared.rule.Element.TheOpen.{Element-F}
use Rattle.lw_grammar.specs.declared.rule.Value0.{Value0}
use Rattle.lw_grammar.specs.declared.rule.Value0.TheOpen as value
use Rattle.lw_grammar.specs.declared.rule.Value0.TheOpen.{Value0-F}
use Rattle.lw_grammar.specs.declared.rule.Op.{Op}
use Rattle.lw_grammar.specs.Kinds.{Kinds}
use Rattle.lw_grammar.specs.Marks.{Mark}
use Rattle.lw_look.specs.Sites.{PartSite, ElementAt, ValueAt, ValueCallsAt}
use Rattle.lw_look.specs.Sites as site
use Rattle.lw_look.specs.Things.{Thing, Do, Assigned, Leave, Ways, StepsTo, AsksNothing}
use Rattle.lw_look.specs.Things as t
use Rattle.lw_look.proofs.OneWay.{two_forms, two_value_forms}

-- the forms of elements and of values at which a choice is asked
abbrev IsAsked : Element-F Element → Type 0
IsAsked (layer.Choice es s) = Unit {0}
IsAsked (layer.Maybe e s) = Unit {0}
IsAsked _ = ⊥

abbrev IsAskedValue : Value0-F Value0 → Type 0
IsAskedValue (value.Choice vs s) = Unit {0}
IsAskedValue _ = ⊥

module _ (g : Grammar) (kinds : Kinds) where
  element_quiet : {s : PartSite} {f : Element-F Element} → ElementAt g s f → (IsAsked f → ⊥) → AsksNothing g kinds (Do s)
  element_quiet at quiet choice w xs (t.alternative (site.element other is)) = quiet (subst IsAsked (two_forms g kinds other at) tt)
  element_quiet at quiet choice w xs (t.enters (site.optional other)) = quiet (subst IsAsked (two_forms g kinds other at) tt)
  element_quiet at quiet choice w xs (t.passes (site.optional other)) = quiet (subst IsAsked (two_forms g kinds other at) tt)

  value_quiet : {s : PartSite} {p : List ℕ} {op : Op} {v : Value0} {f : Value0-F Value0} → ValueAt g s v f → (IsAskedValue f → ⊥) →
      AsksNothing g kinds (Assigned p op s)
  value_quiet at quiet choice w xs (t.value_ (site.assigned other is)) = quiet (subst IsAskedValue (two_value_forms g kinds other at) tt)

  call_quiet : {s : PartSite} {p : List ℕ} {op : Op} {v : Value0} {name : List ℕ} → ValueCallsAt g s v name → AsksNothing g kinds (Assigned p op s)
  call_quiet (site.calls at) = value_quiet at (λ none. none)
  call_quiet (site.crosses at) = value_quiet at (λ none. none)
  call_quiet (site.crosses_by_name name at is) = value_quiet at (λ none. none)

  leave_quiet : (l : Mark) → AsksNothing g kinds (Leave l)
  leave_quiet l choice w xs way = elim way [ ]

  -- `WayOrQuiet x l xs`: the step from x that leaves l and xs takes a way, or x asks nothing
  pub data WayOrQuiet : Thing → List Mark → List Thing → Type 0 where
    asked : {x : Thing} {s : PartSite} {w : ℕ} {xs : List Thing} → Ways g kinds x s w xs → WayOrQuiet x [] xs
    quiet : {x : Thing} {l : List Mark} {xs : List Thing} → AsksNothing g kinds x → WayOrQuiet x l xs

  pub how_done : {x : Thing} {l : List Mark} {xs : List Thing} → StepsTo g kinds x l xs → WayOrQuiet x l xs
  how_done (t.keyword at is) = quiet (element_quiet at (λ none. none))
  how_done (t.called at e) = quiet (element_quiet at (λ none. none))
  how_done (t.assigned at) = quiet (element_quiet at (λ none. none))
  how_done (t.acted at) = quiet (element_quiet at (λ none. none))
  how_done (t.row (site.row at)) = quiet (element_quiet at (λ none. none))
  how_done (t.any at) = quiet (element_quiet at (λ none. none))
  how_done (t.some at) = quiet (element_quiet at (λ none. none))
  how_done (t.keyword_value at is) = quiet (value_quiet at (λ none. none))
  how_done (t.called_value at e) = quiet (call_quiet at)
  how_done (t.left {l}) = quiet (leave_quiet l)
  how_done (t.chosen way) = asked way
