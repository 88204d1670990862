use Rattle.lw_kinds.specs.Gathering.{ArePlacesBelow, IsKindBy}
use Rattle.lw_kinds.proofs.terminals.kind_places.Given as goal

abbrev pub invariant-loop-place : goal.invariant-loop-place
invariant-loop-place l = ArePlacesBelow (IsKindBy l.called l.terminals) l.terminals l.place l.places.items
