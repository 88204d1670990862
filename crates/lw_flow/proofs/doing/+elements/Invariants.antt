use Rattle.std.proofs.Common.{◌↔◌, [], take, Contains}
use Rattle.lw_flow.specs.declared.effect.Effect.{Effect}
use Rattle.lw_flow.specs.Passing.{Does, DoesFirst}
use Rattle.lw_flow.specs.Rows.{InTable}
use Rattle.lw_flow.specs.Sets.{AddsFrom}
use Rattle.lw_flow.proofs.doing.+elements.Given as goal

abbrev pub invariant-effects_of_row-loop-part : goal.invariant-effects_of_row-loop-part
invariant-effects_of_row-loop-part l = (x : Effect) → Contains l.set.keys x ↔ DoesFirst l.source.grammar.now (InTable l.table) l.parts l.part-index x

abbrev pub invariant-effects_of_any-loop-part : goal.invariant-effects_of_any-loop-part
invariant-effects_of_any-loop-part l = AddsFrom (Does l.source.grammar.now (InTable l.table)) [] (take l.part-index l.parts) l.set.keys
