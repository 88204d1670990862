use Rattle.std.proofs.Common.{◌↔◌, take, Contains}
use Rattle.std.specs.List.{flat_map}
use Rattle.lw_grammar.specs.Leaves.{leaves}
use Rattle.lw_flow.specs.declared.effect.Mark.{Mark}
use Rattle.lw_flow.specs.Rows.{InTable}
use Rattle.lw_flow.specs.Visits.{PutsVisits, MovedFirst, InRow, InSome}
use Rattle.lw_flow.proofs.walking.+elements.Given as goal

abbrev pub invariant-walk_row-loop-part : goal.invariant-walk_row-loop-part
invariant-walk_row-loop-part l = record {
  moved : (m : Mark) → Contains l.marks.keys m ↔ MovedFirst l.source.grammar.now (InTable l.table) l.start l.parts l.part-index m;
  visits :
      PutsVisits l.source.grammar.now (InRow l.source.grammar.now (InTable l.table) l.start l.parts l.part-index) (flat_map leaves (take l.part-index l.parts)) l.initial.visits.items
      l.visits.items;
}

abbrev pub invariant-walk_each-loop-part : goal.invariant-walk_each-loop-part
invariant-walk_each-loop-part l =
    PutsVisits l.source.grammar.now (InSome l.source.grammar.now (InTable l.table) l.start (take l.part-index l.parts)) (flat_map leaves (take l.part-index l.parts))
    l.initial.visits.items l.visits.items
