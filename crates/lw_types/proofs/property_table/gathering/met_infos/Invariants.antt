use Rattle.std.proofs.Common.{◌≡◌, map, take}
use Rattle.lw_types.specs.Gathered.{info_of}
use Rattle.lw_types.proofs.property_table.gathering.met_infos.Given as goal

abbrev pub invariant-loop-at : goal.invariant-loop-at
invariant-loop-at l = l.infos.items ≡ map info_of (take l.at l.props.entries)
