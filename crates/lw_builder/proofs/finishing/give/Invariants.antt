use Rattle.std.proofs.Common.{◌≡◌, ◌++◌}
use Rattle.std.specs.Vec.Iter.{into_iter_items}
use Rattle.lw_builder.specs.Finishing.{adopts_all}
use Rattle.lw_builder.specs.Tables.{owned}
use Rattle.lw_builder.specs.Owners.{claims_all}
use Rattle.lw_builder.proofs.finishing.give.Given as goal

abbrev pub invariant-loop-prop : goal.invariant-loop-prop
invariant-loop-prop l =
    record {
      left : l.yielded ++ into_iter_items l.prop-iterator ≡ into_iter_items l.initial.prop-iterator;
      finished : l.finished.items ≡ adopts_all l.own l.yielded l.initial.finished.items;
      refs : l.refs.items ≡ claims_all l.own l.yielded l.initial.refs.items;
      kept : l.kept.items ≡ l.initial.kept.items ++ owned l.own l.yielded;
    }
