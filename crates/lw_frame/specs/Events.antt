-- The history of a reader: the bytes that it was fed, and how many bodies it has handed out.
use Rattle.std.specs.Prelude.{◌+◌, [], ◌++◌}
use Rattle.lw_frame.specs.declared.history.Event.{Event}
use Rattle.lw_frame.specs.declared.history.Event.TheVariants.{Begun, Fed, Given}
use Rattle.lw_frame.specs.declared.history.History.{History}

-- once the event has happened
abbrev pub history_after : Event → History
history_after Begun = record { fed = []; given = 0 }
history_after (Fed before piece) = record before.now { fed = before.now.fed ++ piece.now }
history_after (Given before) = record before.now { given = before.now.given + 1 }
