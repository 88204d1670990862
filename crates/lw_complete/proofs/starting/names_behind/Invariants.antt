use Rattle.std.proofs.Common.{[], ℕ, List, take}
use Rattle.lw_faults.specs.Finding.{Finds, OfSome}
use Rattle.lw_parse.specs.Parsers.{ParserParts}
use Rattle.lw_scoping.specs.Links.{Trees}
use Rattle.lw_complete.specs.Starts.{AreMarksBehind, IsBlankReady}
use Rattle.lw_complete.specs.Typing.{IsTypedAmong}
use Rattle.lw_complete.proofs.BlankFound.{IsFoundBy}
use Rattle.lw_complete.proofs.starting.names_behind.Given as goal

-- those of the sentences so far
abbrev pub invariant-sentences : goal.invariant-sentences
invariant-sentences l =
    (parser : ParserParts) (ready : IsBlankReady l.typing parser l.start l.before l.blank) (trees : Trees) (address : List ℕ) → AreMarksBehind ready l.sentences →
    IsTypedAmong l.typing trees address →
    Finds (OfSome (IsFoundBy ready trees address) (take l.after-index l.sentences)) [] l.names.items
