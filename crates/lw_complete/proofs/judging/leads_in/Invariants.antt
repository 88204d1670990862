-- What is told of the references so far.
use Rattle.std.proofs.Common.{List, ℕ, take}
use Rattle.lw_scoping.specs.Links.{Trees}
use Rattle.lw_complete.specs.Judged.{IsToldOf}
use Rattle.lw_complete.specs.Typing.{IsTypedAmong}
use Rattle.lw_complete.proofs.judging.leads_in.Given as goal

abbrev pub invariant-references : goal.invariant-references
invariant-references l =
    (trees : Trees) (address : List ℕ) → IsTypedAmong l.typing trees address →
    IsToldOf l.typing trees address l.tree l.start l.end (take l.reference-index l.reference-items) l.found
