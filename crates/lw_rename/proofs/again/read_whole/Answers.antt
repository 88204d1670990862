use Rattle.std.proofs.Common.{subst}
use Rattle.lw_places.specs.Renamed.{CannotBeRead, broken}
use Rattle.lw_rename.proofs.again.read_whole.Goals as goal

pub returns-in-Ok-Broken : goal.returns-in-Ok-Broken
returns-in-Ok-Broken c =
    subst (CannotBeRead c.args.language.now.grammar) c.in-Some.ensures.0
    (broken (rw c.in-Ok-Broken.field-0-is at c.in-Ok-Broken.ensures.reads))
