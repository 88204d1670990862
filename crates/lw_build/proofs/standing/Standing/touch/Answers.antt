use Rattle.std.proofs.Common.{sym, ◌∙◌}
use Rattle.lw_build.specs.Standing as standing
use Rattle.lw_build.proofs.Enlisting.{not_err}
use Rattle.lw_build.proofs.Sets.{left_number, stays_number}
use Rattle.lw_build.proofs.standing.Standing.touch.Goals as goal

pub returns-else-is_err : goal.returns-else-is_err
returns-else-is_err c =
    standing.touched (left_number c.args.self.now.untouched c.remove.new.self c.args.d.0 c.remove.ensures.updates)
    (stays_number c.args.self.now.untouched c.remove.new.self c.args.d.0 c.remove.ensures.updates) c.put_names.ensures.stay
    (not_err c.put_names.result c.put_names.ensures.put (sym c.is_err.ensures.value ∙ c.if-is_err.false))
