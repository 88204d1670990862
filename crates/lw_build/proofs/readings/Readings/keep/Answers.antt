use Rattle.std.proofs.Common.{sym, ap, ◌∙◌}
use Rattle.std.specs.FinMap as all
use Rattle.lw_build.proofs.Enlisting.{not_err}
use Rattle.lw_build.proofs.Maps.{number_apart, put_back}
use Rattle.lw_build.proofs.readings.Readings.keep.Goals as goal

pub returns-then-is_err-2-clause-stays : goal.returns-then-is_err-2-clause-stays
returns-then-is_err-2-clause-stays c =
    c.remove.ensures.after
    ∙ ap (λ m. all.remove m c.args.d.0) (not_err c.set.result c.set.ensures.ok (sym c.is_err.ensures.value ∙ c.if-is_err.false))
    ∙ put_back c.args.self.now.index c.args.d.0 (record { uri = c.args.uri.now; exports = c.args.entered.exports.items }) c.requires.none

pub returns-clause-others : goal.returns-clause-others
returns-clause-others c n other =
    (not_err c.insert.result c.insert.ensures.updates (sym c.is_err-2.ensures.value ∙ c.if-is_err-2.false)).2 n (number_apart c.args.d.0 n (λ same. other (sym same)))
