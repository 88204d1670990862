use Rattle.std.proofs.Common.{◌∙◌, ap}
use Rattle.lw_load.proofs.PathSegments.{kept_texts, walk_on_push}
use Rattle.lw_load.proofs.paths.walk_on.Goals as goal

pub returns-in_ok-push-in_default : goal.returns-in_ok-push-in_default
returns-in_ok-push-in_default c =
    ap kept_texts c.in_ok-push-in_default.ensures.items
    ∙ walk_on_push c.args.absolute c.args.kept.now.items c.args.segment c.in_default.not-empty c.in_default.not-text c.in_default.not-text-2
