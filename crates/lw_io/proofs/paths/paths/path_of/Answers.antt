use Rattle.std.proofs.Common.{◌≡◌, MatchOption}
use Rattle.std.proofs.lemmas.Result.{IfOk-weaker}
use Rattle.percent_encoding.specs.Percent.{percent_decode}
use Rattle.lw_io.specs.Paths.{HasNoPath, IsPathOf}
use Rattle.lw_io.specs.Written.{CanBePath}
use Rattle.lw_io.proofs.WrittenPaths.{path_found}
use Rattle.lw_io.proofs.paths.paths.path_of.Goals as goal

pub returns-in-Some : goal.returns-in-Some
returns-in-Some c =
    IfOk-weaker c.decoded.result
    (λ found. MatchOption found (¬ CanBePath (percent_decode c.in-Some.written.now)) (λ path. (path ≡ percent_decode c.in-Some.written.now) × CanBePath path))
    (λ found. MatchOption found (HasNoPath c.args.address.now) (IsPathOf c.args.address.now))
    (λ found is. path_found (rw c.text.ensures.text at c.in-Some.ensures) found is) c.decoded.ensures
