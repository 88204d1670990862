use Rattle.std.proofs.lemmas.Result.{on_ok_weaker}
use Rattle.lw_faults.specs.Faults.{fault}
use Rattle.lw_faults.proofs.Joining.{Finds-where}
use Rattle.lw_types.specs.Rounds.{ExtendsOther}
use Rattle.lw_types.proofs.naming.names.KnownNames.find_extending_other.Goals as goal

pub returns : goal.returns
returns c =
    let x = c.args.interface.now in
    on_ok_weaker c.add.result
    (Finds-where (ExtendsOther c.args.self.now.g.now x) (fault 19 x.file x.span x.name) (c.extends_other.ensures.0 c.if-not-extends_other.false)) c.add.ensures
