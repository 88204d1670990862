use Rattle.std.proofs.Common.{◌≡◌}
use Rattle.std.proofs.lemmas.Result.{on_ok_weaker}
use Rattle.lw_faults.proofs.Joining.{Finds-where}
use Rattle.lw_types.specs.declared.naming.mentions.Role.TheVariants.{InfersType}
use Rattle.lw_types.proofs.Gathering.{Finds-put}
use Rattle.lw_types.proofs.naming.names.put_inferred.Goals as goal

pub returns-in-InfersType : goal.returns-in-InfersType
returns-in-InfersType c =
    let m = c.args.mention.now in
    on_ok_weaker c.put_name.result (λ put. Finds-where (m.role ≡ InfersType) m.name.now c.in-InfersType.is (Finds-put m.name.now put)) c.put_name.ensures
