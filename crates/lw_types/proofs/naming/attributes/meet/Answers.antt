use Rattle.std.proofs.Common.{Contains}
use Rattle.std.proofs.lemmas.Bool.Decides.{not_from_Decides}
use Rattle.std.proofs.lemmas.Result.{on_ok_weaker}
use Rattle.lw_faults.specs.Faults.{fault}
use Rattle.lw_faults.proofs.Joining.{Finds-where, Finds-unless}
use Rattle.lw_types.proofs.Deciding.{has_name}
use Rattle.lw_types.proofs.naming.attributes.meet.Goals as goal

pub returns-then-not-is_second-clause-told : goal.returns-then-not-is_second-clause-told
returns-then-not-is_second-clause-told c =
    let a = c.args.attribute.now in
    let names = c.args.names.now.keys in
    Finds-unless (Contains names a.name) (fault 4 c.args.file a.span a.name)
    (not_from_Decides c.contains-is_second.result (has_name names a.name c.contains-is_second.result c.contains-is_second.ensures)
    c.if-not-is_second.true)

pub returns-clause-told : goal.returns-clause-told
returns-clause-told c =
    let a = c.args.attribute.now in
    let names = c.args.names.now.keys in
    on_ok_weaker c.add.result
    (Finds-where (Contains names a.name) (fault 4 c.args.file a.span a.name)
    ((has_name names a.name c.contains-is_second.result c.contains-is_second.ensures).0 c.if-not-is_second.false)) c.add.ensures
