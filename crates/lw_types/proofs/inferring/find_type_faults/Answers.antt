use Rattle.std.proofs.lemmas.Result.{IfOk-weaker}
use Rattle.lw_faults.specs.Faults.{AreFaults, AreTypeFaults}
use Rattle.std.proofs.Common.{Contains}
use Rattle.lw_types.proofs.TypePhase.{all_type_faults}
use Rattle.lw_types.proofs.inferring.find_type_faults.Goals as goal

pub returns : goal.returns
returns c =
    IfOk-weaker c.into_list.result (AreFaults (Contains c.find_property_faults.new.found)) (AreTypeFaults c.args.g.now)
    (λ list listed. all_type_faults c.args.g.now c.new-found.ensures c.in_ok-find_name_faults.ensures c.in_ok-find_property_faults.ensures listed) c.into_list.ensures
