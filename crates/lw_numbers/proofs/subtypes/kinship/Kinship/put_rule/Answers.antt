use Rattle.std.proofs.Common.{map, ap, ◌∙◌, subst}
use Rattle.lw_numbers.specs.Parts.{leaf_of}
use Rattle.lw_numbers.specs.Kin.{LeavesLead}
use Rattle.lw_numbers.specs.KinGraph.{PutsKin}
use Rattle.lw_numbers.proofs.Placing.{puts_then}
use Rattle.lw_numbers.proofs.subtypes.kinship.Kinship.put_rule.Goals as goal

pub returns : goal.returns
returns c =
    let are = ap (map leaf_of) c.as_slice.ensures.value ∙ c.in_ok-found.ensures in
    puts_then (subst (λ ls. PutsKin (LeavesLead c.args.g.now c.args.number ls) c.args.self.now c.put_leaves.new.self) are c.in_ok-put_leaves.ensures) c.in_ok-put_result.ensures
