use Rattle.std.proofs.Common.{rules}
use Rattle.std.proofs.lemmas.Result.{on_ok_weaker}
use Rattle.lw_faults.proofs.Joining.{Finds-where}
use Rattle.lw_gramcheck.specs.Parts.{IsMarked, at_rule}
use Rattle.lw_gramcheck.proofs.parts.entries.find_mark.Goals as goal

pub returns : goal.returns
returns c =
    let marked : IsMarked c.args.rule.now = search rules in
    on_ok_weaker c.add.result (Finds-where (IsMarked c.args.rule.now) (at_rule 2 c.args.rule.now) marked) c.add.ensures
