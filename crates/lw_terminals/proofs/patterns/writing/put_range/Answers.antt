use Rattle.std.proofs.Common.{◌∙◌}
use Rattle.std.proofs.lemmas.Result.{on_ok_weaker}
use Rattle.lw_terminals.proofs.CallForms.{range_put}
use Rattle.lw_terminals.proofs.patterns.writing.put_range.Goals as goal

pub returns : goal.returns
returns c g s =
    on_ok_weaker c.put.result
    (range_put g s c.args.from.now c.args.to.now c.as_str.result.now c.in-Some-Some.first c.in-Some-Some.last c.args.draft.now c.put.new.self c.in-Some-Some.ensures
    c.in-Some-Some.ensures' c.requires (c.as_str.ensures.value ∙ c.in_ok-class.ensures))
    c.put.ensures
