use Rattle.std.proofs.Common.{◌∙◌, sym}
use Rattle.lw_flow.proofs.ArrivalLemmas.{start_fragment, start_untyped, start_typed}
use Rattle.lw_flow.proofs.arrivals.start.Goals as goal

pub returns-then-rule : goal.returns-then-rule
returns-then-rule c = start_fragment c.args.source.now.grammar.now c.new-set.ensures.empty c.if-rule.true

pub returns-in-None : goal.returns-in-None
returns-in-None c =
    start_untyped c.args.source.now.grammar.now c.put_mark.new.set.keys c.new-set.ensures.empty c.if-rule.false (sym c.own_number.ensures ∙ c.in-None.is) c.in_ok-put_mark.ensures

pub returns : goal.returns
returns c =
    start_typed c.args.source.now.grammar.now c.put_mark.new.set.keys c.put_mark-2.new.set.keys c.put_mark-3.new.set.keys c.in-Some.number c.new-set.ensures.empty c.if-rule.false (sym c.own_number.ensures ∙ c.in-Some.is) c.in_ok-put_mark.ensures
    c.in_ok-put_mark-2.ensures c.in_ok-put_mark-3.ensures
