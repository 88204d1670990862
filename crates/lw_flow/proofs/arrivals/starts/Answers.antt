use Rattle.std.proofs.Common.{◌↔◌, ◌<◌, ◌+◌, length, sym, ap, subst, arith}
use Rattle.std.proofs.lemmas.Option.{slice_get_within}
use Rattle.lw_flow.specs.Arrivals.{StartsRule}
use Rattle.lw_flow.specs.Rows.{InTable}
use Rattle.lw_flow.proofs.ArrivalLemmas.{starts_more}
use Rattle.lw_flow.proofs.arrivals.starts.Goals as goal

pub loop-rule-preserved : goal.loop-rule-preserved
loop-rule-preserved c =
    let g = c.args.source.now.grammar.now in
    let i = c.loop-rule.rule-index in
    record {
      sized = omega (arith, c.loop-rule.invariant.sized, c.in_ok-push.ensures.len);
      exact = λ w m.
          subst (λ rows. InTable rows w m ↔ ((w < i + 1) × StartsRule g w m)) (sym c.in_ok-push.ensures.items)
          (starts_more g c.as_slice-rule-items.result.now c.as_slice-rule-items.ensures c.loop-rule.marks.items i c.rule-item.result c.in_ok-start.field-0
          c.loop-rule-test.true c.rule-item.is c.loop-rule.invariant.sized c.in_ok-start.ensures c.loop-rule.invariant.exact w m);
    }

pub returns-clause-exact : goal.returns-clause-exact
returns-clause-exact c w m =
    let g = c.args.source.now.grammar.now in
    let all = ap length c.as_slice-rule-items.ensures in (
      λ there. ((c.loop-rule.invariant.exact w m).0 there).1,
      λ start.
          (c.loop-rule.invariant.exact w m).1 (omega (arith, slice_get_within g.rules w start.rule start.there, all, c.loop-rule-test.false), start),
    )
