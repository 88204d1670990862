use Rattle.std.proofs.Common.{◌≡◌, ◌∙◌, [], arith}
use Rattle.std.proofs.lemmas.Grind.{common_steps}
use Rattle.std.specs.Vec.Iter.{into_iter_items}
use Rattle.lw_check.specs.Sorting.{diagnostics_of}
use Rattle.lw_check.proofs.Showing.{next_within, left_more, shown_more, shown_all}
use Rattle.lw_check.proofs.document.told_shown.Goals as goal

pub sorted_diagnostics-requires-clause-root : goal.sorted_diagnostics-requires-clause-root
sorted_diagnostics-requires-clause-root c = c.requires.known.root

pub sorted_diagnostics-requires-clause-locals : goal.sorted_diagnostics-requires-clause-locals
sorted_diagnostics-requires-clause-locals c = c.requires.known.symbols

pub sorted_diagnostics-requires-clause-count : goal.sorted_diagnostics-requires-clause-count
sorted_diagnostics-requires-clause-count c = c.requires.known.count

pub sorted_diagnostics-requires-clause-known : goal.sorted_diagnostics-requires-clause-known
sorted_diagnostics-requires-clause-known c = c.requires.known.known

pub diagnostic_shown-requires : goal.diagnostic_shown-requires
diagnostic_shown-requires c =
    let g = c.requires.known.known.0 in
    next_within g c.args.tree.now c.args.answers.now c.args.doc.0 c.args.index.now c.args.document.now c.requires.known.stands c.showing.yielded _ c.in_ok-found.found.items _
    c.in-Some.diagnostic (c.in_ok-found.ensures g c.requires.known.known.1) (c.showing.invariant.left ∙ c.into_iter-diagnostic-iterator.ensures.into_iter_gives.0)
    c.in-Some.ensures.steps.0

pub returns : goal.returns
returns c g types =
    let end : into_iter_items c.showing.diagnostic-iterator ≡ [] = grind (arith, common_steps, c.in-None.ensures.steps.0) in (
      diagnostics_of c.in_ok-found.found.items,
      c.in_ok-found.ensures g types,
      shown_all c.args.document.now c.showing.yielded _ _ c.showing.list
          (c.showing.invariant.left ∙ c.into_iter-diagnostic-iterator.ensures.into_iter_gives.0) end c.showing.invariant.shown,
    )

pub showing-preserved : goal.showing-preserved
showing-preserved c = record {
  left = left_more _ _ _ _ _ c.showing.invariant.left c.in-Some.ensures.steps.0;
  shown = shown_more c.args.document.now c.showing.yielded c.showing.list _ c.in-Some.diagnostic c.diagnostic_shown.result c.showing.invariant.shown
      c.diagnostic_shown.ensures c.in_ok-push.ensures.ok;
}
