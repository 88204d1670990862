use Rattle.std.proofs.Common.{◌≡◌, ◌≤◌, Some, slice_get, length, refl, subst}
use Rattle.std.proofs.lemmas.Option.{slice_get_read}
use Rattle.lw_grammar.specs.declared.rule.Rule.{Rule}
use Rattle.lw_graph.specs.Walks.{HasNode}
use Rattle.lw_kinds.specs.Telling.{TellsRepeats}
use Rattle.lw_kinds.proofs.FindsLemmas.{Finds-same, Finds-more, Finds-all}
use Rattle.lw_kinds.proofs.ToldRules.{told_repeats}
use Rattle.lw_kinds.proofs.derivations.finding.find_repeating_nothing.Goals as goal

pub loop-number-preserved : goal.loop-number-preserved
loop-number-preserved c =
    let g = c.args.names.now.g.now in
    let rules = c.as_slice-rule-items.result.now in
    let i = c.loop-number.number in
    let rule = c.rule-item.result in
    Finds-more (λ k (rule : Rule) f. HasNode c.args.reading.now.reached k × TellsRepeats g rule rule.body f) g.rules i rule
    (subst (λ xs. slice_get xs i ≡ Some rule) c.as_slice-rule-items.ensures (slice_get_read rules (length rules) i rule refl c.loop-number-test.true c.rule-item.is))
    c.args.found.now c.loop-number.found c.find_in_rule.new.found c.loop-number.invariant c.in_ok-find_in_rule.ensures

pub returns : goal.returns
returns c =
    let g = c.args.names.now.g.now in
    Finds-same _ _ (told_repeats g c.args.reading.now c.requires.read) c.args.found.now c.loop-number.found
    (Finds-all (λ k (rule : Rule) f. HasNode c.args.reading.now.reached k × TellsRepeats g rule rule.body f) g.rules c.loop-number.number
    (subst (λ xs. length xs ≤ c.loop-number.number) c.as_slice-rule-items.ensures c.loop-number-test.false) c.args.found.now c.loop-number.found c.loop-number.invariant)
