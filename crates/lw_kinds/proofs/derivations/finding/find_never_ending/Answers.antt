use Rattle.std.proofs.Common.{◌≡◌, ◌≤◌, Some, slice_get, length, refl, subst}
use Rattle.std.specs.Prelude.{IsTrue}
use Rattle.std.proofs.lemmas.Option.{slice_get_read}
use Rattle.lw_grammar.specs.declared.rule.Rule.{Rule}
use Rattle.lw_graph.specs.Walks.{HasNode}
use Rattle.lw_kinds.specs.Telling.{SpeaksOf}
use Rattle.lw_kinds.proofs.FindsLemmas.{Finds-same, Finds-more, Finds-all}
use Rattle.lw_kinds.proofs.ToldRules.{told_ends}
use Rattle.lw_kinds.proofs.derivations.finding.find_never_ending.Goals as goal

pub loop-number-preserved : goal.loop-number-preserved
loop-number-preserved c =
    let rules = c.as_slice-rule-items.result.now in
    let i = c.loop-number.number in
    let rule = c.rule-item.result in
    Finds-more (λ k (rule : Rule) f. (HasNode c.args.reading.now.reached k × ¬ HasNode c.args.reading.now.ends k) × SpeaksOf 10 rule f) c.args.g.now.rules i rule
    (subst (λ xs. slice_get xs i ≡ Some rule) c.as_slice-rule-items.ensures (slice_get_read rules (length rules) i rule refl c.loop-number-test.true c.rule-item.is))
    c.args.found.now c.loop-number.found c.tell_if.new.found c.loop-number.invariant
    (Finds-same (λ f. IsTrue c.never_ends-is_so.result × SpeaksOf 10 rule f) _ (λ f. (λ is. (c.never_ends-is_so.ensures.0 is.0, is.1), λ is. (c.never_ends-is_so.ensures.1 is.0, is.1)))
    c.loop-number.found c.tell_if.new.found c.in_ok-tell_if.ensures)

pub returns : goal.returns
returns c =
    Finds-same _ _ (told_ends c.args.g.now c.args.reading.now c.requires) c.args.found.now c.loop-number.found
    (Finds-all (λ k (rule : Rule) f. (HasNode c.args.reading.now.reached k × ¬ HasNode c.args.reading.now.ends k) × SpeaksOf 10 rule f) c.args.g.now.rules c.loop-number.number
    (subst (λ xs. length xs ≤ c.loop-number.number) c.as_slice-rule-items.ensures c.loop-number-test.false) c.args.found.now c.loop-number.found c.loop-number.invariant)
