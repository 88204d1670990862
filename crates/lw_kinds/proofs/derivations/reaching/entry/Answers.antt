use Rattle.std.proofs.Common.{◌≡◌, true, true≢false, Some, slice_get, length, refl, sym, ap, ◌∙◌, subst, arith}
use Rattle.std.proofs.lemmas.Option.{slice_get_read, slice_get_within}
use Rattle.lw_grammar.specs.declared.rule.Rule.{Rule}
use Rattle.lw_kinds.proofs.BelowLemmas.{each_more}
use Rattle.lw_kinds.proofs.derivations.reaching.entry.Goals as goal

pub returns-then-is_root_entry : goal.returns-then-is_root_entry
returns-then-is_root_entry c =
    let items = c.as_slice-rule-items.result.now in
    let rule = c.rule-item.result in
    let here = slice_get_read items (length items) c.loop-number.number rule refl c.loop-number-test.true c.rule-item.is in (
      rule,
      record {
        there = subst (λ xs. slice_get xs c.loop-number.number ≡ Some rule) c.as_slice-rule-items.ensures here;
        does = c.is_root_entry.ensures.0 c.if-is_root_entry.true;
        none_before = λ k x below at. c.loop-number.invariant k x below at;
      },
    )

pub loop-number-preserved : goal.loop-number-preserved
loop-number-preserved c =
    let items = c.as_slice-rule-items.result.now in
    let rule = c.rule-item.result in
    let here = slice_get_read items (length items) c.loop-number.number rule refl c.loop-number-test.true c.rule-item.is in
    each_more (λ (x : Rule). ¬ ((x.is_entry ≡ true) × (x.file ≡ 0))) c.args.g.now.rules c.loop-number.number rule
    (subst (λ xs. slice_get xs c.loop-number.number ≡ Some rule) c.as_slice-rule-items.ensures here) c.loop-number.invariant
    (λ does. true≢false (sym (c.is_root_entry.ensures.1 does) ∙ c.if-is_root_entry.false))

pub returns : goal.returns
returns c r rule is =
    let rules = c.args.g.now.rules in
    let same = ap length c.as_slice-rule-items.ensures in
    c.loop-number.invariant r rule (omega (arith, slice_get_within rules r rule is.there, same, c.loop-number-test.false)) is.there is.does
