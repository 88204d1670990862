use Rattle.std.proofs.Common.{map, ap, ◌∙◌}
use Rattle.lw_grammar.specs.Written.{term_ranges}
use Rattle.lw_numbers.specs.Parts.{term_range_of}
use Rattle.lw_faults.proofs.Joining.{Finds-more, Finds-all, Finds-read}
use Rattle.lw_gramcheck.specs.BadSites.{BadRange}
use Rattle.lw_gramcheck.proofs.parts.bad_calls.find_bad_ranges.Goals as goal

pub loop-range-preserved : goal.loop-range-preserved
loop-range-preserved c =
    let has = BadRange c.args.terminal.now in
    Finds-more (λ range. has (term_range_of range)) c.deref-range-items.result.now c.loop-range.range-index c.range-item.result c.loop-range-test.true c.range-item.is
    c.loop-range.invariant c.in_ok-find_bad_range.ensures

pub returns : goal.returns
returns c =
    let has = BadRange c.args.terminal.now in
    let ranges = c.deref-range-items.result.now in
    Finds-read term_range_of has ranges (term_ranges c.args.terminal.now.body) (ap (map term_range_of) c.deref-range-items.ensures.value ∙ c.in_ok-ranges.ensures)
    (Finds-all (λ range. has (term_range_of range)) ranges c.loop-range.range-index c.loop-range-test.false c.loop-range.invariant)
