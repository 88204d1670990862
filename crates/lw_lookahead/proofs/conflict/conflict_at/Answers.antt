use Rattle.std.proofs.Common.{◌-◌, Contains, refl, ap, subst, arith}
use Rattle.lw_grammar.specs.KindTexts.{texts_of}
use Rattle.lw_lookahead.specs.Entries.{IsOfBoth}
use Rattle.lw_lookahead.specs.Shared.{IsFirstPrintedOf, heads_at}
use Rattle.lw_lookahead.proofs.ConflictSteps.{are_both, entries_known, printed_as, second_within}
use Rattle.lw_lookahead.proofs.conflict.conflict_at.Goals as goal

pub index-requires : goal.index-requires
index-requires c = omega (arith, (second_within c.args.point.now.ways.items c.args.pair c.requires.pair).1, c.from.ensures)

pub first_printed-requires-clause-entries : goal.first_printed-requires-clause-entries
first_printed-requires-clause-entries c = entries_known (heads_at c.args.point.now) c.args.ways.now.entries c.args.k c.requires.first c.requires.short.short

pub unreachable-requires : goal.unreachable-requires
unreachable-requires c =
    let known = c.requires.known.kinds in
    let heads = c.as_slice-heads.result.now in
    let entries = c.args.ways.now.entries in
    let pair = c.args.pair in
    let none = subst (IsFirstPrintedOf (texts_of known.kinds) c.args.k (λ head. Contains heads head × Contains entries (head, pair.0))) c.in-None.is (c.in_ok-shared.ensures known.kinds known.are) in
    let both = are_both c.args.point.now.ways.items pair c.requires.pair entries c.requires.first (c.from.result - 1) c.index.result.now heads
    (ap (λ n. n - 1) c.from.ensures) c.index.ensures c.as_slice-heads.ensures in
    none c.requires.pair.head ((both c.requires.pair.head).1 c.requires.pair.of_both)

pub returns : goal.returns
returns c kinds of =
    let heads = c.as_slice-heads.result.now in
    let entries = c.args.ways.now.entries in
    let pair = c.args.pair in
    let found = subst (IsFirstPrintedOf (texts_of kinds) c.args.k (λ head. Contains heads head × Contains entries (head, pair.0))) c.in-Some.is (c.in_ok-shared.ensures kinds of) in
    let both = are_both c.args.point.now.ways.items pair c.requires.pair entries c.requires.first (c.from.result - 1) c.index.result.now heads
    (ap (λ n. n - 1) c.from.ensures) c.index.ensures c.as_slice-heads.ensures in
    record {
      file = refl;
      span = refl;
      pair = c.requires.pair;
      first = printed_as (texts_of kinds) c.args.k (λ head. Contains heads head × Contains entries (head, pair.0)) (IsOfBoth (heads_at c.args.point.now) pair.0 pair.1)
          both c.in-Some.shared c.in-Some.text found;
    }
