use Rattle.std.proofs.Common.{length, ap, arith}
use Rattle.lw_kinds.proofs.Few.{terminals-le, row-le}
use Rattle.lw_kinds.proofs.RowLemmas.{row_from}
use Rattle.lw_kinds.proofs.kind_table.KindTable.of.Goals as goal

pub kind_places-requires-clause-small : goal.kind_places-requires-clause-small
kind_places-requires-clause-small c = omega (arith, terminals-le c.args.g.now, c.requires.small, ap length c.as_slice.ensures)

pub invariant_of-result : goal.invariant_of-result
invariant_of-result c =
    let g = c.args.g.now in
    let gathered = c.in_ok-keywords.field-0 in
    let places = c.in_ok-terminals.terminals.items in
    let row = row_from g gathered c.in_ok-keywords.ensures c.as_slice.result.now c.as_slice-2.result.now places c.as_slice.ensures c.as_slice-2.ensures.value
    c.in_ok-terminals.ensures in
    omega (arith, c.requires.small, row-le g (record { keywords = gathered.keywords.entries; terminals = places }) row)

pub returns : goal.returns
returns c =
    row_from c.args.g.now c.in_ok-keywords.field-0 c.in_ok-keywords.ensures c.as_slice.result.now c.as_slice-2.result.now c.in_ok-terminals.terminals.items
    c.as_slice.ensures c.as_slice-2.ensures.value c.in_ok-terminals.ensures
