-- All that is told is put together.
use Rattle.std.proofs.Common.{◌≡◌, ◌+◌, length, map, sym, subst, arith}
use Rattle.lw_grammar.specs.Kinds.{kind_count}
use Rattle.lw_viable.specs.BeginsWith.{TellsEmptyHeads, TellsMetKinds, TellsNodes}
use Rattle.lw_viable.specs.EmptyBy.{AreEmptyFrom, NameLater}
use Rattle.lw_viable.proofs.ByHeads.{counted, nodes_are_told}
use Rattle.lw_viable.proofs.Telling.{names_later, meets_told, places_told, nodes_opened}
use Rattle.lw_viable.proofs.begins.begins.Begins.of.Goals as goal

pub rule_heads-requires-clause-told : goal.rule_heads-requires-clause-told
rule_heads-requires-clause-told c = nodes_are_told c.args.lexicon.g.now c.args.nodes.now c.requires.told

pub returns : goal.returns
returns c kinds is are =
    let g = c.args.lexicon.g.now in
    let program = c.args.program.now in
    let sets = c.in_ok-heads.heads.items in
    let heads = c.in_ok-heads.ensures in
    let calls = c.in_ok-calls.calls.items in
    let empty = c.in_ok-empty_places.field-0.items in
    let row = c.args.lexicon.kinds.now in
    let count : length row.keywords + length row.terminals ≡ kind_count kinds = counted g kinds row c.requires.known.kinds are in
    let tells = subst (λ sets. TellsEmptyHeads sets calls) c.as_slice.ensures.value c.in_ok-calls.ensures in
    let later = subst NameLater (sym c.code.ensures) (names_later g kinds program is) in
    let flags = subst (λ code. AreEmptyFrom calls code empty 0) c.code.ensures (subst (λ calls. AreEmptyFrom calls c.code.result.now empty 0) c.as_slice-2.ensures.value (c.in_ok-empty_places.ensures later)) in
    let rows = map (λ row. row.items) c.in_ok-met_kinds.field-0.items in
    let kinds_before = c.keyword_count.result + c.terminal_count.result in
    let kinds_are : kinds_before ≡ kind_count kinds = omega (arith, count, c.keyword_count.ensures.count, c.terminal_count.ensures.count) in
    let met = subst (λ sets. TellsMetKinds sets kinds_before rows) c.as_slice-3.ensures.value c.in_ok-met_kinds.ensures in
    let opens = subst (λ rules. TellsNodes rules c.args.nodes.now c.in_ok-opening_rules.field-0.items) c.as_slice-4.ensures c.in_ok-opening_rules.ensures in
    record {
      empty = places_told g kinds sets heads.all (heads.closed kinds are) (heads.no_others kinds are) program is calls empty tells flags;
      meets = meets_told g kinds sets heads.all (heads.closed kinds are) (heads.no_others kinds are) rows kinds_before kinds_are met;
      nodes = nodes_opened g c.args.nodes.now c.in_ok-opening_rules.field-0.items c.requires.told opens;
    }
