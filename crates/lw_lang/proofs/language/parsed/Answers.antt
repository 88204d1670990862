use Rattle.std.proofs.Common.{ap, length, subst}
use Rattle.lw_parse.specs.Outcomes.{IsParseFault}
use Rattle.lw_lang.proofs.CutPlaces.{tiles, are_parts}
use Rattle.lw_lang.proofs.ParsedLemmas.{of_kinds, reads_tree, reads_unexpected, reads_end, named_unexpected, within_unexpected, tree_stands}
use Rattle.lw_lang.proofs.language.parsed.Goals as goal

pub parse-requires-clause-known : goal.parse-requires-clause-known
parse-requires-clause-known c =
    let can = c.requires.cut.3 in (
      c.requires.cut.0,
      c.requires.cut.1,
      can.depth,
      can.parses,
      of_kinds c.requires.cut.0 c.requires.cut.1 c.requires.cut.2 c.args.parser.now c.args.text.now c.args.tokens.items can,
    )

pub parse-requires-clause-tile : goal.parse-requires-clause-tile
parse-requires-clause-tile c = tiles c.requires.cut.2 c.args.text.now c.requires.cut.3.cut c.requires.cut.3.places

pub parse-requires-clause-parts : goal.parse-requires-clause-parts
parse-requires-clause-parts c = are_parts c.requires.cut.2 c.args.text.now c.args.tokens.items c.requires.cut.3.places

pub returns-in-Ok-clause-reads : goal.returns-in-Ok-clause-reads
returns-in-Ok-clause-reads c g kinds lexicon can =
    reads_tree g kinds lexicon c.args.parser.now c.args.text.now c.args.tokens.items can c.in-Ok.tree (c.in-Ok.ensures.tree g kinds can.depth can.parses)

pub returns-in-Ok-clause-stands : goal.returns-in-Ok-clause-stands
returns-in-Ok-clause-stands c g kinds lexicon can =
    tree_stands g kinds lexicon c.args.parser.now c.args.text.now c.args.tokens.items can c.in-Ok.tree (c.in-Ok.ensures.tree g kinds can.depth can.parses)

pub returns-in-Err-Unexpected-clause-reads : goal.returns-in-Err-Unexpected-clause-reads
returns-in-Err-Unexpected-clause-reads c g kinds lexicon can =
    let of = of_kinds g kinds lexicon c.args.parser.now c.args.text.now c.args.tokens.items can in
    reads_unexpected g kinds lexicon c.args.parser.now c.args.text.now c.args.tokens.items can _ c.in-Err-Unexpected.token
    (subst (IsParseFault g kinds c.args.tokens.items) c.in-Err-Unexpected.field-0-is (c.in-Err-Unexpected.ensures.fault g kinds can.depth can.parses of))

pub returns-in-Err-Unexpected-clause-named : goal.returns-in-Err-Unexpected-clause-named
returns-in-Err-Unexpected-clause-named c g kinds lexicon can =
    let of = of_kinds g kinds lexicon c.args.parser.now c.args.text.now c.args.tokens.items can in
    named_unexpected g kinds lexicon c.args.parser.now c.args.text.now c.args.tokens.items can _ c.in-Err-Unexpected.token
    (subst (IsParseFault g kinds c.args.tokens.items) c.in-Err-Unexpected.field-0-is (c.in-Err-Unexpected.ensures.fault g kinds can.depth can.parses of))

pub returns-in-Err-Unexpected-clause-within : goal.returns-in-Err-Unexpected-clause-within
returns-in-Err-Unexpected-clause-within c g kinds lexicon can =
    let of = of_kinds g kinds lexicon c.args.parser.now c.args.text.now c.args.tokens.items can in
    within_unexpected g kinds lexicon c.args.parser.now c.args.text.now c.args.tokens.items can _ c.in-Err-Unexpected.token
    (subst (IsParseFault g kinds c.args.tokens.items) c.in-Err-Unexpected.field-0-is (c.in-Err-Unexpected.ensures.fault g kinds can.depth can.parses of))

pub returns-in-Err-UnexpectedEnd-clause-reads : goal.returns-in-Err-UnexpectedEnd-clause-reads
returns-in-Err-UnexpectedEnd-clause-reads c g kinds lexicon can =
    let of = of_kinds g kinds lexicon c.args.parser.now c.args.text.now c.args.tokens.items can in
    reads_end g kinds lexicon c.args.parser.now c.args.text.now c.args.tokens.items can _ (ap length c.bytes.ensures.bytes)
    (subst (IsParseFault g kinds c.args.tokens.items) c.in-Err-UnexpectedEnd.field-0-is (c.in-Err-UnexpectedEnd.ensures.fault g kinds can.depth can.parses of))
