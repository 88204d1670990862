use Rattle.std.proofs.Common.{arith}
use Rattle.lw_lang.proofs.BuildLemmas.{few}
use Rattle.lw_lang.proofs.ParserLemmas.{has_entry, parses}
use Rattle.lw_lang.proofs.Supplied.{is_supplied}
use Rattle.lw_lang.proofs.compiler.parser_of.Goals as goal

pub entry-requires : goal.entry-requires
entry-requires c = let fit = few c.args.g.now c.requires.fits in omega (arith, fit)

pub unreachable-requires : goal.unreachable-requires
unreachable-requires c = has_entry c.args.g.now c.requires.faultless c.in-None.ensures

pub returns : goal.returns
returns c kinds are =
    parses c.args.g.now c.lexicon.result.g.now c.lexicon.ensures.grammar kinds are c.requires.faultless
    (is_supplied c.args.g.now c.args.types.now c.requires.typed c.args.facts.now c.requires.facts c.requires.faultless c.requires.filled kinds are) c.args.k c.args.tables
    (c.requires.tables kinds are) c.in-Some.rule.0 c.in-Some.ensures c.of.result c.of.ensures
