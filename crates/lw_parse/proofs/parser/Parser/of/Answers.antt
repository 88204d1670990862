-- All of it is that of the grammar.
use Rattle.std.proofs.Common.{refl}
use Rattle.lw_parse.proofs.Tabled.{tell_ways}
use Rattle.lw_parse.proofs.parser.Parser.of.Goals as goal

pub returns : goal.returns
returns c = λ kinds rule are tables entry.
    let program = c.in_ok-program.ensures kinds are in
    record {
      known = record { are = are; program = program; begins = c.in_ok-begins.ensures kinds program are };
      recipes = c.in_ok-recipes.ensures;
      tables = tell_ways c.args.lexicon.g.now kinds c.args.k c.args.tables tables;
      depth = refl;
      rule = rule;
      entry = entry;
    }
