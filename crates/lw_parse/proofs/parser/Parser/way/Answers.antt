-- By the tables themselves.
use Rattle.std.proofs.Common.{sym, subst}
use Rattle.lw_parse.specs.Parsers.{TellWays}
use Rattle.lw_parse.proofs.Tabled.{are_tables}
use Rattle.lw_parse.proofs.parser.Parser.way.Goals as goal

pub returns : goal.returns
returns c = λ g kinds k s way tell at.
    c.choose.ensures g kinds k s way (are_tables g kinds k c.self.inside.tables (subst (λ parts. TellWays g kinds k parts.tables) (sym c.self.view_is) tell)) at
