use Rattle.std.proofs.Common.{rules}
use Rattle.lw_program.specs.Says as says
use Rattle.lw_program.proofs.Reaching.{no_call, rule_few}
use Rattle.lw_program.proofs.reading.call_of.Goals as goal

pub overflow_cast-result : goal.overflow_cast-result
overflow_cast-result c =
    let known = c.requires.known.kinds in
    let is = c.in-Rule.ensures known.kinds known.are in
    search (rules, rule_few c.args.lexicon.g.now c.args.name.now c.in-Rule.number is.0 c.requires.complete is.1)

pub unreachable-requires : goal.unreachable-requires
unreachable-requires c =
    let known = c.requires.known.kinds in
    let none = c.in-Nothing.ensures known.kinds known.are in
    let gives = c.requires.gives known.kinds known.are in
    no_call c.args.lexicon.g.now known.kinds c.args.name.now gives.0 none.0 none.1 gives.1

pub returns-in-Token : goal.returns-in-Token
returns-in-Token c kinds are = says.terminal (c.in-Token.ensures kinds are)

pub returns-in-Rule : goal.returns-in-Rule
returns-in-Rule c kinds are = says.rule_ (c.in-Rule.ensures kinds are).1
