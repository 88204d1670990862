use Rattle.lw_numbers.specs.Numbering as numbered
use Rattle.lw_flow.proofs.MeantLemmas.{reads_no_rule, terminal_alone}
use Rattle.lw_flow.proofs.callee.Source.callee.Goals as goal

pub returns-in-Terminal : goal.returns-in-Terminal
returns-in-Terminal c =
    let g = c.args.self.now.grammar.now in
    let name = c.args.name.now in
    reads_no_rule g name (terminal_alone g name c.in-Terminal.field-0 c.in-Terminal.field-1.now c.in-Terminal.ensures)

pub returns-in-Nothing : goal.returns-in-Nothing
returns-in-Nothing c =
    let g = c.args.self.now.grammar.now in
    reads_no_rule g c.args.name.now (λ r rule is. c.in-Nothing.ensures r (numbered.rule_ r rule is))
