use Rattle.std.proofs.lemmas.Result.{on_ok_weaker}
use Rattle.lw_grammar.specs.declared.rule.Rule.{Rule}
use Rattle.lw_grammar.specs.Named.{IsRule}
use Rattle.lw_numbers.specs.Numbering as numbering
use Rattle.lw_grammar.proofs.Meaning.{one_of_two}
use Rattle.lw_first.proofs.CallingForms.{calls_none, calls_one}
use Rattle.lw_first.proofs.callers.Caller.call.Goals as goal

pub returns-in-Rule : goal.returns-in-Rule
returns-in-Rule c =
    on_ok_weaker c.add.result
    (calls_one c.args.self.now.number c.args.self.now.lexicon.g.now c.args.name.now c.in-Rule.callee c.in-Rule.field-1.now c.in-Rule.ensures c.args.graph.now c.add.new.self c.add.ensures.nodes)
    c.add.ensures.edges

pub returns-in-Terminal : goal.returns-in-Terminal
returns-in-Terminal c =
    calls_none c.args.self.now.number (λ r. (rule : Rule) × IsRule c.args.self.now.lexicon.g.now c.args.name.now r rule) c.args.graph.now
    (λ r (rule, is). one_of_two _ _ _ _ _ _ _ _ _ is c.in-Terminal.ensures)

pub returns-in-Nothing : goal.returns-in-Nothing
returns-in-Nothing c =
    calls_none c.args.self.now.number (λ r. (rule : Rule) × IsRule c.args.self.now.lexicon.g.now c.args.name.now r rule) c.args.graph.now
    (λ r (rule, is). c.in-Nothing.ensures _ (numbering.rule_ r rule is))
