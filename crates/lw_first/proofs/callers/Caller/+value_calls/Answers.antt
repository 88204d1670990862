use Rattle.std.proofs.Common.{Contains, OnOk, subst}
use Rattle.lw_grammar.specs.declared.rule.Value0.{Value0}
use Rattle.lw_grammar.specs.declared.rule.Value0.TheVariants.{outs-Keyword, outs-Call, outs-Cross, outs-Choice}
use Rattle.lw_look.specs.Sites.{Value}
use Rattle.lw_first.specs.Calling.{AddsCalls, HasCall}
use Rattle.lw_first.proofs.CallingForms.{value_adds_calls, no_value_calls}
use Rattle.lw_first.proofs.callers.Caller.+value_calls.Goals as goal

pub value-returns-in-Keyword : goal.value-returns-in-Keyword
value-returns-in-Keyword t c = no_value_calls c.args.self.now.number c.args.self.now.lexicon.g.now c.args.graph.now c.in-Keyword.is (outs-Keyword _ _) (λ r calls. calls)

pub value-returns-in-Call : goal.value-returns-in-Call
value-returns-in-Call t c =
    value_adds_calls c.args.self.now.number c.args.self.now.lexicon.g.now c.call.result c.args.graph.now c.call.new.graph c.in-Call.is (outs-Call _ _) c.call.ensures

pub value-returns-in-Cross : goal.value-returns-in-Cross
value-returns-in-Cross t c =
    value_adds_calls c.args.self.now.number c.args.self.now.lexicon.g.now c.cross.result c.args.graph.now c.cross.new.graph c.in-Cross.is (outs-Cross _ _ _) c.cross.ensures

pub value-returns-in-Choice : goal.value-returns-in-Choice
value-returns-in-Choice t c =
    let g = c.args.self.now.lexicon.g.now in
    let number = c.args.self.now.number in
    value_adds_calls number g c.values.result c.args.graph.now c.values.new.graph c.in-Choice.is (outs-Choice _ _)
    (subst (λ vs. OnOk c.values.result (AddsCalls number (λ r. (v : Value0) × Contains vs v × HasCall g (Value v) r) c.args.graph.now c.values.new.graph)) c.as_slice.ensures c.values.ensures)
