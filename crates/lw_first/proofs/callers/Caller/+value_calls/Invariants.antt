use Rattle.std.proofs.Common.{Contains, take}
use Rattle.lw_grammar.specs.declared.rule.Value0.{Value0}
use Rattle.lw_look.specs.Sites.{Value}
use Rattle.lw_first.specs.Calling.{AddsCalls, HasCall}
use Rattle.lw_first.proofs.callers.Caller.+value_calls.Given as goal

abbrev pub invariant-values-loop-value : goal.invariant-values-loop-value
invariant-values-loop-value l =
    AddsCalls l.self.number (λ r. (v : Value0) × Contains (take l.value-index l.values) v × HasCall l.self.lexicon.g.now (Value v) r) l.fn.graph l.graph
