use Rattle.std.proofs.Common.{◌≡◌, ℕ, ◌<◌, Some, slice_get, length}
use Rattle.lw_grammar.specs.declared.rule.Rule.{Rule}
use Rattle.lw_graph.specs.Walks.{HasEdge}
use Rattle.lw_look.specs.Sites.{Body}
use Rattle.lw_first.specs.Calling.{HasCall}
use Rattle.lw_first.proofs.callers.callers_of_rules.Given as goal

abbrev pub invariant-loop-number : goal.invariant-loop-number
invariant-loop-number l = record {
  nodes : l.graph.nodes ≡ length l.lexicon.g.now.rules;
  all : (n : ℕ) (rule : Rule) (r : ℕ) → n < l.number → slice_get l.lexicon.g.now.rules n ≡ Some rule → HasCall l.lexicon.g.now (Body rule.body) r → HasEdge l.graph r n;
}
