use Rattle.lw_grammar.specs.Kinds.{Kinds, AreKinds}
use Rattle.lw_look.specs.Sites.{Value}
use Rattle.lw_first.specs.Calls.{BehindCalls}
use Rattle.lw_first.proofs.Putting.{PutsBelow}
use Rattle.lw_first.proofs.follow.following.+values.Given as goal

abbrev pub invariant-follow_values-loop-value : goal.invariant-follow_values-loop-value
invariant-follow_values-loop-value l = (kinds : Kinds) → AreKinds l.first.lexicon.g.now kinds →
    PutsBelow (λ k v. BehindCalls l.first.lexicon.g.now kinds l.first.k l.first.heads.now (Value v) l.after) l.values l.value-index l.fn.sets l.sets
