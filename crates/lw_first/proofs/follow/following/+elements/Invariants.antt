use Rattle.std.proofs.Common.{ℕ, List}
use Rattle.lw_grammar.specs.Kinds.{Kinds, AreKinds}
use Rattle.lw_look.specs.Sites.{Body}
use Rattle.lw_first.specs.Sets.{IsInSet}
use Rattle.lw_first.specs.Calls.{BehindCall, BehindCalls}
use Rattle.lw_first.proofs.Putting.{PutsBelow}
use Rattle.lw_first.proofs.follow.following.+elements.Given as goal

abbrev pub invariant-follow_each-loop-part : goal.invariant-follow_each-loop-part
invariant-follow_each-loop-part l = (kinds : Kinds) → AreKinds l.first.lexicon.g.now kinds →
    PutsBelow (λ k part. BehindCalls l.first.lexicon.g.now kinds l.first.k l.first.heads.now (Body part) l.after) l.parts l.part-index l.fn.sets l.sets

abbrev pub invariant-follow_row-loop-place : goal.invariant-follow_row-loop-place
invariant-follow_row-loop-place l = (kinds : Kinds) → AreKinds l.first.lexicon.g.now kinds →
    PutsBelow (λ k part r h. (b : List ℕ) × IsInSet l.behind k b × BehindCall l.first.lexicon.g.now kinds l.first.k l.first.heads.now (Body part) b r h) l.parts l.place
    l.fn.sets l.sets
