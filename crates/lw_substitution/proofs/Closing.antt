-- Brackets that are alike close to nodes that are.
use Rattle.std.proofs.Common.{◌≡◌, ℕ, List, [], ◌∷◌, ◌++◌, Option, refl, sym, subst}
use Rattle.lw_base.specs.declared.token.Token.{Token}
use Rattle.lw_grammar.specs.declared.grammar.Grammar.{Grammar}
use Rattle.lw_grammar.specs.declared.rule.Op.{Op}
use Rattle.lw_grammar.specs.declared.rule.Value0.{Value0}
use Rattle.lw_grammar.specs.Marks.{Mark, End}
use Rattle.lw_reading.specs.Brackets.{Bracket, InValue, Root, Shuts, in_value, in_node, at_root}
use Rattle.lw_reading.specs.Follows.{ChangesOpen, FollowsMarks, Closes}
use Rattle.lw_reading.specs.Follows as f
use Rattle.lw_reading.specs.Grown.{Grown}
use Rattle.lw_reading.proofs.OneTree.{one_follows}
use Rattle.lw_substitution.specs.Growth.{AreAlikeGrown, AreAlikeOpen, AreAlikeCovered, BeginWithNode, StandInNodes}
use Rattle.lw_substitution.specs.Growth as alike
use Rattle.lw_substitution.proofs.Going.{Goes, as_going, followed, split, kinds_in, kinds_read}
use Rattle.lw_substitution.proofs.Going as going
use Rattle.lw_substitution.proofs.Stepping.{change_alike, shut_alike}

-- ---- values that stand in nodes

module _ (g : Grammar) (text : List ℕ) where
  shuts_forth : {ts : List Token} {bs after : List Bracket} → Shuts ts bs after → StandInNodes bs → StandInNodes after
  shuts_forth in_value stand = stand
  shuts_forth in_node stand = stand
  shuts_forth at_root stand = stand

  ends_forth : {ts : List Token} {p at : ℕ} {op : Op} {c : Value0} {inner : Option Grown} {bs after : List Bracket} →
      ChangesOpen g text ts End (InValue p op c at inner ∷ bs) after → StandInNodes (InValue p op c at inner ∷ bs) → StandInNodes after
  ends_forth (f.ends is) stand = stand.1

  shuts_back : {ts : List Token} {bs after : List Bracket} → Shuts ts bs after → StandInNodes after → StandInNodes bs
  shuts_back in_value stand = stand
  shuts_back in_node stand = stand
  shuts_back at_root stand = stand

  changed_back : {ts : List Token} {mark : Mark} {bs after : List Bracket} → ChangesOpen g text ts mark bs after → StandInNodes after → StandInNodes bs
  changed_back (f.opens at has number) stand = stand
  changed_back (f.puts number) stand = stand.1
  changed_back (f.shuts is) stand = shuts_back is stand
  changed_back (f.renames none number) stand = stand
  changed_back (f.wraps some number property) stand = stand
  changed_back (f.ends is) stand = (tt, stand)

  gone_back : {ts us : List Token} {m : List Mark} {bs after : List Bracket} → Goes g text ts bs m us after → StandInNodes after → StandInNodes bs
  gone_back going.done stand = stand
  gone_back (going.token t rest) stand = gone_back rest stand
  gone_back (going.next change rest) stand = changed_back change (gone_back rest stand)

  -- where marks leave a root in the end, each value was read in a node
  pub stand_before_root : (m others : List Mark) (ts us : List Token) (x : Grown) (bs : List Bracket) →
      FollowsMarks g text (m ++ others) (ts ++ us) (Root x ∷ []) → FollowsMarks g text m ts bs → StandInNodes bs
  stand_before_root m others ts us x bs whole follows =
      let (mid, first, behind) = split g text m ts (kinds_read g text (as_going g text follows)) (as_going g text whole) in
      let same : bs ≡ mid = one_follows g text follows (followed g text f.nothing first) refl refl in
      subst StandInNodes (sym same) (gone_back behind tt)

-- ---- closing

module _ (text other : List ℕ) (place : ℕ) (ts us : List Token) where
  node_bare : {bs cs : List Bracket} → BeginWithNode bs → AreAlikeCovered text other place ts us bs cs → AreAlikeOpen text other place ts us bs cs
  node_bare begin (alike.bare is) = is
  node_bare begin (alike.covered is) = absurd begin

  module _ (g : Grammar) where
    abbrev pub ClosedAlike : List Bracket → Grown → Type 0
    ClosedAlike cs x = (y : Grown) × Closes g other us cs y × AreAlikeGrown place 0 x y

    pub close_alike : {bs cs : List Bracket} {x : Grown} → Closes g text ts bs x → StandInNodes bs → AreAlikeOpen text other place ts us bs cs → ClosedAlike cs x
    close_alike f.root stand (alike.root is (alike.bare alike.none)) = (_, f.root, is)
    close_alike (f.shut shuts closes) stand is =
        let (behind, shut, like) = shut_alike text other place ts us shuts is in
        let (y, closed, same) = close_alike closes (shuts_forth g text shuts stand) like in
        (y, f.shut shut closed, same)
    close_alike (f.ended not change closes) stand (alike.finished is below) =
        let (behind, changed, like) = change_alike text other place ts us g change (alike.finished is below) in
        let (y, closed, same) = close_alike closes (ends_forth g text change stand) like in
        (y, f.ended not changed closed, same)
    close_alike (f.ended not change closes) stand (alike.begun since below) =
        let (behind, changed, like) = change_alike text other place ts us g change (alike.begun since below) in
        let (y, closed, same) = close_alike closes (ends_forth g text change stand) like in
        (y, f.ended not changed closed, same)
    close_alike (f.left_out makes closes) stand (alike.finished is below) =
        let (y, closed, same) = close_alike closes stand.1 (node_bare stand.0 below) in (y, f.left_out makes closed, same)
    close_alike (f.left_out makes closes) stand (alike.begun since below) =
        let (y, closed, same) = close_alike closes stand.1 (node_bare stand.0 below) in (y, f.left_out makes closed, same)
