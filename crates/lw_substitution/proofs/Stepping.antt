-- The same marks, read with tokens that say the same, change brackets that are alike into ones that are.
use Rattle.std.proofs.Common.{◌≡◌, ◌+◌, ℕ, List, [], ◌∷◌, ◌++◌, refl, sym, subst, arith}
use Rattle.std.proofs.lemmas.List.{append-nil, append_assoc}
use Rattle.lw_base.specs.declared.token.Token.{Token}
use Rattle.lw_base.specs.declared.numbers.KindId.{KindId}
use Rattle.lw_grammar.specs.declared.grammar.Grammar.{Grammar}
use Rattle.lw_grammar.specs.Marks.{Mark, Token as AToken}
use Rattle.lw_reading.specs.Brackets.{Bracket, Shuts, in_value, in_node, at_root}
use Rattle.lw_reading.specs.Follows.{PutsValueIn, ChangesOpen, FollowsMarks}
use Rattle.lw_reading.specs.Follows as f
use Rattle.lw_reading.specs.Grown.{Held}
use Rattle.lw_substitution.specs.Tokens.{IsSameToken, AreSameTokens}
use Rattle.lw_substitution.specs.Growth.{AreAlikeGrown, AreAlikeHeld, AreAlikeOpen, AreAlikeCovered, IsSameSince, points_open}
use Rattle.lw_substitution.specs.Growth as alike
use Rattle.lw_substitution.proofs.Going.{Goes, as_going, followed}
use Rattle.lw_substitution.proofs.Going as going
use Rattle.lw_substitution.proofs.SameSaid.{same_since_now, same_since_then, same_looked, same_plain}

add_none : (n : ℕ) → n ≡ n + 0
add_none n = omega arith

none_added : (n : ℕ) → n + 0 ≡ n
none_added n = omega arith

module _ (text other : List ℕ) (place : ℕ) where
  -- ---- tokens

  mutual
    pub token_alike : {ts us : List Token} {bs cs : List Bracket} (t u : Token) → IsSameToken text other t u → AreAlikeOpen text other place ts us bs cs →
        AreAlikeOpen text other place (ts ++ t ∷ []) (us ++ u ∷ []) bs cs
    token_alike t u same alike.none = alike.none
    token_alike t u same (alike.root is below) = alike.root is (token_covered t u same below)
    token_alike t u same (alike.node is below) = alike.node is (token_covered t u same below)
    token_alike t u same (alike.finished is below) = alike.finished is (token_covered t u same below)
    token_alike t u same (alike.begun since below) = alike.begun (same_since_then text other t u same since) (token_covered t u same below)

    token_covered : {ts us : List Token} {bs cs : List Bracket} (t u : Token) → IsSameToken text other t u → AreAlikeCovered text other place ts us bs cs →
        AreAlikeCovered text other place (ts ++ t ∷ []) (us ++ u ∷ []) bs cs
    token_covered t u same (alike.bare is) = alike.bare (token_alike t u same is)
    token_covered t u same (alike.covered is) = alike.covered (token_covered t u same is)

  -- ---- marks

  held_from : {n k : ℕ} {held kept : Held} → n ≡ k → AreAlikeHeld place n held kept → AreAlikeHeld place k held kept
  held_from {held} {kept} same is = subst (λ (n : ℕ). AreAlikeHeld place n held kept) same is

  module _ (ts us : List Token) where
    abbrev pub ShutAlike : List Bracket → List Bracket → Type 0
    ShutAlike cs after = (behind : List Bracket) × Shuts us cs behind × AreAlikeOpen text other place ts us after behind

    pub shut_alike : {bs cs after : List Bracket} → Shuts ts bs after → AreAlikeOpen text other place ts us bs cs → ShutAlike cs after
    shut_alike in_value (alike.node is (alike.bare (alike.begun since below))) = (_, in_value, alike.finished (alike.grow is) below)
    shut_alike in_value (alike.node is (alike.covered below)) = (_, in_value, alike.finished (alike.grow is) below)
    shut_alike in_node (alike.node is (alike.bare (alike.node alike.nothing below))) = (_, in_node, alike.node (held_from (none_added _) is) below)
    shut_alike at_root (alike.node is (alike.bare alike.none)) = (_, at_root, alike.root (alike.grow is) (alike.bare alike.none))

    module _ (g : Grammar) where
      abbrev pub ChangedAlike : Mark → List Bracket → List Bracket → Type 0
      ChangedAlike mark cs after = (behind : List Bracket) × ChangesOpen g other us mark cs behind × AreAlikeOpen text other place ts us after behind

      pub change_alike : {mark : Mark} {bs cs after : List Bracket} → ChangesOpen g text ts mark bs after → AreAlikeOpen text other place ts us bs cs →
          ChangedAlike mark cs after
      change_alike (f.opens at has number) is = (_, f.opens at has number, alike.node alike.nothing (alike.bare is))
      change_alike (f.puts number) is = (_, f.puts number, alike.begun (same_since_now text other ts us) (alike.bare is))
      change_alike (f.shuts shut) is = let (behind, shuts, like) = shut_alike shut is in (behind, f.shuts shuts, like)
      change_alike (f.renames none number) (alike.node is below) = (_, f.renames none number, alike.node is below)
      change_alike (f.wraps some number property) (alike.node is below) =
          (_, f.wraps some number property, alike.node (alike.takes alike.nothing (alike.grow (held_from (add_none _) is))) below)
      change_alike (f.ends f.a_node) (alike.finished is (alike.bare (alike.node held below))) = (_, f.ends f.a_node, alike.node (alike.takes held is) below)
      change_alike (f.ends (f.a_reference not by number looks)) (alike.begun since (alike.bare (alike.node held below))) = (
        _,
        f.ends (f.a_reference not by number (same_looked text other g since.since looks)),
        alike.node (alike.points_to held (λ apart. refl)) below,
      )
      change_alike (f.ends (f.plain is)) (alike.begun since (alike.bare (alike.node held below))) =
          let (w, plain, like) = same_plain text other g since.since is in (_, f.ends (f.plain plain), alike.node (alike.puts held like) below)

  -- ---- rows of marks

  module _ (g : Grammar) where
    abbrev pub GoneAlike : List Token → List Token → List Mark → List Token → List Token → List Bracket → List Bracket → Type 0
    GoneAlike ts us m more others cs after =
        (behind : List Bracket) × Goes g other us cs m others behind × AreAlikeOpen text other place (ts ++ more) (us ++ others) after behind

    pub go_alike : {ts us more : List Token} {m : List Mark} {bs cs after : List Bracket} → Goes g text ts bs m more after → (others : List Token) →
        AreSameTokens text other more others → AreAlikeOpen text other place ts us bs cs → GoneAlike ts us m more others cs after
    go_alike {ts} {us} {bs} {cs} going.done [] same is = (
      cs,
      going.done,
      subst (λ (xs : List Token). AreAlikeOpen text other place xs (us ++ []) bs cs) (sym (append-nil ts))
          (subst (λ (ys : List Token). AreAlikeOpen text other place ts ys bs cs) (sym (append-nil us)) is),
    )
    go_alike going.done (u ∷ others) same is = absurd same
    go_alike (going.token t rest) [] same is = absurd same
    go_alike {ts} {us} {cs} {after} (going.token {us = more} {m} t rest) (u ∷ others) same is =
        let (behind, goes, like) = go_alike rest others same.1 (token_alike t u same.0 is) in (
          behind,
          subst (λ (k : KindId). Goes g other us cs (AToken k.0 ∷ m) (u ∷ others) behind) (sym same.0.kind) (going.token u goes),
          subst (λ (xs : List Token). AreAlikeOpen text other place xs (us ++ u ∷ others) after behind) (append_assoc ts (t ∷ []) more)
              (subst (λ (ys : List Token). AreAlikeOpen text other place ((ts ++ t ∷ []) ++ more) ys after behind) (append_assoc us (u ∷ []) others) like),
        )
    go_alike {ts} {us} (going.next change rest) others same is =
        let (mid, changes, like) = change_alike ts us g change is in
        let (behind, goes, alike_behind) = go_alike rest others same like in
        (behind, going.next changes goes, alike_behind)

    abbrev pub FollowedAlike : List Mark → List Token → List Token → List Bracket → Type 0
    FollowedAlike m ts us bs = (cs : List Bracket) × FollowsMarks g other m us cs × AreAlikeOpen text other place ts us bs cs

    pub follow_alike : {m : List Mark} {ts : List Token} {bs : List Bracket} → FollowsMarks g text m ts bs → (us : List Token) →
        AreSameTokens text other ts us → FollowedAlike m ts us bs
    follow_alike is us same =
        let (cs, goes, like) = go_alike {ts = []} {us = []} (as_going g text is) us same alike.none in (cs, followed g other f.nothing goes, like)
