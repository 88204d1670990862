-- One reference, read with any tokens, leaves brackets that are alike but for its name.
use Rattle.std.proofs.Common.{◌≡◌, ◌+◌, ℕ, List, [], ◌∷◌, ◌++◌, None, map, length, drop, refl, sym, ap, subst, ◌∙◌}
use Rattle.std.proofs.lemmas.List.{append-nil, map-append}
use Rattle.lw_base.specs.declared.token.Token.{Token}
use Rattle.lw_grammar.specs.declared.grammar.Grammar.{Grammar}
use Rattle.lw_grammar.specs.declared.rule.Op.{Op}
use Rattle.lw_grammar.specs.declared.rule.Value0.{Value0}
use Rattle.lw_grammar.specs.Marks.{Mark, Token as AToken, Put, End, kinds_of}
use Rattle.lw_grammar.proofs.Joined.{kinds_join}
use Rattle.lw_reading.specs.Brackets.{Bracket, InNode, InValue}
use Rattle.lw_reading.specs.Follows.{MakesReference, LooksUp, IsPlain, PutsValueIn, ChangesOpen, FollowsMarks}
use Rattle.lw_reading.specs.Follows as f
use Rattle.lw_reading.specs.Grown.{Plain, Held}
use Rattle.lw_reading.specs.Numbers.{IsNumberOfProperty}
use Rattle.lw_reading.specs.Trees.{points_of}
use Rattle.lw_reading.proofs.OneTree.{one_follows}
use Rattle.lw_reading.proofs.OneValue.{no_word_crosses, no_call_crosses}
use Rattle.lw_substitution.specs.Tokens.{AreSameTokens}
use Rattle.lw_substitution.specs.Growth.{AreAlikeHeld, AreAlikeOpen, AreAlikeCovered, points_open}
use Rattle.lw_substitution.specs.Growth as alike
use Rattle.lw_substitution.proofs.Going.{Goes, as_going, followed, split, kinds_in, kinds_read}
use Rattle.lw_substitution.proofs.Going as going
use Rattle.lw_substitution.proofs.SameSaid.{other_looked}
use Rattle.lw_substitution.proofs.Stepping.{go_alike, follow_alike}

-- the marks of tokens, and those of one reference behind others
abbrev pub of_tokens : List Token → List Mark
of_tokens ts = map (λ (k : ℕ). AToken k) (kinds_in ts)

abbrev pub up_to_end : List Mark → List ℕ → Op → Value0 → List Token → List Mark
up_to_end before p op c ts = before ++ Put p op c ∷ of_tokens ts ++ End ∷ []

kinds_of_tokens : (ts : List Token) → kinds_of (of_tokens ts) ≡ kinds_in ts
kinds_of_tokens [] = refl
kinds_of_tokens (t ∷ ts) = ap (λ (ks : List ℕ). t.kind.0 ∷ ks) (kinds_of_tokens ts)

kinds_both : (ts us : List Token) → kinds_in (ts ++ us) ≡ kinds_in ts ++ kinds_in us
kinds_both ts us = map-append (λ (t : Token). t.kind.0) ts us

module _ (before : List Mark) (p : List ℕ) (op : Op) (c : Value0) (front mid : List Token) where
  kinds_up_to : kinds_in front ≡ kinds_of before → kinds_in (front ++ mid) ≡ kinds_of (before ++ Put p op c ∷ of_tokens mid)
  kinds_up_to reads =
      kinds_both front mid ∙ ap (λ (ks : List ℕ). ks ++ kinds_in mid) reads ∙ ap (λ (ks : List ℕ). kinds_of before ++ ks) (sym (kinds_of_tokens mid))
      ∙ sym (kinds_join before (Put p op c ∷ of_tokens mid))

  pub kinds_to_end : kinds_in front ≡ kinds_of before → kinds_in (front ++ mid) ≡ kinds_of (up_to_end before p op c mid)
  kinds_to_end reads =
      kinds_up_to reads ∙ sym (append-nil (kinds_of (before ++ Put p op c ∷ of_tokens mid)))
      ∙ sym (kinds_join (before ++ Put p op c ∷ of_tokens mid) (End ∷ []))

module _ (g : Grammar) (text : List ℕ) where
  -- ---- tokens alone

  tokens_go : {ts : List Token} {bs : List Bracket} (us : List Token) → Goes g text ts bs (of_tokens us) us bs
  tokens_go [] = going.done
  tokens_go (u ∷ us) = going.token u (tokens_go us)

  no_token_changes : {ts : List Token} {bs after : List Bracket} {k : ℕ} → ChangesOpen g text ts (AToken k) bs after → ⊥
  no_token_changes is = elim is [ ]

  tokens_leave : {ts us : List Token} {bs after : List Bracket} (ks : List ℕ) → Goes g text ts bs (map (λ (k : ℕ). AToken k) ks) us after → after ≡ bs
  tokens_leave [] going.done = refl
  tokens_leave (k ∷ ks) (going.token t rest) = tokens_leave ks rest
  tokens_leave (k ∷ ks) (going.next change rest) = absurd (no_token_changes change)

  -- ---- a reference is read

  data ReadsPut (p : List ℕ) (op : Op) (c : Value0) (ts : List Token) (bs : List Bracket) : List Bracket → Type 0 where
    put : {n : ℕ} → IsNumberOfProperty g p n → ReadsPut p op c ts bs (InValue n op c (length ts) None ∷ bs)

  reads_put : {p : List ℕ} {op : Op} {c : Value0} {ts us : List Token} {bs after : List Bracket} (ks : List ℕ) →
      Goes g text ts bs (Put p op c ∷ map (λ (k : ℕ). AToken k) ks) us after → ReadsPut p op c ts bs after
  reads_put {p} {op} {c} {ts} {bs} ks (going.next (f.puts number) rest) =
      subst (λ (after : List Bracket). ReadsPut p op c ts bs after) (sym (tokens_leave ks rest)) (put number)

  -- what is open once it was: the node that it stands in, with what was put in there
  pub data ReadsReference (before : List Mark) (p : List ℕ) (op : Op) (c : Value0) (front mid : List Token) : List Bracket → Type 0 where
    reads : {type from n : ℕ} {held after : Held} {bs : List Bracket} → FollowsMarks g text before front (InNode type from held ∷ bs) →
        IsNumberOfProperty g p n → PutsValueIn g text op c (drop (length front) (front ++ mid)) None held n after →
        ReadsReference before p op c front mid (InNode type from after ∷ bs)

  reads_end : {before : List Mark} {p : List ℕ} {op : Op} {c : Value0} {front mid : List Token} {bs stack after : List Bracket} →
      FollowsMarks g text before front bs → ReadsPut p op c front bs stack → Goes g text (front ++ mid) stack (End ∷ []) [] after →
      ReadsReference before p op c front mid after
  reads_end follows (put number) (going.next (f.ends is) going.done) = reads follows number is

  pub reads_reference : (before : List Mark) (p : List ℕ) (op : Op) (c : Value0) (front mid : List Token) (stack : List Bracket) → kinds_in front ≡ kinds_of before →
      FollowsMarks g text (up_to_end before p op c mid) (front ++ mid) stack → ReadsReference before p op c front mid stack
  reads_reference before p op c front mid stack same follows =
      let goes : Goes g text [] [] (up_to_end before p op c mid) ((front ++ mid) ++ []) stack =
      subst (λ (ts : List Token). Goes g text [] [] (up_to_end before p op c mid) ts stack) (sym (append-nil (front ++ mid))) (as_going g text follows) in
      let (last, first, ending) = split g text (before ++ Put p op c ∷ of_tokens mid) (front ++ mid) (kinds_up_to before p op c front mid same) goes in
      let (bs, start, putting) = split g text before front same first in
      reads_end (followed g text f.nothing start) (reads_put (kinds_in mid) putting) ending

  pub no_plain_reference : {op : Op} {c : Value0} {ts : List Token} {v : Plain} → MakesReference op c → IsPlain g text op c ts v → ⊥
  no_plain_reference makes f.truth = makes.0 refl
  no_plain_reference makes (f.keyword not was) = let (wanted, rule, s, is) = makes.1 in no_word_crosses (sym was ∙ is)
  no_plain_reference makes (f.terminal k terminal not was named means) = let (wanted, rule, s, is) = makes.1 in no_call_crosses (sym was ∙ is)
  no_plain_reference makes (f.data_type r rule not was named) = let (wanted, rule, s, is) = makes.1 in no_call_crosses (sym was ∙ is)

module _ (text other : List ℕ) (place : ℕ) where
  -- ---- more tokens, which may say something else: what is covered stays alike

  module _ {ts us : List Token} (more others : List Token) where
    mutual
      covered_still : {bs cs : List Bracket} → AreAlikeCovered text other place ts us bs cs → AreAlikeCovered text other place (ts ++ more) (us ++ others) bs cs
      covered_still (alike.bare is) = now_covered is
      covered_still (alike.covered is) = alike.covered (covered_still is)

      now_covered : {bs cs : List Bracket} → AreAlikeOpen text other place ts us bs cs → AreAlikeCovered text other place (ts ++ more) (us ++ others) bs cs
      now_covered alike.none = alike.bare alike.none
      now_covered (alike.root is below) = alike.bare (alike.root is (covered_still below))
      now_covered (alike.node is below) = alike.bare (alike.node is (covered_still below))
      now_covered (alike.finished is below) = alike.bare (alike.finished is (covered_still below))
      now_covered (alike.begun since below) = alike.covered (covered_still below)

  -- ---- the reference by other tokens

  module _ (g : Grammar) (before : List Mark) (p : List ℕ) (op : Op) (c : Value0) (makes : MakesReference op c) where
    abbrev pub ReadAlike : List Token → List Token → List Token → List Token → List Bracket → Type 0
    ReadAlike front fore mid name stack =
        (cs : List Bracket) × FollowsMarks g other (up_to_end before p op c name) (fore ++ name) cs
        × AreAlikeOpen text other place (front ++ mid) (fore ++ name) stack cs

    reference_follows : {fore : List Token} (name : List Token) {type from n : ℕ} {kept after : Held} {cs : List Bracket} →
        FollowsMarks g other before fore (InNode type from kept ∷ cs) → IsNumberOfProperty g p n →
        PutsValueIn g other op c (drop (length fore) (fore ++ name)) None kept n after →
        FollowsMarks g other (up_to_end before p op c name) (fore ++ name) (InNode type from after ∷ cs)
    reference_follows {fore} name {type} {from} {after} {cs} follows number puts =
        let putting : FollowsMarks g other (before ++ Put p op c ∷ of_tokens name) (fore ++ name) _ =
        followed g other follows (going.next (f.puts number) (tokens_go g other name)) in
        f.next putting (f.ends puts)

    put_alike : {front fore : List Token} (mid name : List Token) {type from n : ℕ} {held after : Held} {bs cs : List Bracket} →
        place ≡ points_open bs + points_of held → FollowsMarks g other before fore cs → AreAlikeOpen text other place front fore (InNode type from held ∷ bs) cs →
        IsNumberOfProperty g p n → PutsValueIn g text op c (drop (length front) (front ++ mid)) None held n after →
        ReadAlike front fore mid name (InNode type from after ∷ bs)
    put_alike {fore} mid name here follows (alike.node is below) number (f.a_reference not by wanted looks) =
        let (found, looks_up) = other_looked text other g (drop (length fore) (fore ++ name)) looks in (
          _,
          reference_follows name follows number (f.a_reference not by wanted looks_up),
          alike.node (alike.points_to is (λ apart. absurd (apart (sym here)))) (covered_still mid name below),
        )
    put_alike mid name here follows is number (f.plain v) = absurd (no_plain_reference g text makes v)

    module _ (front fore mid name : List Token) (b : List Bracket) (start : FollowsMarks g text before front b) (here : place ≡ points_open b)
        (same_front : AreSameTokens text other front fore) where
      read_alike : {stack : List Bracket} → ReadsReference g text before p op c front mid stack → ReadAlike front fore mid name stack
      read_alike (reads follows number is) =
          let (cs, followed_too, like) = follow_alike text other place g follows fore same_front in
          put_alike mid name (here ∙ ap points_open (one_follows g text start follows refl refl)) followed_too like number is

      -- whatever is read as the reference
      pub read_other : (stack : List Bracket) → FollowsMarks g text (up_to_end before p op c mid) (front ++ mid) stack → ReadAlike front fore mid name stack
      read_other stack follows = read_alike (reads_reference g text before p op c front mid stack (kinds_read g text (as_going g text start)) follows)

      -- and the same behind it
      pub follow_other : (after : List Mark) (rest others : List Token) (bs : List Bracket) → AreSameTokens text other rest others →
          FollowsMarks g text (up_to_end before p op c mid ++ after) ((front ++ mid) ++ rest) bs →
          (cs : List Bracket) × FollowsMarks g other (up_to_end before p op c name ++ after) ((fore ++ name) ++ others) cs
          × AreAlikeOpen text other place ((front ++ mid) ++ rest) ((fore ++ name) ++ others) bs cs
      follow_other after rest others bs same_rest follows =
          let reads_front : kinds_in front ≡ kinds_of before = kinds_read g text (as_going g text start) in
          let (stack, first, behind) = split g text (up_to_end before p op c mid) (front ++ mid) (kinds_to_end before p op c front mid reads_front) (as_going g text follows) in
          let (mids, follows_mids, like) = read_other stack (followed g text f.nothing first) in
          let (cs, goes, alike_behind) = go_alike text other place g behind others same_rest like in
          (cs, followed g other follows_mids goes, alike_behind)

-- what was read up to the reference
module _ (g : Grammar) (text : List ℕ) (before : List Mark) (p : List ℕ) (op : Op) (c : Value0) (front mid : List Token) (reads_front : kinds_in front ≡ kinds_of before) where
  pub start_of : (stack : List Bracket) → FollowsMarks g text (up_to_end before p op c mid) (front ++ mid) stack →
      (type : ℕ) × (from : ℕ) × (held : Held) × (bs : List Bracket) × FollowsMarks g text before front (InNode type from held ∷ bs)
  start_of stack follows = by (reads_reference g text before p op c front mid stack reads_front follows)
    where
      by : {stack : List Bracket} → ReadsReference g text before p op c front mid stack →
          (type : ℕ) × (from : ℕ) × (held : Held) × (bs : List Bracket) × FollowsMarks g text before front (InNode type from held ∷ bs)
      by (reads {type} {from} {held} {bs} is number does) = (type, from, held, bs, is)

  pub end_of_reference : (after : List Mark) (rest : List Token) (bs : List Bracket) →
      FollowsMarks g text (up_to_end before p op c mid ++ after) ((front ++ mid) ++ rest) bs →
      (stack : List Bracket) × FollowsMarks g text (up_to_end before p op c mid) (front ++ mid) stack
  end_of_reference after rest bs follows =
      let (stack, first, behind) = split g text (up_to_end before p op c mid) (front ++ mid) (kinds_to_end before p op c front mid reads_front) (as_going g text follows) in
      (stack, followed g text f.nothing first)
