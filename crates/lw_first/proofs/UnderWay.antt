-- What is known of the sets of what follows rules stays known as rules are gone through, and in the end the sets are closed.
use Rattle.std.proofs.Common.{◌≡◌, ℕ, ◌+◌, ◌<◌, ◌≤◌, List, [], Bool, true, false, Some, length, slice_get, slice_set, replicate, ◌⊎◌, inl, inr, refl, sym, ap, ◌∙◌, subst, arith}
use Rattle.std.proofs.lemmas.Bool.{cases_eq}
use Rattle.std.proofs.lemmas.Option.{same_Some, slice_get_within, slice_get-get_or}
use Rattle.lw_grammar.specs.declared.grammar.Grammar.{Grammar}
use Rattle.lw_grammar.specs.declared.rule.Rule.{Rule}
use Rattle.lw_grammar.specs.Kinds.{Kinds}
use Rattle.lw_look.specs.Sites.{Body}
use Rattle.lw_look.specs.Sites as site
use Rattle.lw_look.specs.Heads.{AreTrueHeads, AreTrueAfters, AreClosedAfters, CanFollow}
use Rattle.lw_look.specs.Heads as head
use Rattle.lw_look.proofs.Growing.{grown_after, true_entry}
use Rattle.lw_first.specs.declared.heads.head.Head.{Head}
use Rattle.lw_first.specs.Sets.{IsInSet}
use Rattle.lw_first.specs.Calls.{BehindCalls}
use Rattle.lw_first.specs.Calls as call
use Rattle.lw_first.specs.FollowRounds.{AddsAfters, AreFirstAfters, AreWalked, IsUnderWay, IsWalked, WentOn, heads_left}
use Rattle.lw_first.proofs.CallSites.{caller, follows_call, stands_in_rule}
use Rattle.lw_first.proofs.Putting.{get_replicate, get_set_other, get_set_same}

-- ---- rules one after the other

module _ (rule : ℕ) (old_walked mid_walked walked : List ℕ) (old mid new : List (List Head)) where
  no_more_left : (one : Bool) → WentOn (AreWalked rule) old_walked old mid_walked mid one → heads_left mid_walked ≤ heads_left old_walked
  no_more_left true fewer = omega (arith, fewer)
  no_more_left false (same, others, done) = omega (arith, ap heads_left same)

  -- one more rule that was gone through
  pub went_further : (one : Bool) → WentOn (AreWalked rule) old_walked old mid_walked mid one → WentOn (IsWalked rule) mid_walked mid walked new true →
      WentOn (AreWalked (rule + 1)) old_walked old walked new true
  went_further one before fewer = omega (arith, no_more_left one before, fewer)

  -- one more rule with nothing to do
  pub went_on_as_before : (one : Bool) → WentOn (AreWalked rule) old_walked old mid_walked mid one → WentOn (IsWalked rule) mid_walked mid walked new false →
      WentOn (AreWalked (rule + 1)) old_walked old walked new one
  went_on_as_before true before (same, others, done) = omega (arith, before, ap heads_left same)
  went_on_as_before false (same, others, done) (same_now, others_now, walked_now) = (
    same_now ∙ same,
    others_now ∙ others,
    λ r below. elim (cases_eq r rule) [
      | inl is ↦ subst (λ n. IsWalked n old_walked old) (sym is) (subst (λ sets. IsWalked rule old_walked sets) others (subst (λ flags. IsWalked rule flags mid) same walked_now))
      | inr differs ↦ done r (omega arith)
    ],
  )

module _ (g : Grammar) (kinds : Kinds) (k : ℕ) (heads : List (List Head)) where
  -- ---- at first

  pub first_under_way : (rules : ℕ) (sets : List (List Head)) → AreFirstAfters g sets → IsUnderWay g kinds k heads (replicate rules 0) sets
  first_under_way rules sets first = record {
    entry = λ r rule is. (first r []).1 (rule, is, refl);
    no_others = λ r h has.
        let (rule, is, same) = (first r h).0 has in let (ks, after, ends) = true_entry g kinds k is in (ks, after, same ∙ ends);
    within = λ r n set at there. let zero_is : n ≡ 0 = get_replicate rules 0 r n at in omega arith;
    done = λ r n set rule at there few is q h (a, (top, (i, inside, same), are), does).
        let zero_is : n ≡ 0 = get_replicate rules 0 r n at in absurd (omega arith);
  }

  -- ---- once a rule was gone through

  module _ (true_heads : AreTrueHeads g kinds k (IsInSet heads)) (walked : List ℕ) (old new : List (List Head)) (r : ℕ) (rule : Rule) (set : List Head)
      (is : slice_get g.rules r ≡ Some rule) (at : slice_get old r ≡ Some set) (n : ℕ) (had : slice_get walked r ≡ Some n)
      (puts : AddsAfters (BehindCalls g kinds k heads (Body rule.body) set) old new) (was : IsUnderWay g kinds k heads walked old) where
    now_walked : slice_get (slice_set walked r (length set)) r ≡ Some (length set)
    now_walked = get_set_same walked r (length set) n had

    -- what is put in follows a call in a sentence
    no_others : AreTrueAfters g kinds k (IsInSet heads) (IsInSet new)
    no_others q h has = elim ((puts.exact q h).0 has) [
      | inl before ↦ was.no_others q h before
      | inr (a, among, does) ↦
          let (s, caller_is, follows) = follows_call g kinds k heads (IsInSet old) does (site.body r) (site.whole is) (head.whole (set, at, among)) in
          grown_after g kinds k (IsInSet heads) (IsInSet old) true_heads was.no_others caller_is follows
    ]

    within : (q m : ℕ) (now : List Head) → slice_get (slice_set walked r (length set)) q ≡ Some m → slice_get new q ≡ Some now → m ≤ length now
    within q m now counted there = let (before, before_at, longer) = puts.grown q now there in by before before_at longer
      where
        by : (before : List Head) → slice_get old q ≡ Some before → (now ≡ before) ⊎ (length before < length now) → m ≤ length now
        by before before_at longer = elim (cases_eq q r) [
          | inl same ↦
              let m_is : length set ≡ m = same_Some (length set) m (sym now_walked ∙ ap (slice_get (slice_set walked r (length set))) (sym same) ∙ counted) in
              let set_is : length before ≡ length set = ap length (same_Some before set (sym before_at ∙ ap (slice_get old) same ∙ at)) in grows longer (omega arith)
          | inr differs ↦ grows longer (was.within q m before (sym (get_set_other walked r q (length set) differs) ∙ counted) before_at)
        ]
          where
            grows : (now ≡ before) ⊎ (length before < length now) → m ≤ length before → m ≤ length now
            grows (inl same) few = subst (λ xs. m ≤ length xs) (sym same) few
            grows (inr more) few = omega arith

    done : (q m : ℕ) (now : List Head) (item : Rule) → slice_get (slice_set walked r (length set)) q ≡ Some m → slice_get new q ≡ Some now → length now ≤ m →
        slice_get g.rules q ≡ Some item → (p : ℕ) (h : List ℕ) → BehindCalls g kinds k heads (Body item.body) now p h → IsInSet new p h
    done q m now item counted there few item_is p h behind = let (before, before_at, longer) = puts.grown q now there in elim (cases_eq q r) [
      | inl same ↦
          let m_is : length set ≡ m = same_Some (length set) m (sym now_walked ∙ ap (slice_get (slice_set walked r (length set))) (sym same) ∙ counted) in
          let before_is : before ≡ set = same_Some before set (sym before_at ∙ ap (slice_get old) same ∙ at) in
          let rule_is : item ≡ rule = same_Some item rule (sym item_is ∙ ap (slice_get g.rules) same ∙ is) in
          here (subst (λ xs. (now ≡ xs) ⊎ (length xs < length now)) before_is longer) (omega arith) rule_is
      | inr differs ↦ other before before_at longer (sym (get_set_other walked r q (length set) differs) ∙ counted)
    ]
      where
        here : (now ≡ set) ⊎ (length set < length now) → length now ≤ length set → item ≡ rule → IsInSet new p h
        here (inl same) fit rule_is =
            (puts.exact p h).1 (inr (subst (λ xs. BehindCalls g kinds k heads (Body rule.body) xs p h) same (subst (λ (x : Rule). BehindCalls g kinds k heads (Body x.body) now p h) rule_is behind)))
        here (inr more) fit rule_is = absurd (omega arith)

        other : (before : List Head) → slice_get old q ≡ Some before → (now ≡ before) ⊎ (length before < length now) → slice_get walked q ≡ Some m → IsInSet new p h
        other before before_at (inl same) counted_before =
            (puts.exact p h).1 (inl (was.done q m before item counted_before before_at (subst (λ xs. length xs ≤ m) same few) item_is p h
            (subst (λ xs. BehindCalls g kinds k heads (Body item.body) xs p h) same behind)))
        other before before_at (inr more) counted_before = let most = was.within q m before counted_before before_at in absurd (omega arith)

    pub still_under_way : IsUnderWay g kinds k heads (slice_set walked r (length set)) new
    still_under_way = record { entry = λ q item first. (puts.exact q []).1 (inl (was.entry q item first)); no_others = no_others; within = within; done = done }

  -- ---- in the end

  pub closed_in_the_end : (walked : List ℕ) (sets : List (List Head)) → length walked ≡ length g.rules → IsUnderWay g kinds k heads walked sets →
      AreWalked (length g.rules) walked sets → AreClosedAfters g kinds k (IsInSet heads) (IsInSet sets)
  closed_in_the_end walked sets size are all = record {
    entry = are.entry;
    called = λ s r h calls follows.
        let (x, name, rule, stands, reads, means) = caller g calls in
        let (q, item, a, there, (set, at, among), does) = stands_in_rule g kinds k heads (IsInSet sets) follows x stands (call.called reads means) in
        let inside : q < length walked = omega (arith, size, slice_get_within g.rules q item there) in
        let counted = slice_get-get_or walked q 0 inside in
        are.done q _ set item counted at (all q (omega arith) _ set counted at) there r h (a, among, does);
  }
