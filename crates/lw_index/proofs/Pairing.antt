-- Pairs that go in and out.
use Rattle.std.proofs.Common.{◌≡◌, ◌≢◌, ℕ, ◌+◌, ◌<◌, Bool, true, false, not, cond, eqb, List, Option, Some, None, IsTrue, length, get_or, refl, sym, ap, subst, ◌∙◌, inl, inr, arith}
use Rattle.std.specs.Borrow.{Bor}
use Rattle.std.specs.Option.{IfSome, option_copied, option_eq}
use Rattle.std.proofs.lemmas.Bool.{eqb-true}
use Rattle.std.proofs.lemmas.Option.{same_Some, slice_get-get_or}
use Rattle.std.specs.Ordering.{is_eq}
use Rattle.std.specs.List.{list_any}
use Rattle.std.specs.BTreeMap.{is_at}
use Rattle.std.specs.BTreeSet.{BTreeSet, Updates}
use Rattle.std.proofs.lemmas.Bool.{cases_lt}
use Rattle.lw_index.specs.declared.parts.Answer.{Answer}
use Rattle.lw_index.specs.declared.refs.uses.Use.{Use}
use Rattle.lw_index.specs.Uses.{AreUses}
use Rattle.lw_index.specs.Pairs.{Pair, pair_cmp, is_paired, LeadsInto, StaysPaired, HeldAnswers, held_at, ArePaired}
use Rattle.lw_index.proofs.PairOrder.{same_pair}

-- every pair of the one is one of the other
abbrev pub AllStay : BTreeSet Pair → BTreeSet Pair → Type 0
AllStay before after = (p : Pair) → IsTrue (is_paired before p) → IsTrue (is_paired after p)

cond_true : (b x : Bool) → x ≡ true → cond b true x ≡ true
cond_true true x h = refl
cond_true false x h = h

pub inserted_keeps : (before after : BTreeSet Pair) (p : Pair) → Updates pair_cmp before after p true → AllStay before after
inserted_keeps before after p updates q has = updates.0 q ∙ cond_true (is_eq (pair_cmp p q)) (is_paired before q) has

pub removed_keeps : (before after : BTreeSet Pair) (p q : Pair) → Updates pair_cmp before after p false → p ≢ q → IsTrue (is_paired before q) → IsTrue (is_paired after q)
removed_keeps before after p q updates other has = updates.0 q ∙ by (is_eq (pair_cmp p q)) refl
  where
    by : (b : Bool) → is_eq (pair_cmp p q) ≡ b → cond b false (is_paired before q) ≡ true
    by true is = absurd (other (same_pair p q is))
    by false is = has

pub unchanged_keeps : (before after : BTreeSet Pair) → after.keys ≡ before.keys → AllStay before after
unchanged_keeps before after same q has = ap (list_any (is_at (pair_cmp q))) same ∙ has

-- ---- entering

pub record AreEnteredUpTo (initial pairs : BTreeSet Pair) (user : ℕ) (uses : List Use) (count : ℕ) (last : Option ℕ) : Type 0 where
  pub kept : AllStay initial pairs
  pub entered : (k : ℕ) (d : Use) → k < count → IsTrue (is_paired pairs ((get_or uses k d).doc, user))
  pub recent : IfSome last (λ doc. IsTrue (is_paired pairs (doc, user)))

module _ (initial pairs : BTreeSet Pair) (user : ℕ) (uses : List Use) (count : ℕ) (last : Option ℕ) (upto : AreEnteredUpTo initial pairs user uses count last) (doc : ℕ)
    (at : (d : Use) → (get_or uses count d).doc ≡ doc) where
  one_more : (after : BTreeSet Pair) → ((k : ℕ) (d : Use) → k < count → IsTrue (is_paired after ((get_or uses k d).doc, user))) → IsTrue (is_paired after (doc, user)) →
      (k : ℕ) (d : Use) → k < count + 1 → IsTrue (is_paired after ((get_or uses k d).doc, user))
  one_more after all one k d lt = elim (cases_lt k count) as (λ _. IsTrue (is_paired after ((get_or uses k d).doc, user))) [
    | inl before ↦ all k d before
    | inr ge ↦ (
        let here : k ≡ count = omega arith in
        subst (λ (n : ℕ). IsTrue (is_paired after ((get_or uses n d).doc, user))) (sym here) (subst (λ (n : ℕ). IsTrue (is_paired after (n, user))) (sym (at d)) one))
  ]

  entered_one : (after : BTreeSet Pair) → Updates pair_cmp pairs after (doc, user) true → AreEnteredUpTo initial after user uses (count + 1) (Some doc)
  entered_one after updates = record {
    kept = λ p has. inserted_keeps pairs after (doc, user) updates p (upto.kept p has);
    entered = one_more after (λ k d lt. inserted_keeps pairs after (doc, user) updates _ (upto.entered k d lt)) updates.1;
    recent = updates.1;
  }

  entered_before : last ≡ Some doc → AreEnteredUpTo initial pairs user uses (count + 1) last
  entered_before is = record {
    kept = upto.kept;
    entered = one_more pairs upto.entered (subst (λ o. IfSome o (λ n. IsTrue (is_paired pairs (n, user)))) is upto.recent);
    recent = upto.recent;
  }

any_default : (uses : List Use) (i : ℕ) (d e : Use) → i < length uses → (get_or uses i e).doc ≡ (get_or uses i d).doc
any_default uses i d e lt = ap (λ (u : Use). u.doc) (same_Some _ _ (sym (slice_get-get_or uses i e lt) ∙ slice_get-get_or uses i d lt))

is_some_of : (o : Option ℕ) (x : ℕ) → not (option_eq eqb o (Some x)) ≡ false → o ≡ Some x
is_some_of None x h = cc
is_some_of (Some y) x h = ap Some (eqb-true y x (not_not _ h))
  where
    not_not : (b : Bool) → not b ≡ false → b ≡ true
    not_not true h = refl
    not_not false h = cc

module _ (initial pairs : BTreeSet Pair) (user : ℕ) (uses : List Use) (count : ℕ) (last : Option ℕ) (upto : AreEnteredUpTo initial pairs user uses count last) (d : Use) (next : Option ℕ)
    (now : BTreeSet Pair) (within : count < length uses) where
  pub entered_then : (after : BTreeSet Pair) → now ≡ after → next ≡ Some (get_or uses count d).doc → Updates pair_cmp pairs after ((get_or uses count d).doc, user) true → AreEnteredUpTo initial now user uses (count + 1) next
  entered_then after same is updates = subst (λ s. AreEnteredUpTo initial s user uses (count + 1) next) (sym same) (subst (λ o. AreEnteredUpTo initial after user uses (count + 1) o) (sym is)
      (entered_one initial pairs user uses count last upto (get_or uses count d).doc (λ e. any_default uses count d e within) after updates))

  pub entered_else : now ≡ pairs → next ≡ last → not (option_eq eqb last (Some (get_or uses count d).doc)) ≡ false → AreEnteredUpTo initial now user uses (count + 1) next
  entered_else same is known = subst (λ s. AreEnteredUpTo initial s user uses (count + 1) next) (sym same) (subst (λ o. AreEnteredUpTo initial pairs user uses (count + 1) o) (sym is)
      (entered_before initial pairs user uses count last upto (get_or uses count d).doc (λ e. any_default uses count d e within) (is_some_of last (get_or uses count d).doc known)))

pub all_entered : (answers : List Answer) (uses : List Use) (pairs : BTreeSet Pair) (user : ℕ) → AreUses answers uses → ((k : ℕ) (d : Use) → k < length uses → IsTrue (is_paired pairs ((get_or uses k d).doc, user))) →
    (doc : ℕ) → LeadsInto answers doc → IsTrue (is_paired pairs (doc, user))
all_entered answers uses pairs user are all doc leads =
    let u : Use = record { doc = leads.target.doc.0; node = leads.target.node.0; reference = leads.reference } in
    let has = (are.exact u).1 leads.found in
    subst (λ (n : ℕ). IsTrue (is_paired pairs (n, user))) (ap (λ (v : Use). v.doc) has.2 ∙ leads.into) (all has.0 u has.1)

-- ---- leaving

-- those stay that are of others, or that what is kept leads to
abbrev pub SomeStay : ℕ → Option (Bor (List Answer)) → BTreeSet Pair → BTreeSet Pair → Type 0
SomeStay user kept before after = (p : Pair) → IsTrue (is_paired before p) → StaysPaired user kept p → IsTrue (is_paired after p)

pub left_some : (before after : BTreeSet Pair) (doc user : ℕ) (kept : Bor (List Answer)) → Updates pair_cmp before after (doc, user) false → ¬ (LeadsInto kept.now doc) → SomeStay user (Some kept) before after
left_some before after doc user kept updates none p has stays = removed_keeps before after (doc, user) p updates
    (λ same. none (subst (LeadsInto kept.now) (sym (ap (λ (q : Pair). q.0) same)) (stays (sym (ap (λ (q : Pair). q.1) same))))) has

pub left_none : (before after : BTreeSet Pair) (doc user : ℕ) → Updates pair_cmp before after (doc, user) false → SomeStay user None before after
left_none before after doc user updates p has stays = removed_keeps before after (doc, user) p updates (λ same. stays (sym (ap (λ (q : Pair). q.1) same))) has

pub left_by_some : (before after : BTreeSet Pair) (doc user : ℕ) (kept : Option (Bor (List Answer))) (held : Bor (List Answer)) → kept ≡ Some held → Updates pair_cmp before after (doc, user) false →
    (r : Bool) → (LeadsInto held.now doc → IsTrue r) → r ≡ false → SomeStay user kept before after
left_by_some before after doc user kept held is updates r leads off = subst (λ k. SomeStay user k before after) (sym is) (left_some before after doc user held updates (λ into. not_both r (leads into) off))
  where
    not_both : (r : Bool) → r ≡ true → r ≡ false → ⊥
    not_both true h k = cc
    not_both false h k = cc

pub left_by_none : (before after : BTreeSet Pair) (doc user : ℕ) (kept : Option (Bor (List Answer))) → kept ≡ None → Updates pair_cmp before after (doc, user) false → SomeStay user kept before after
left_by_none before after doc user kept is updates = subst (λ k. SomeStay user k before after) (sym is) (left_none before after doc user updates)

-- ---- sweeping

stays_by : (documents : HeldAnswers) (user : ℕ) (kept : Option (Bor (List Answer))) → option_copied kept ≡ held_at documents user → (other doc : ℕ) (answers : List Answer) →
    held_at documents other ≡ Some answers → LeadsInto answers doc → StaysPaired user kept (doc, other)
stays_by documents user None is other doc answers at leads = λ same. none answers (is ∙ ap (held_at documents) (sym same) ∙ at)
  where
    none : (answers : List Answer) → option_copied {T = List Answer} None ≡ Some answers → ⊥
    none answers e = cc
stays_by documents user (Some kept) is other doc answers at leads = λ same. subst (λ (list : List Answer). LeadsInto list doc) (sym (one (is ∙ ap (held_at documents) (sym same) ∙ at))) leads
  where
    one : Some kept.now ≡ Some answers → kept.now ≡ answers
    one e = cc

pub swept : (documents : HeldAnswers) (before after : BTreeSet Pair) (user : ℕ) (kept : Option (Bor (List Answer))) → option_copied kept ≡ held_at documents user → SomeStay user kept before after →
    ArePaired documents before → ArePaired documents after
swept documents before after user kept is stay paired other doc answers at leads = stay (doc, other) (paired other doc answers at leads) (stays_by documents user kept is other doc answers at leads)
