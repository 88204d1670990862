-- What is so of the sets where a rule is done, and of the rules that wait.
use Rattle.std.proofs.Common.{◌≡◌, ℕ, ◌+◌, ◌<◌, List, [], ◌∷◌, ◌++◌, Bool, true, false, ◌||◌, Some, Contains, ◌⊎◌, inl, inr, true≢false, length, slice_get, get_or, set, take, drop, refl, sym, ap, ◌∙◌, subst, arith}
use Rattle.std.proofs.lemmas.Bool.{cases_eq}
use Rattle.std.proofs.lemmas.List.{get_or-set_other}
use Rattle.std.proofs.Math.Seq.{take-append_seam}
use Rattle.std.proofs.lemmas.Option.{same_Some}
use Rattle.lw_grammar.specs.declared.grammar.Grammar.{Grammar}
use Rattle.lw_grammar.specs.declared.rule.Rule.{Rule}
use Rattle.lw_grammar.specs.Kinds.{Kinds}
use Rattle.lw_grammar.specs.Marks.{Mark, kinds_of}
use Rattle.lw_grammar.specs.Yields.{RuleGives}
use Rattle.lw_look.specs.Heads.{Can, AreClosedHeads}
use Rattle.lw_look.specs.Sites.{Body}
use Rattle.lw_look.specs.Supplied.{NodesAreTold}
use Rattle.lw_look.proofs.Growing.{grown_head}
use Rattle.lw_graph.specs.Walks.{Links, HasEdge, successors_of}
use Rattle.lw_first.specs.declared.heads.head.Head.{Head}
use Rattle.lw_first.specs.declared.heads.head.Head.TheVariants.{Nothing}
use Rattle.lw_first.specs.Sets.{AddsHeads, IsAmongHeads, IsInSet}
use Rattle.lw_first.proofs.HeadLemmas.{adds_to_none, among_one}
use Rattle.lw_first.specs.Before.{CanBefore}
use Rattle.lw_first.specs.Calling.{HasAllCalls, HasCall}
use Rattle.lw_first.specs.Rounds.{BodyCan, GrowsAt, StaysTrue, AreRulesSettled, SettlesMore, WorksOrRests, NoneWaits, rounds_left}
use Rattle.lw_first.proofs.Moving.{moved}
use Rattle.lw_first.proofs.GrownSets.{in_sets}

-- ---- one rule

module _ (g : Grammar) (kinds : Kinds) (k : ℕ) where
  -- its set got what its body may have
  pub grows_at : (sets : List (List Head)) (number : ℕ) (own new heads : List Head) (rule : Rule) → number < length sets → own ≡ get_or sets number own →
      slice_get g.rules number ≡ Some rule → AddsHeads (CanBefore g kinds k sets (Body rule.body) (Nothing ∷ [])) [] heads → AddsHeads (IsAmongHeads heads) own new →
      GrowsAt g kinds k number sets (set sets number new)
  grows_at sets number own new heads rule inside is there found adds r h = (
    λ has. into ((in_sets sets number own new inside is (IsAmongHeads heads) adds r h).0 has),
    λ either. (in_sets sets number own new inside is (IsAmongHeads heads) adds r h).1 (from either),
  )
    where
      told : IsAmongHeads heads h → BodyCan g kinds k sets number h
      told among =
          let (a, at_end, can) = (adds_to_none heads found h).0 among in
          (rule, there, subst (λ a. Can g kinds k (IsInSet sets) (Body rule.body) a h) ((among_one Nothing a).0 at_end) can)

      into : IsInSet sets r h ⊎ ((r ≡ number) × IsAmongHeads heads h) → IsInSet sets r h ⊎ ((r ≡ number) × BodyCan g kinds k sets number h)
      into (inl has) = inl has
      into (inr (same, among)) = inr (same, told among)

      among : BodyCan g kinds k sets number h → IsAmongHeads heads h
      among (other, at, can) =
          (adds_to_none heads found h).1 ([], (among_one Nothing []).1 refl, subst (λ (x : Rule). Can g kinds k (IsInSet sets) (Body x.body) [] h) (same_Some other rule (sym at ∙ there)) can)

      from : IsInSet sets r h ⊎ ((r ≡ number) × BodyCan g kinds k sets number h) → IsInSet sets r h ⊎ ((r ≡ number) × IsAmongHeads heads h)
      from (inl has) = inl has
      from (inr (same, can)) = inr (same, among can)

  -- true heads stay true
  pub stays_true : (number : ℕ) (old new : List (List Head)) → NodesAreTold g → GrowsAt g kinds k number old new → StaysTrue g kinds k old new
  stays_true number old new nodes grows true_heads r rule h at has = by ((grows r h).0 has)
    where
      by : IsInSet old r h ⊎ ((r ≡ number) × BodyCan g kinds k old number h) → (m : List Mark) × RuleGives g kinds r rule m × (h ≡ take k (kinds_of m))
      by (inl was) = true_heads r rule h at was
      by (inr (same, (other, there, can))) =
          let here : slice_get g.rules number ≡ Some rule = ap (slice_get g.rules) (sym same) ∙ at in
          grown_head g kinds k (IsInSet old) true_heads nodes at (subst (λ (x : Rule). Can g kinds k (IsInSet old) (Body x.body) [] h) (same_Some other rule (sym there ∙ here)) can)

  module _ (waiting : List Bool) (sets next : List (List Head)) (number : ℕ) (grows : GrowsAt g kinds k number sets next) where
    -- the rule that is done has what its body may have, as those that did not wait
    done_has : AreRulesSettled g kinds k (waiting, sets) → (r : ℕ) (h : List ℕ) → get_or (set waiting number false) r false ≡ false → BodyCan g kinds k sets r h → IsInSet next r h
    done_has settled r h done can = elim (cases_eq r number) [
      | inl same ↦ (grows r h).1 (inr (same, subst (λ n. BodyCan g kinds k sets n h) same can))
      | inr differs ↦ (grows r h).1 (inl (settled r h (sym (get_or-set_other waiting number r false false differs) ∙ done) can))
    ]

    pub settles_same : next ≡ sets → SettlesMore g kinds k (waiting, sets) (set waiting number false, next)
    settles_same same settled r h done can = done_has settled r h done (subst (λ s. BodyCan g kinds k s r h) same can)

    -- where the rule got a head, its callers wait, and no other body may have more
    pub settles_woken : (graph : Links) → HasAllCalls g graph → (woken : List Bool) →
        ((r : ℕ) → get_or woken r false ≡ false → (get_or (set waiting number false) r false ≡ false) × ¬ Contains (successors_of graph number) r) →
        SettlesMore g kinds k (waiting, sets) (woken, next)
    settles_woken graph calls woken told settled r h done (rule, at, can) =
        done_has settled r h (told r done).0 (rule, at, moved g kinds k (IsInSet next) (IsInSet sets) (λ q f has holds. known q f has ((grows q f).0 holds)) can)
      where
        known : (q : ℕ) (f : List ℕ) → HasCall g (Body rule.body) q → IsInSet sets q f ⊎ ((q ≡ number) × BodyCan g kinds k sets number f) → IsInSet sets q f
        known q f has (inl was) = was
        known q f has (inr (same, _)) = absurd ((told r done).1 (subst (λ n. HasEdge graph n r) same (calls r rule q at has)))

  -- where no rule waits, the heads are all
  pub all_settled : (waiting : List Bool) (sets : List (List Head)) → AreRulesSettled g kinds k (waiting, sets) → NoneWaits 0 waiting → AreClosedHeads g kinds k (IsInSet sets)
  all_settled waiting sets settled none = λ r rule h there can. settled r h (none r (omega arith)) (rule, there, can)

-- ---- one rule after the other

pub works_more : (start mid next : List Bool × List (List Head)) (worked more : Bool) → WorksOrRests start mid worked → WorksOrRests mid next more →
    WorksOrRests start next (worked || more)
works_more start mid next true true before now = omega (arith, before, now)
works_more start mid next true false before now = subst (λ state. rounds_left state < rounds_left start) (sym now) before
works_more start mid next false true before now = subst (λ state. rounds_left next < rounds_left state) before now
works_more start mid next false false before now = now ∙ before

pub rests_more : (number : ℕ) (mid next : List Bool × List (List Head)) (worked more : Bool) → (worked ≡ false → NoneWaits (number + 1) mid.0) → WorksOrRests mid next more →
    (more ≡ false → get_or next.0 number false ≡ false) → (worked || more) ≡ false → NoneWaits number next.0
rests_more number mid next true more before now here none = absurd (true≢false none)
rests_more number mid next false true before now here none = absurd (true≢false none)
rests_more number mid next false false before now here none = λ r past. elim (cases_eq r number) [
  | inl same ↦ subst (λ n. get_or next.0 n false ≡ false) (sym same) (here refl)
  | inr differs ↦ subst (λ (state : List Bool × List (List Head)). get_or state.0 r false ≡ false) (sym now) (before refl r (omega (arith, past, differs)))
]

-- what a slice leaves in the list that it was lent from
pub written_back : {X : Type 0} (len : ℕ) (new old : List X) → len ≡ length new → take len (new ++ drop (length new) old) ≡ new
written_back len new old is = ap (λ n. take n (new ++ drop (length new) old)) is ∙ take-append_seam new (drop (length new) old)
