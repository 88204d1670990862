-- How the set of nodes that were met grows, and how those that wait are taken from it.
use Rattle.std.proofs.Common.{◌≡◌, ℕ, ◌+◌, ◌<◌, List, [], ◌∷◌, ◌++◌, true, false, length, get_or, set, Contains, inl, inr, refl, sym, ap, ◌∙◌, subst, arith}
use Rattle.std.specs.Prelude.{not, count_by}
use Rattle.std.proofs.lemmas.Bool.{cases_eq}
use Rattle.std.proofs.lemmas.List.{length-set, get_or-set_same, get_or-set_other, length_push}
use Rattle.std.proofs.lemmas.List.Elements.{Contains-append_left, Contains-append_right, Contains-append_cases, Contains-push, Contains-push_cases}
use Rattle.lw_graph.specs.declared.front.Front.{Front}
use Rattle.lw_graph.specs.Growth.{Gains, nodes_left}
use Rattle.lw_graph.specs.Walks.{HasNode}
use Rattle.lw_graph.proofs.Flags.{one_flag_less}

pub not_in_none : {X : Type 0} {x : X} → Contains [] x → ⊥
not_in_none (k, inside, is) = omega arith

pub in_one : {X : Type 0} {x : X} (y : X) → Contains (y ∷ []) x → y ≡ x
in_one y has = elim (Contains-push_cases [] y _ has) [ inl none ↦ absurd (not_in_none none) | inr same ↦ same ]

-- these, and then those
pub Gains-append : (xs ys : List ℕ) {old mid new : Front} → Gains xs old mid → Gains ys mid new → Gains (xs ++ ys) old new
Gains-append xs ys one two = record {
  size = two.size ∙ one.size;
  keeps = λ n has. two.keeps n (one.keeps n has);
  met = λ n among. elim (Contains-append_cases xs ys n among) [ inl first ↦ two.keeps n (one.met n first) | inr then ↦ two.met n then ];
  only = λ n has. elim (two.only n has) [
    | inl before ↦ elim (one.only n before) [
      | inl was ↦ inl was
      | inr new ↦ inr (Contains-append_left xs ys n new.0, two.waits n new.1)
    ]
    | inr new ↦ inr (Contains-append_right xs ys n new.0, new.1)
  ];
  waits = λ n waits. two.waits n (one.waits n waits);
  waiting = λ n waits. elim (two.waiting n waits) [
    | inl before ↦ elim (one.waiting n before) [
      | inl was ↦ inl was
      | inr new ↦ inr (Contains-append_left xs ys n new)
    ]
    | inr new ↦ inr (Contains-append_right xs ys n new)
  ];
  left = two.left ∙ one.left;
}

module _ (node : ℕ) (old : Front) where
  -- it was met already
  pub Gains-had : HasNode old.met.items node → Gains (node ∷ []) old old
  Gains-had had = record {
    size = refl;
    keeps = λ n has. has;
    met = λ n among. subst (HasNode old.met.items) (in_one node among) had;
    only = λ n has. inl has;
    waits = λ n waits. waits;
    waiting = λ n waits. inl waits;
    left = refl;
  }

  -- it is new, and waits
  pub Gains-new : (new : Front) → node < length old.met.items → get_or old.met.items node false ≡ false → new.met.items ≡ set old.met.items node true →
      new.waiting.items ≡ old.waiting.items ++ node ∷ [] → Gains (node ∷ []) old new
  Gains-new new inside fresh flags waiting = record {
    size = ap length flags ∙ length-set old.met.items node true;
    keeps = λ n has. elim (cases_eq n node) [
      | inl same ↦ is_there n same
      | inr differs ↦ ap (λ f. get_or f n false) flags ∙ get_or-set_other old.met.items node n true false differs ∙ has
    ];
    met = λ n among. is_there n (sym (in_one node among));
    only = λ n has. elim (cases_eq n node) [
      | inl same ↦ inr (subst (Contains (node ∷ [])) (sym same) (Contains-push [] node), waits_now n same)
      | inr differs ↦ inl (sym (get_or-set_other old.met.items node n true false differs) ∙ sym (ap (λ f. get_or f n false) flags) ∙ has)
    ];
    waits = λ n waits. subst (λ w. Contains w n) (sym waiting) (Contains-append_left old.waiting.items (node ∷ []) n waits);
    waiting = λ n waits. Contains-append_cases old.waiting.items (node ∷ []) n (subst (λ w. Contains w n) waiting waits);
    left =
        let fewer : count_by not (set old.met.items node true) + 1 ≡ count_by not old.met.items = one_flag_less old.met.items node inside fresh in
        let flagged : count_by not new.met.items ≡ count_by not (set old.met.items node true) = ap (count_by not) flags in
        let longer : length new.waiting.items ≡ length old.waiting.items + 1 = ap length waiting ∙ length_push old.waiting.items node in
        omega arith;
  }
    where
      is_there : (n : ℕ) → n ≡ node → HasNode new.met.items n
      is_there n same = ap (λ f. get_or f n false) flags ∙ ap (λ m. get_or (set old.met.items node true) m false) same ∙ get_or-set_same old.met.items node true false inside

      waits_now : (n : ℕ) → n ≡ node → Contains new.waiting.items n
      waits_now n same = subst (λ w. Contains w n) (sym waiting) (subst (Contains (old.waiting.items ++ node ∷ [])) (sym same) (Contains-push old.waiting.items node))

-- the node was taken from those that wait
pub record Pops (node : ℕ) (old mid : Front) : Type 0 where
  pub met : mid.met ≡ old.met
  pub waiting : old.waiting.items ≡ mid.waiting.items ++ node ∷ []

pub popped_met : (node : ℕ) (old mid : Front) → Pops node old mid → ((n : ℕ) → Contains old.waiting.items n → HasNode old.met.items n) → HasNode old.met.items node
popped_met node old mid pops waiting = waiting node (subst (λ w. Contains w node) (sym pops.waiting) (Contains-push mid.waiting.items node))

pub popped_is_fewer : (node : ℕ) (old mid new : Front) → Pops node old mid → nodes_left new ≡ nodes_left mid → nodes_left new < nodes_left old
popped_is_fewer node old mid new pops left =
    let same : count_by not mid.met.items ≡ count_by not old.met.items = ap (λ m. count_by not m.items) pops.met in
    let one : length old.waiting.items ≡ length mid.waiting.items + 1 = ap length pops.waiting ∙ length_push mid.waiting.items node in
    omega arith
