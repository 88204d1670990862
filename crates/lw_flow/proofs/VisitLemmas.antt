-- PutsVisits of leaves, one after the other, and what is known at the leaves of an element by its form.
use Rattle.std.proofs.Common.{◌≡◌, ◌↔◌, ◌⊎◌, ℕ, zero, suc, ◌+◌, List, [], ◌∷◌, ◌++◌, Option, Some, length, slice_get, Contains, refl, sym, ap, ◌∙◌, subst, inl, inr, arith, length-append, append_assoc, append-nil}
use Rattle.std.proofs.lemmas.Option.{same_Some, none-some, slice_get_within}
use Rattle.lw_grammar.specs.declared.grammar.Grammar.{Grammar}
use Rattle.lw_grammar.specs.Leaves.{Leaf}
use Rattle.lw_flow.specs.declared.effect.Effect.{Effect}
use Rattle.lw_flow.specs.declared.effect.Effect.TheVariants.{Nothing}
use Rattle.lw_flow.specs.declared.effect.Mark.{Mark}
use Rattle.lw_flow.specs.declared.effect.Mark.TheVariants.{Done, Own, Of}
use Rattle.lw_flow.specs.declared.walking.Visit.{Visit}
use Rattle.lw_flow.specs.Effects.{weight, joined_effect}
use Rattle.lw_flow.specs.Marks.{Moves}
use Rattle.lw_flow.specs.Marks as move
use Rattle.lw_flow.specs.Visits.{IsPlaceOf, Pushed, TellsOf, PutsVisits}
use Rattle.lw_flow.proofs.EffectLemmas.{joined-Nothing, joined_assoc, joined-below, weight-joined}

-- ---- marks that are moved on

pub moves_on : {n : Mark} {x : Effect} {k : Mark} {y : Effect} {m : Mark} → Moves n x k → Moves k y m → Moves n (joined_effect x y) m
moves_on (move.done {x = a} {y = x}) (move.done {y}) = subst (λ z. Moves (Done a) (joined_effect x y) (Done z)) (sym (joined_assoc a x y)) move.done
moves_on (move.own {y = x} lt) (move.own {y} less) = move.own (joined-below x y 3 lt less)
moves_on move.of move.of = move.of

moves_apart_so : {n : Mark} {z : Effect} {m : Mark} → Moves n z m → (x y : Effect) → z ≡ joined_effect x y → (k : Mark) × Moves n x k × Moves k y m
moves_apart_so (move.done {x = a} {y = z}) x y is =
    (Done (joined_effect a x), move.done, subst (λ w. Moves (Done (joined_effect a x)) y (Done w)) (joined_assoc a x y ∙ ap (joined_effect a) (sym is)) move.done)
moves_apart_so (move.own {n} {y = z} lt) x y is =
    let most = weight-joined x y in
    (Own n, move.own (omega (arith, lt, ap weight is, most.0)), move.own (omega (arith, lt, ap weight is, most.1)))
moves_apart_so (move.of {n}) x y is = (Of n, move.of, move.of)

pub moves_apart : {n : Mark} {m : Mark} (x y : Effect) → Moves n (joined_effect x y) m → (k : Mark) × Moves n x k × Moves k y m
moves_apart x y moves = moves_apart_so moves x y refl

pub stands_still : (n : Mark) → Moves n Nothing n
stands_still (Done x) = subst (λ z. Moves (Done x) Nothing (Done z)) (joined-Nothing x) move.done
stands_still (Own n) = move.own (omega arith)
stands_still (Of n) = move.of

pub stood_still : {n : Mark} {x : Effect} {m : Mark} → Moves n x m → x ≡ Nothing → m ≡ n
stood_still (move.done {x} {y}) is = ap Done (ap (joined_effect x) is ∙ joined-Nothing x)
stood_still (move.own _) is = refl
stood_still move.of is = refl

-- ---- rows of two kinds

module _ {A : Type 0} where
  get_left : (xs ys : List A) (i : ℕ) (x : A) → slice_get xs i ≡ Some x → slice_get (xs ++ ys) i ≡ Some x
  get_left [] ys i x is = absurd (none-some x is)
  get_left (z ∷ xs) ys zero x is = is
  get_left (z ∷ xs) ys (suc i) x is = get_left xs ys i x is

  get_right : (xs ys : List A) (i : ℕ) (x : A) → slice_get ys i ≡ Some x → slice_get (xs ++ ys) (length xs + i) ≡ Some x
  get_right [] ys i x is = let same : i ≡ 0 + i = omega arith in subst (λ n. slice_get ys n ≡ Some x) same is
  get_right (z ∷ xs) ys i x is =
      let same : suc (length xs + i) ≡ suc (length xs) + i = omega arith in subst (λ n. slice_get (z ∷ (xs ++ ys)) n ≡ Some x) same (get_right xs ys i x is)

  -- a place is among the first or behind them
  data Side (xs ys : List A) (i : ℕ) (x : A) : Type 0 where
    left : slice_get xs i ≡ Some x → Side xs ys i x
    right : (j : ℕ) → i ≡ length xs + j → slice_get ys j ≡ Some x → Side xs ys i x

  side : (xs ys : List A) (i : ℕ) (x : A) → slice_get (xs ++ ys) i ≡ Some x → Side xs ys i x
  side [] ys i x is = right i (omega arith) is
  side (z ∷ xs) ys zero x is = left is
  side (z ∷ xs) ys (suc i) x is = by (side xs ys i x is)
    where
      by : Side xs ys i x → Side (z ∷ xs) ys (suc i) x
      by (left at) = left at
      by (right j same at) = right j (omega (arith, same)) at

module _ (g : Grammar) where
  module _ (R Q P : Leaf → Mark → Type 0) (either : (l : Leaf) (m : Mark) → P l m ↔ (R l m ⊎ Q l m)) {ls ks : List Leaf} {vs ws : List Visit} (one : TellsOf g R ls vs)
      (two : TellsOf g Q ks ws) where
    both_place : (i : ℕ) (l : Leaf) (v : Visit) → Side ls ks i l → Side vs ws i v → IsPlaceOf g l v.enters
    both_place i l v (left at) (left there) = one.place i l v at there
    both_place i l v (left at) (right j same there) = absurd (omega (arith, slice_get_within ls i l at, one.all, same))
    both_place i l v (right j same at) (left there) = absurd (omega (arith, slice_get_within vs i v there, one.all, same))
    both_place i l v (right j same at) (right k also there) =
        let is : k ≡ j = omega (arith, same, also, one.all) in
        two.place j l v at (subst (λ n. slice_get ws n ≡ Some v) is there)

    both_sound : (i : ℕ) (v : Visit) (m : Mark) → Side vs ws i v → Contains v.marks.keys m → (l : Leaf) × (slice_get (ls ++ ks) i ≡ Some l) × P l m
    both_sound i v m (left there) has = let is = one.sound i v m there has in (is.0, get_left ls ks i is.0 is.1, (either is.0 m).1 (inl is.2))
    both_sound i v m (right j same there) has =
        let is = two.sound j v m there has in
        let at : i ≡ length ls + j = omega (arith, same, one.all) in
        (is.0, subst (λ n. slice_get (ls ++ ks) n ≡ Some is.0) (sym at) (get_right ls ks j is.0 is.1), (either is.0 m).1 (inr is.2))

    tells_both : TellsOf g P (ls ++ ks) (vs ++ ws)
    tells_both = record {
      all = omega (arith, length-append ls ks, length-append vs ws, one.all, two.all);
      place = λ i l v at there. both_place i l v (side ls ks i l at) (side vs ws i v there);
      sound = λ i v m there has. both_sound i v m (side vs ws i v there) has;
      complete = λ l m known. elim ((either l m).0 known) [
        | inl sooner ↦
            let is = one.complete l m sooner in (is.0, is.1, get_left ls ks is.0 l is.2, get_left vs ws is.0 is.1 is.3, is.4)
        | inr later ↦
            let is = two.complete l m later in (
              length ls + is.0,
              is.1,
              get_right ls ks is.0 l is.2,
              subst (λ n. slice_get (vs ++ ws) n ≡ Some is.1) (ap (λ n. n + is.0) one.all) (get_right vs ws is.0 is.1 is.3),
              is.4,
            )
      ];
    }

  pub visits_both : (R Q P : Leaf → Mark → Type 0) {ls ks all : List Leaf} {old mid new : List Visit} → ((l : Leaf) (m : Mark) → P l m ↔ (R l m ⊎ Q l m)) → all ≡ ls ++ ks →
      PutsVisits g R ls old mid → PutsVisits g Q ks mid new → PutsVisits g P all old new
  visits_both R Q P {all} {old} either same one two = record {
    more = one.more ++ two.more;
    is = two.is ∙ ap (λ vs. vs ++ two.more) one.is ∙ append_assoc old one.more two.more;
    tells = subst (λ ls. TellsOf g P ls (one.more ++ two.more)) (sym same) (tells_both R Q P either one.tells two.tells);
  }

  pub visits_same : (R Q : Leaf → Mark → Type 0) {ls ks : List Leaf} {old new : List Visit} → ((l : Leaf) (m : Mark) → R l m ↔ Q l m) → ls ≡ ks → PutsVisits g R ls old new →
      PutsVisits g Q ks old new
  visits_same R Q iff same one = record {
    more = one.more;
    is = one.is;
    tells = subst (λ ls. TellsOf g Q ls one.more) same (record {
      all = one.tells.all;
      place = one.tells.place;
      sound = λ i v m there has. let is = one.tells.sound i v m there has in (is.0, is.1, (iff is.0 m).0 is.2);
      complete = λ l m known. one.tells.complete l m ((iff l m).1 known);
    });
  }

  pub visits_none : (R : Leaf → Mark → Type 0) (old : List Visit) → ((l : Leaf) (m : Mark) → ¬ R l m) → PutsVisits g R [] old old
  visits_none R old none = record {
    more = [];
    is = sym (append-nil old);
    tells = record {
      all = refl;
      place = λ i l v at _. absurd (none-some l at);
      sound = λ i v m there _. absurd (none-some v there);
      complete = λ l m known. absurd (none l m known);
    };
  }

  -- one visit, of the one leaf
  pub visits_one : (R : Leaf → Mark → Type 0) {enters : Option ℕ} {marks : List Mark} {old new : List Visit} (l : Leaf) {ls : List Leaf} → ls ≡ l ∷ [] → IsPlaceOf g l enters →
      ((k : Leaf) (m : Mark) → R k m ↔ ((k ≡ l) × Contains marks m)) → Pushed enters marks old new → PutsVisits g R ls old new
  visits_one R {enters} l {ls} same place iff pushed = record {
    more = pushed.visit ∷ [];
    is = pushed.is;
    tells = subst (λ ls. TellsOf g R ls (pushed.visit ∷ [])) (sym same) (record {
      all = refl;
      place = place_so;
      sound = sound_so;
      complete = λ k m known. let is = (iff k m).0 known in (0, pushed.visit, ap Some (sym is.0), refl, (pushed.exact m).1 is.1);
    });
  }
    where
      place_so : (i : ℕ) (k : Leaf) (v : Visit) → slice_get (l ∷ []) i ≡ Some k → slice_get (pushed.visit ∷ []) i ≡ Some v → IsPlaceOf g k v.enters
      place_so zero k v at there =
          subst (λ k. IsPlaceOf g k v.enters) (same_Some l k at)
          (subst (IsPlaceOf g l) (sym pushed.place ∙ ap (λ (v : Visit). v.enters) (same_Some pushed.visit v there)) place)
      place_so (suc i) k v at there = absurd (none-some k at)

      sound_so : (i : ℕ) (v : Visit) (m : Mark) → slice_get (pushed.visit ∷ []) i ≡ Some v → Contains v.marks.keys m → (k : Leaf) × (slice_get (l ∷ []) i ≡ Some k) × R k m
      sound_so zero v m there has =
          (l, refl, (iff l m).1 (refl, (pushed.exact m).0 (subst (λ (w : Visit). Contains w.marks.keys m) (sym (same_Some pushed.visit v there)) has)))
      sound_so (suc i) v m there has = absurd (none-some v there)
