-- The document at an address, by its place among all: one, or none.
use Rattle.std.proofs.Common.{◌≡◌, ◌≢◌, ℕ, suc, zero, Bool, true, false, List, [], ◌∷◌, Option, Some, None, slice_get, refl, sym, ap, ◌∙◌, subst, arith, inl, inr}
use Rattle.std.specs.Prelude.{if◌then◌else◌}
use Rattle.std.specs.Cmp.Lexicographic.{slice_cmp}
use Rattle.std.specs.Ordering.{nat_cmp, ordering_reverse}
use Rattle.std.specs.Str.{bytes_eq}
use Rattle.std.specs.declared.cmp.Ordering.TheVariants.{Less, Greater}
use Rattle.std.proofs.lemmas.Bool.{cases_lt}
use Rattle.std.proofs.lemmas.Cmp.{nat_list_cmp_total, tied_itself}
use Rattle.std.proofs.lemmas.Option.{same_Some, none-some}
use Rattle.std.proofs.lemmas.Slice.Eq.{bytes_eq-Decides}
use Rattle.lw_query.specs.Built.{texts_seen, trees_seen, tree_seen}
use Rattle.lw_query.specs.declared.view.View.{View}
use Rattle.lw_tree.specs.Parts.{Parts}
use Rattle.lw_rename.specs.Afterwards.{AreApart, later, trees_after}
use Rattle.lw_rename.proofs.Listing.{not_both, one_at, pair_at, pairs_head, pairs_tail, all_at}

pub not_less : (a b : List ℕ) → a ≡ b → slice_cmp nat_cmp a b ≡ Less → ⊥
not_less a b same less = let itself = sym less ∙ ap (slice_cmp nat_cmp a) (sym same) ∙ tied_itself nat_list_cmp_total a in cc

pub addresses_strict : (a b : List ℕ) → slice_cmp nat_cmp a b ≡ Less → slice_cmp nat_cmp b a ≡ Less → ⊥
addresses_strict a b one other = by (sym one ∙ nat_list_cmp_total.antisymm a b ∙ ap ordering_reverse other)
  where
    by : Less ≡ Greater → ⊥
    by same = cc

pub eq_true : (a b : List ℕ) → a ≡ b → bytes_eq a b ≡ true
eq_true a b = (bytes_eq-Decides a b).1

pub eq_false : (a b : List ℕ) → a ≢ b → bytes_eq a b ≡ false
eq_false a b apart = by (bytes_eq a b) refl
  where
    by : (t : Bool) → bytes_eq a b ≡ t → bytes_eq a b ≡ false
    by true same = absurd (apart ((bytes_eq-Decides a b).0 same))
    by false unlike = unlike

-- no document stands at the address
pub data NoneAt (address : List ℕ) : List View → Type 0 where
  none : NoneAt address []
  more : {v : View} {views : List View} → v.uri.now ≢ address → NoneAt address views → NoneAt address (v ∷ views)

-- one does, and no other
pub data OnceAt (address : List ℕ) : List View → ℕ → View → Type 0 where
  here : {v : View} {views : List View} → v.uri.now ≡ address → NoneAt address views → OnceAt address (v ∷ views) 0 v
  behind : {w v : View} {views : List View} {k : ℕ} → w.uri.now ≢ address → OnceAt address views k v → OnceAt address (w ∷ views) (suc k) v

pub none_holds : (address : List ℕ) (views : List View) (k : ℕ) (v : View) → NoneAt address views → slice_get views k ≡ Some v → v.uri.now ≡ address → ⊥
none_holds address _ k v none at same = none-some v at
none_holds address _ zero v (more {v = w} apart rest) at same = apart (ap (λ (x : View). x.uri.now) (same_Some w v at) ∙ same)
none_holds address _ (suc k) v (more apart rest) at same = none_holds address _ k v rest at same

pub once_place : {address : List ℕ} {views : List View} {k : ℕ} {v : View} → OnceAt address views k v → slice_get views k ≡ Some v
once_place (here _ _) = refl
once_place (behind _ rest) = once_place rest

pub once_address : {address : List ℕ} {views : List View} {k : ℕ} {v : View} → OnceAt address views k v → v.uri.now ≡ address
once_address (here same _) = same
once_address (behind _ rest) = once_address rest

-- one or none
pub data IsOnceOrNone (address : List ℕ) (views : List View) : Type 0 where
  nowhere : NoneAt address views → IsOnceOrNone address views
  once : {k : ℕ} {v : View} → OnceAt address views k v → IsOnceOrNone address views

tail_apart : (v : View) (views : List View) → AreApart (v ∷ views) → AreApart views
tail_apart v views apart = record {
  numbers = pairs_tail (λ v w. v.doc.0 ≢ w.doc.0) v views apart.numbers;
  addresses = pairs_tail (λ v w. v.uri.now ≢ w.uri.now) v views apart.addresses;
}

none_by : (address : List ℕ) (views : List View) → ((k : ℕ) (v : View) → slice_get views k ≡ Some v → v.uri.now ≢ address) → NoneAt address views
none_by address [] apart = none
none_by address (v ∷ views) apart = more (apart 0 v refl) (none_by address views (λ k w at. apart (suc k) w at))

pub look : (address : List ℕ) (views : List View) → AreApart views → IsOnceOrNone address views
look address [] apart = nowhere none
look address (v ∷ views) apart = by (bytes_eq v.uri.now address) refl (look address views (tail_apart v views apart))
  where
    step : v.uri.now ≢ address → IsOnceOrNone address views → IsOnceOrNone address (v ∷ views)
    step unlike (nowhere rest) = nowhere (more unlike rest)
    step unlike (once at) = once (behind unlike at)

    by : (t : Bool) → bytes_eq v.uri.now address ≡ t → IsOnceOrNone address views → IsOnceOrNone address (v ∷ views)
    by true same _ =
        let is = (bytes_eq-Decides v.uri.now address).0 same in
        once (here is (none_by address views (λ k w at other.
        all_at (λ w. v.uri.now ≢ w.uri.now) views k w (pairs_head (λ v w. v.uri.now ≢ w.uri.now) v views apart.addresses) at (is ∙ sym other))))
    by false unlike rest = step (λ same. not_both (eq_true v.uri.now address same) unlike) rest

-- two places of one address, and of one number
pub same_place : (views : List View) → AreApart views → (i j : ℕ) (v w : View) → slice_get views i ≡ Some v → slice_get views j ≡ Some w → v.uri.now ≡ w.uri.now → i ≡ j
same_place views apart i j v w at there same = elim (cases_lt i j) [
  | inl before ↦ absurd (pair_at (λ v w. v.uri.now ≢ w.uri.now) views i j v w apart.addresses before at there same)
  | inr up ↦ elim (cases_lt j i) [
    | inl before ↦ absurd (pair_at (λ v w. v.uri.now ≢ w.uri.now) views j i w v apart.addresses before there at (sym same))
    | inr down ↦ omega (arith, up, down)
  ]
]

pub same_number : (views : List View) → AreApart views → (i j : ℕ) (v w : View) → slice_get views i ≡ Some v → slice_get views j ≡ Some w → v.doc.0 ≡ w.doc.0 → i ≡ j
same_number views apart i j v w at there same = elim (cases_lt i j) [
  | inl before ↦ absurd (pair_at (λ v w. v.doc.0 ≢ w.doc.0) views i j v w apart.numbers before at there same)
  | inr up ↦ elim (cases_lt j i) [
    | inl before ↦ absurd (pair_at (λ v w. v.doc.0 ≢ w.doc.0) views j i w v apart.numbers before there at (sym same))
    | inr down ↦ omega (arith, up, down)
  ]
]

pub one_of_address : (views : List View) → AreApart views → (i j : ℕ) (v w : View) → slice_get views i ≡ Some v → slice_get views j ≡ Some w → v.uri.now ≡ w.uri.now → v ≡ w
one_of_address views apart i j v w at there same =
    one_at views j v w (ap (slice_get views) (sym (same_place views apart i j v w at there same)) ∙ at) there

pub one_of_number : (views : List View) → AreApart views → (i j : ℕ) (v w : View) → slice_get views i ≡ Some v → slice_get views j ≡ Some w → v.doc.0 ≡ w.doc.0 → v ≡ w
one_of_number views apart i j v w at there same =
    one_at views j v w (ap (slice_get views) (sym (same_number views apart i j v w at there same)) ∙ at) there

-- the document of a place is the one at its address
once_by : (views : List View) (address : List ℕ) → AreApart views → (k : ℕ) (v : View) → slice_get views k ≡ Some v → v.uri.now ≡ address → IsOnceOrNone address views →
    OnceAt address views k v
once_by views address apart k v at same (nowhere absent) = absurd (none_holds address views k v absent at same)
once_by views address apart k v at same (once {k = j} {v = w} is) =
    let place : j ≡ k = same_place views apart j k w v (once_place is) at (once_address is ∙ sym same) in
    let view : w ≡ v = one_at views k w v (ap (slice_get views) (sym place) ∙ once_place is) at in
    subst (λ n. OnceAt address views n v) place (subst (OnceAt address views j) view is)

pub once_at : (views : List View) → AreApart views → (k : ℕ) (v : View) → slice_get views k ≡ Some v → OnceAt v.uri.now views k v
once_at views apart k v at = once_by views v.uri.now apart k v at refl (look v.uri.now views apart)

-- ---- what is seen at an address

choose : {A : Type 0} (x rest : A) (a b : List ℕ) → a ≡ b → (if bytes_eq a b then x else rest) ≡ x
choose x rest a b same = ap (λ (t : Bool). if t then x else rest) (eq_true a b same)

pass : {A : Type 0} (x rest : A) (a b : List ℕ) → a ≢ b → (if bytes_eq a b then x else rest) ≡ rest
pass x rest a b apart = ap (λ (t : Bool). if t then x else rest) (eq_false a b apart)

module _ (address : List ℕ) where
  pub text_at : (views : List View) (k : ℕ) (v : View) → OnceAt address views k v → texts_seen views address ≡ Some v.text.now
  text_at _ _ v (here {views = views} same _) = choose (Some v.text.now) (texts_seen views address) v.uri.now address same
  text_at _ _ v (behind {w = w} {views = views} {k = k} apart rest) =
      pass (Some w.text.now) (texts_seen views address) w.uri.now address apart ∙ text_at views k v rest

  pub no_text_at : (views : List View) → NoneAt address views → texts_seen views address ≡ None
  no_text_at _ none = refl
  no_text_at _ (more {v = v} {views = views} apart rest) = pass (Some v.text.now) (texts_seen views address) v.uri.now address apart ∙ no_text_at views rest

  pub tree_at : (views : List View) (k : ℕ) (v : View) → OnceAt address views k v → trees_seen views address ≡ tree_seen v
  tree_at _ _ v (here {views = views} same _) = choose (tree_seen v) (trees_seen views address) v.uri.now address same
  tree_at _ _ v (behind {w = w} {views = views} {k = k} apart rest) =
      pass (tree_seen w) (trees_seen views address) w.uri.now address apart ∙ tree_at views k v rest

  pub no_tree_at : (views : List View) → NoneAt address views → trees_seen views address ≡ None
  no_tree_at _ none = refl
  no_tree_at _ (more {v = v} {views = views} apart rest) = pass (tree_seen v) (trees_seen views address) v.uri.now address apart ∙ no_tree_at views rest

  pub later_at : (views : List View) (trees : List (Option Parts)) (k : ℕ) (v : View) (t : Option Parts) → OnceAt address views k v → slice_get trees k ≡ Some t →
      trees_after views trees address ≡ later t (tree_seen v)
  later_at _ [] k v t is at = absurd (none-some t at)
  later_at _ (x ∷ trees) _ v t (here {views = views} same _) at =
      choose (later x (tree_seen v)) (trees_after views trees address) v.uri.now address same ∙ ap (λ (o : Option Parts). later o (tree_seen v)) (same_Some x t at)
  later_at _ (x ∷ trees) _ v t (behind {w = w} {views = views} {k = k} apart rest) at =
      pass (later x (tree_seen w)) (trees_after views trees address) w.uri.now address apart ∙ later_at views trees k v t rest at

  pub no_later_at : (views : List View) (trees : List (Option Parts)) → NoneAt address views → trees_after views trees address ≡ None
  no_later_at _ trees none = refl
  no_later_at _ [] (more apart rest) = refl
  no_later_at _ (x ∷ trees) (more {v = v} {views = views} apart rest) =
      pass (later x (tree_seen v)) (trees_after views trees address) v.uri.now address apart ∙ no_later_at views trees rest
