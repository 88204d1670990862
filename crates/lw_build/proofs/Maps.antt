-- What a map holds at a key once something is put or taken away there.
use Rattle.std.proofs.Common.{◌≡◌, ◌≢◌, ℕ, List, true, false, cond, Some, None, Ordering, Less, Equal, Greater, is_eq, refl, ap, ◌∙◌, inl, inr, sym}
use Rattle.std.specs.Cmp.{IsTotalOrder, tied_itself, nat_cmp_total}
use Rattle.std.specs.Cmp.Lexicographic.{slice_cmp, nat_list_cmp_total}
use Rattle.std.specs.Ordering.{nat_cmp, eq_by_cmp}
use Rattle.std.proofs.lemmas.Bool.{cases_eq, false≢true}
use Rattle.lw_machine.proofs.Places.{one_or_two}
use Rattle.std.specs.FinMap.{FinMap, IsAntisymmetric, get, insert, remove, get-insert, get-remove, same_map, slice_cmp-IsAntisymmetric, nat_cmp-IsAntisymmetric}

module _ {K : Type 0} {R : K → K → Ordering} (o : IsTotalOrder R) (only : IsAntisymmetric R) where
  itself : (k : K) → eq_by_cmp R k k ≡ true
  itself k = ap is_eq (tied_itself o k)

  apart : (q k : K) → q ≢ k → eq_by_cmp R q k ≡ false
  apart q k other = by (R q k) refl
    where
      by : (r : Ordering) → R q k ≡ r → is_eq r ≡ false
      by Less is = refl
      by Equal is = absurd (other (only q k is))
      by Greater is = refl

  module _ {X : Type 0} (m : FinMap R X) (k : K) where
    put_here_by : (x : X) → get (insert m k x) k ≡ Some x
    put_here_by x = get-insert o m k x k ∙ ap (λ b. cond b (Some x) (get m k)) (itself k)

    put_elsewhere_by : (x : X) (q : K) → q ≢ k → get (insert m k x) q ≡ get m q
    put_elsewhere_by x q other = get-insert o m k x q ∙ ap (λ b. cond b (Some x) (get m q)) (apart q k other)

    taken_here_by : get (remove m k) k ≡ None
    taken_here_by = get-remove o m k k ∙ ap (λ b. cond b None (get m k)) (itself k)

    taken_elsewhere_by : (q : K) → q ≢ k → get (remove m k) q ≡ get m q
    taken_elsewhere_by q other = get-remove o m k q ∙ ap (λ b. cond b None (get m q)) (apart q k other)

only_address : IsAntisymmetric (slice_cmp nat_cmp)
only_address = slice_cmp-IsAntisymmetric nat_cmp-IsAntisymmetric

-- by addresses
module _ {X : Type 0} (m : FinMap (slice_cmp nat_cmp) X) (k : List ℕ) where
  pub put_here : (x : X) → get (insert m k x) k ≡ Some x
  put_here = put_here_by nat_list_cmp_total only_address m k

  pub put_elsewhere : (x : X) (q : List ℕ) → q ≢ k → get (insert m k x) q ≡ get m q
  put_elsewhere = put_elsewhere_by nat_list_cmp_total only_address m k

  pub taken_here : get (remove m k) k ≡ None
  taken_here = taken_here_by nat_list_cmp_total only_address m k

  pub taken_elsewhere : (q : List ℕ) → q ≢ k → get (remove m k) q ≡ get m q
  taken_elsewhere = taken_elsewhere_by nat_list_cmp_total only_address m k

pub same_at_addresses : {X : Type 0} (m n : FinMap (slice_cmp nat_cmp) X) → ((q : List ℕ) → get m q ≡ get n q) → m ≡ n
same_at_addresses = same_map nat_list_cmp_total only_address

-- by numbers
module _ {X : Type 0} (m : FinMap nat_cmp X) (k : ℕ) where
  pub number_put : (x : X) → get (insert m k x) k ≡ Some x
  number_put = put_here_by nat_cmp_total nat_cmp-IsAntisymmetric m k

  pub number_stays : (x : X) (q : ℕ) → q ≢ k → get (insert m k x) q ≡ get m q
  number_stays = put_elsewhere_by nat_cmp_total nat_cmp-IsAntisymmetric m k

  pub number_gone : get (remove m k) k ≡ None
  number_gone = taken_here_by nat_cmp_total nat_cmp-IsAntisymmetric m k

  pub number_left : (q : ℕ) → q ≢ k → get (remove m k) q ≡ get m q
  number_left = taken_elsewhere_by nat_cmp_total nat_cmp-IsAntisymmetric m k

pub same_at_numbers : {X : Type 0} (m n : FinMap nat_cmp X) → ((q : ℕ) → get m q ≡ get n q) → m ≡ n
same_at_numbers = same_map nat_cmp_total nat_cmp-IsAntisymmetric

pub number_apart : (q k : ℕ) → q ≢ k → eq_by_cmp nat_cmp q k ≡ false
number_apart = apart nat_cmp_total nat_cmp-IsAntisymmetric

-- what is put and taken away again leaves nothing
pub put_back : {X : Type 0} (m : FinMap nat_cmp X) (k : ℕ) (x : X) → get m k ≡ None → remove (insert m k x) k ≡ m
put_back {X} m k x none = same_at_numbers (remove (insert m k x) k) m by
  where
    by : (q : ℕ) → get (remove (insert m k x) k) q ≡ get m q
    by q = elim (cases_eq q k) [
      | inl here ↦ ap (get (remove (insert m k x) k)) here ∙ number_gone (insert m k x) k ∙ sym none ∙ ap (get m) (sym here)
      | inr other ↦ number_left (insert m k x) k q other ∙ number_stays m k x q other
    ]

-- what is put last counts
pub put_twice : {X : Type 0} (m : FinMap (slice_cmp nat_cmp) X) (k : List ℕ) (x y : X) → insert (insert m k x) k y ≡ insert m k y
put_twice {X} m k x y = same_at_addresses (insert (insert m k x) k y) (insert m k y) by
  where
    by : (q : List ℕ) → get (insert (insert m k x) k y) q ≡ get (insert m k y) q
    by q = elim (one_or_two q k) [
      | inl here ↦ ap (get (insert (insert m k x) k y)) here ∙ put_here (insert m k x) k y ∙ sym (ap (get (insert m k y)) here ∙ put_here m k y)
      | inr other ↦ put_elsewhere (insert m k x) k y q other ∙ put_elsewhere m k x q other ∙ sym (put_elsewhere m k y q other)
    ]

-- what a comparison of numbers finds is the number
pub number_tied : (q k : ℕ) → is_eq (nat_cmp q k) ≡ true → q ≡ k
number_tied q k = by (nat_cmp q k) refl
  where
    by : (r : Ordering) → nat_cmp q k ≡ r → is_eq r ≡ true → q ≡ k
    by Less was never = absurd (false≢true never)
    by Equal was tied = nat_cmp-IsAntisymmetric q k was
    by Greater was never = absurd (false≢true never)
