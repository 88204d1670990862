-- The order of texts, and which of two comes first.
use Rattle.std.proofs.Common.{◌≡◌, ◌≢◌, ℕ, List, Ordering, Less, Equal, Greater, nat_cmp, inl, inr, ◌⊎◌, sym, refl, ap, ◌∙◌, arith}
use Rattle.std.specs.Ordering.{ordering_reverse}
use Rattle.std.specs.Cmp.{alike_right, tied_itself}
use Rattle.std.specs.Cmp.Lexicographic.{slice_cmp, nat_list_cmp_total}
use Rattle.std.specs.FinMap.{slice_cmp-IsAntisymmetric, nat_cmp-IsAntisymmetric}
use Rattle.std.proofs.lemmas.Bool.{cases_order}
use Rattle.lw_machine.proofs.Finite.{Decided}

abbrev pub order : List ℕ → List ℕ → Ordering
order = slice_cmp nat_cmp

pub tied : (a b : List ℕ) → order a b ≡ Equal → a ≡ b
tied = slice_cmp-IsAntisymmetric nat_cmp-IsAntisymmetric

pub itself : (a : List ℕ) → order a a ≡ Equal
itself a = tied_itself nat_list_cmp_total a

-- the one comes before the other, is the other, or comes after it
pub data Compared (a b : List ℕ) : Type 0 where
  before : order a b ≡ Less → Compared a b
  same : a ≡ b → Compared a b
  after : order b a ≡ Less → Compared a b

pub compared : (a b : List ℕ) → Compared a b
compared a b = by (order a b) refl
  where
    by : (r : Ordering) → order a b ≡ r → Compared a b
    by Less is = before is
    by Equal is = same (tied a b is)
    by Greater is = after (nat_list_cmp_total.antisymm b a ∙ ap ordering_reverse is)

pub further : (a b c : List ℕ) → order a b ≡ Less → order b c ≡ Less → order a c ≡ Less
further a b c = nat_list_cmp_total.trans a b c

pub same_text : (a b : List ℕ) → Decided (a ≡ b)
same_text a b = by (compared a b)
  where
    by : Compared a b → Decided (a ≡ b)
    by (before is) = inr (λ one. let e = sym is ∙ ap (order a) (sym one) ∙ itself a in cc)
    by (same is) = inl is
    by (after is) = inr (λ one. let e = sym is ∙ ap (order b) one ∙ itself b in cc)

pub same_number : (a b : ℕ) → Decided (a ≡ b)
same_number a b = elim (cases_order a b) [
  | inl one ↦ inl one
  | inr (inl less) ↦ inr (λ one. omega (arith, less, one))
  | inr (inr more) ↦ inr (λ one. omega (arith, more, one))
]

-- none is above itself, and of two the one is not above the other
abbrev pub NoLater : List ℕ → List ℕ → Type 0
NoLater a b = order a b ≢ Greater

pub no_later_itself : (a : List ℕ) → NoLater a a
no_later_itself a above = let e = sym above ∙ itself a in cc

pub no_later_further : (a b c : List ℕ) → NoLater a b → NoLater b c → NoLater a c
no_later_further a b c p q = by (order a b) (order b c) refl refl
  where
    by : (r s : Ordering) → order a b ≡ r → order b c ≡ s → NoLater a c
    by Less Less is was above = let e = sym (nat_list_cmp_total.trans a b c is was) ∙ above in cc
    by Less Equal is was above = let e = sym is ∙ alike_right nat_list_cmp_total b c a was ∙ above in cc
    by Equal s is was above = q (sym (nat_list_cmp_total.congr a b c is) ∙ above)
    by Greater s is was above = p is
    by r Greater is was above = q was

pub one_no_later : (a b : List ℕ) → NoLater a b ⊎ NoLater b a
one_no_later a b = by (order a b) refl
  where
    by : (r : Ordering) → order a b ≡ r → NoLater a b ⊎ NoLater b a
    by Less is = inl (λ above. let e = sym is ∙ above in cc)
    by Equal is = inl (λ above. let e = sym is ∙ above in cc)
    by Greater is = inr (λ above. let e = sym above ∙ nat_list_cmp_total.antisymm b a ∙ ap ordering_reverse is in cc)
