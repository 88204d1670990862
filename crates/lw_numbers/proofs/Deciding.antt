-- Whether a name means an item, and which, is decided by looking through two lists.
use Rattle.std.proofs.Common.{◌≡◌, ℕ, zero, suc, List, [], ◌∷◌, Some, Bool, true, false, slice_get, Contains, ◌⊎◌, inl, inr, bytes_eq, refl, sym, ◌∙◌, subst, arith, true≢false}
use Rattle.std.proofs.lemmas.Bool.{cases_order, cases_Bool}
use Rattle.std.proofs.lemmas.Option.{none-some, same_Some}
use Rattle.std.proofs.lemmas.Slice.Eq.{bytes_eq-Decides}
use Rattle.lw_grammar.specs.declared.grammar.Grammar.{Grammar}
use Rattle.lw_grammar.specs.declared.rule.Rule.{Rule}
use Rattle.lw_grammar.specs.Leaves.{Leaf, Keyword, Call, Assign, Act, IsFragmentCall}
use Rattle.lw_grammar.specs.Named.{IsFirst, IsMeant, IsRule, Declaration, StandsBefore, declared_rule, declared_terminal}
use Rattle.lw_grammar.proofs.FirstLemmas.{first_item}
use Rattle.lw_grammar.proofs.Every.{Every, every_of, first_here, first_later}

pub cases_text : (a b : List ℕ) → (a ≡ b) ⊎ (¬ (a ≡ b))
cases_text a b = elim (cases_Bool (bytes_eq a b)) [
  | inl same ↦ inl ((bytes_eq-Decides a b).0 same)
  | inr apart ↦ inr (λ same. true≢false (sym ((bytes_eq-Decides a b).1 same) ∙ apart))
]

-- what a test of two texts says of the one, which is this name
module _ (a b name : List ℕ) {told : Bool} (test : told ≡ bytes_eq a b) (is : a ≡ name) where
  pub told_same : told ≡ true → name ≡ b
  told_same passes = sym is ∙ (bytes_eq-Decides a b).0 (sym test ∙ passes)

  pub told_apart : told ≡ false → ¬ (name ≡ b)
  told_apart fails same = true≢false (sym ((bytes_eq-Decides a b).1 (is ∙ same)) ∙ sym test ∙ fails)

cases_before : (a b : Declaration) → StandsBefore a b ⊎ (¬ StandsBefore a b)
cases_before a b = elim (cases_order a.file b.file) [
  | inl same ↦ elim (cases_order a.span.start b.span.start) [
    | inl here ↦ inr (λ before. elim before [ inl lt ↦ omega arith | inr lt ↦ omega (arith, lt.1) ])
    | inr (inl sooner) ↦ inl (inr (same, sooner))
    | inr (inr later) ↦ inr (λ before. elim before [ inl lt ↦ omega arith | inr lt ↦ omega (arith, lt.1) ])
  ]
  | inr (inl sooner) ↦ inl (inl sooner)
  | inr (inr later) ↦ inr (λ before. elim before [ inl lt ↦ omega arith | inr lt ↦ omega (arith, lt.0) ])
]

module _ {X : Type 0} (passes : X → Type 0) (decide : (x : X) → passes x ⊎ (¬ passes x)) where
  abbrev First : List X → Type 0
  First xs = ((i : ℕ) × (x : X) × IsFirst passes xs i x) ⊎ ((i : ℕ) (x : X) → slice_get xs i ≡ Some x → ¬ passes x)

  -- the first that passes, unless none does
  cases_first : (xs : List X) → First xs
  cases_first [] = inr (λ i x is. absurd (none-some x is))
  cases_first (y ∷ xs) = by (decide y) (cases_first xs)
    where
      none : ¬ passes y → ((i : ℕ) (x : X) → slice_get xs i ≡ Some x → ¬ passes x) → (i : ℕ) (x : X) → slice_get (y ∷ xs) i ≡ Some x → ¬ passes x
      none not others zero x is does = not (subst passes (sym (same_Some y x is)) does)
      none not others (suc i) x is does = others i x is does

      by : passes y ⊎ (¬ passes y) → First xs → First (y ∷ xs)
      by (inl does) rest = inl (0, y, first_here does)
      by (inr not) (inl found) = inl (suc found.0, found.1, first_later not found.2)
      by (inr not) (inr others) = inr (none not others)

  -- all of them pass, unless one does not
  cases_every : (xs : List X) → Every passes xs ⊎ ((x : X) × Contains xs x × (¬ passes x))
  cases_every [] = inl tt
  cases_every (y ∷ xs) = by (decide y) (cases_every xs)
    where
      by : passes y ⊎ (¬ passes y) → Every passes xs ⊎ ((x : X) × Contains xs x × (¬ passes x)) →
          Every passes (y ∷ xs) ⊎ ((x : X) × Contains (y ∷ xs) x × (¬ passes x))
      by (inl does) (inl all) = inl (does, all)
      by (inl does) (inr (x, (k, inside, is), not)) = inr (x, (suc k, omega arith, is), not)
      by (inr not) rest = inr (y, (0, omega arith, refl), not)

module _ {X Y : Type 0} (declared_by : X → Declaration) (other_by : Y → Declaration) (name : List ℕ) (xs : List X) (others : List Y) where
  abbrev Sooner : X → Y → Type 0
  Sooner x other = (other_by other).name ≡ name → StandsBefore (declared_by x) (other_by other)

  cases_sooner : (x : X) (other : Y) → Sooner x other ⊎ (¬ Sooner x other)
  cases_sooner x other = elim (cases_text (other_by other).name name) [
    | inl same ↦ elim (cases_before (declared_by x) (other_by other)) [
      | inl before ↦ inl (λ is. before)
      | inr not ↦ inr (λ sooner. not (sooner same))
    ]
    | inr differs ↦ inl (λ same. absurd (differs same))
  ]

  pub cases_meant : ((i : ℕ) × (x : X) × IsMeant declared_by other_by name xs others i x) ⊎ ((i : ℕ) (x : X) → ¬ IsMeant declared_by other_by name xs others i x)
  cases_meant = elim (cases_first (λ x. (declared_by x).name ≡ name) (λ x. cases_text (declared_by x).name name) xs) [
    | inl (i, x, first) ↦ elim (cases_every (Sooner x) (cases_sooner x) others) [
      | inl all ↦ inl (i, x, record { first = first; sooner = λ other has. every_of (Sooner x) others other all has })
      | inr (other, has, not) ↦ inr (λ j y is. not (λ same. subst (λ z. StandsBefore (declared_by z) (other_by other)) (first_item is.first first) (is.sooner other has same)))
    ]
    | inr none ↦ inr (λ i x is. none i x is.first.there is.first.does)
  ]

module _ (g : Grammar) where
  pub cases_rule : (name : List ℕ) → ((r : ℕ) × (rule : Rule) × IsRule g name r rule) ⊎ ((r : ℕ) (rule : Rule) → ¬ IsRule g name r rule)
  cases_rule name = cases_meant declared_rule declared_terminal name g.rules g.terminals

  -- a leaf calls a fragment or none
  abbrev pub CallsFragment : Leaf → Type 0
  CallsFragment leaf = ((f : ℕ) × (fragment : Rule) × IsFragmentCall g leaf f fragment) ⊎ ((f : ℕ) (fragment : Rule) → ¬ IsFragmentCall g leaf f fragment)

  pub cases_fragment : (leaf : Leaf) → CallsFragment leaf
  cases_fragment (Keyword text s) = inr (λ f fragment is. is)
  cases_fragment (Call name s) = elim (cases_rule name) [
    | inl (r, rule, is) ↦ elim (cases_Bool rule.is_fragment) [
      | inl whole ↦ inl (r, rule, (is, whole))
      | inr not ↦ inr (λ q other was. true≢false (sym was.1 ∙ subst (λ (x : Rule). x.is_fragment ≡ false) (first_item is.first was.0.first) not))
    ]
    | inr none ↦ inr (λ q other was. none q other was.0)
  ]
  cases_fragment (Assign p op v s) = inr (λ f fragment is. is)
  cases_fragment (Act a) = inr (λ f fragment is. is)
