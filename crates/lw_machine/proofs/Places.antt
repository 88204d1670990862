-- What documents hold at an address once one is put or taken away there, and which addresses hold one.
use Rattle.std.proofs.Common.{◌≡◌, ◌≢◌, ℕ, List, [], ◌∷◌, map, true, false, cond, Some, None, Ordering, Less, Equal, Greater, is_eq, nat_cmp, inl, inr, ◌⊎◌, sym, refl, ap, ◌∙◌, subst}
use Rattle.std.specs.Cmp.{tied_itself}
use Rattle.std.specs.Cmp.Lexicographic.{slice_cmp, nat_list_cmp_total}
use Rattle.std.specs.FinMap.{get, insert, remove, keys, entries, find, get-entries, get-insert, get-remove, same_map, slice_cmp-IsAntisymmetric, nat_cmp-IsAntisymmetric}
use Rattle.lw_machine.specs.Documents.{Document, Documents}

-- addresses in their order
abbrev pub order : List ℕ → List ℕ → Ordering
order = slice_cmp nat_cmp

pub tied : (a b : List ℕ) → order a b ≡ Equal → a ≡ b
tied = slice_cmp-IsAntisymmetric nat_cmp-IsAntisymmetric

-- two addresses are one or they are not
pub one_or_two : (a b : List ℕ) → (a ≡ b) ⊎ (a ≢ b)
one_or_two a b = by (order a b) refl
  where
    by : (r : Ordering) → order a b ≡ r → (a ≡ b) ⊎ (a ≢ b)
    by Less is = inr (λ same. let e = sym is ∙ ap (order a) (sym same) ∙ tied_itself nat_list_cmp_total a in cc)
    by Equal is = inl (tied a b is)
    by Greater is = inr (λ same. let e = sym is ∙ ap (order a) (sym same) ∙ tied_itself nat_list_cmp_total a in cc)

pub test_same : (a : List ℕ) → is_eq (order a a) ≡ true
test_same a = ap is_eq (tied_itself nat_list_cmp_total a)

pub test_other : (a b : List ℕ) → a ≢ b → is_eq (order a b) ≡ false
test_other a b other = by (order a b) refl
  where
    by : (r : Ordering) → order a b ≡ r → is_eq r ≡ false
    by Less is = refl
    by Equal is = absurd (other (tied a b is))
    by Greater is = refl

module _ (m : Documents) (address : List ℕ) where
  pub put_here : (d : Document) → get (insert m address d) address ≡ Some d
  put_here d = get-insert nat_list_cmp_total m address d address ∙ ap (λ b. cond b (Some d) (get m address)) (test_same address)

  pub put_elsewhere : (d : Document) (other : List ℕ) → other ≢ address → get (insert m address d) other ≡ get m other
  put_elsewhere d other apart = get-insert nat_list_cmp_total m address d other ∙ ap (λ b. cond b (Some d) (get m other)) (test_other other address apart)

  pub taken_here : get (remove m address) address ≡ None
  taken_here = get-remove nat_list_cmp_total m address address ∙ ap (λ b. cond b None (get m address)) (test_same address)

  pub taken_elsewhere : (other : List ℕ) → other ≢ address → get (remove m address) other ≡ get m other
  taken_elsewhere other apart = get-remove nat_list_cmp_total m address other ∙ ap (λ b. cond b None (get m other)) (test_other other address apart)

-- documents that hold the same everywhere are the same
pub same_documents : (m n : Documents) → ((address : List ℕ) → get m address ≡ get n address) → m ≡ n
same_documents = same_map nat_list_cmp_total (slice_cmp-IsAntisymmetric nat_cmp-IsAntisymmetric)

-- one of a list
pub data Among {A : Type 0} (x : A) : List A → Type 0 where
  first : {xs : List A} → Among x (x ∷ xs)
  later : {y : A} {xs : List A} → Among x xs → Among x (y ∷ xs)

found_among : (es : List (List ℕ × Document)) (address : List ℕ) (d : Document) → find order address es ≡ Some d → Among address (map (λ e. e.0) es)
found_among [] address d is = absurd (let e = is in cc)
found_among (e ∷ es) address d is = by (order address e.0) refl is (found_among es address d)
  where
    by : (r : Ordering) → order address e.0 ≡ r → cond (is_eq r) (Some e.1) (find order address es) ≡ Some d →
        (find order address es ≡ Some d → Among address (map (λ e. e.0) es)) → Among address (e.0 ∷ map (λ e. e.0) es)
    by Less was found rest = later (rest found)
    by Equal was found rest = subst (λ a. Among address (a ∷ map (λ e. e.0) es)) (tied address e.0 was) first
    by Greater was found rest = later (rest found)

-- what is held is held at one of the addresses
pub held_among : (m : Documents) (address : List ℕ) (d : Document) → get m address ≡ Some d → Among address (keys m)
held_among m address d is = found_among (entries m) address d (sym (get-entries m address) ∙ is)
