-- What is found in a list that is lent, all that was found, and which name is put into a set.
use Rattle.std.proofs.Common.{◌≡◌, ℕ, ◌+◌, ◌<◌, List, [], ◌∷◌, ◌++◌, ◌⊎◌, ◌↔◌, inl, inr, Bool, true, false, Contains, length, get_or, take, bytes_eq, if◌then◌else◌, refl, sym, subst, arith}
use Rattle.std.specs.List.{list_any}
use Rattle.std.proofs.lemmas.Slice.Eq.{bytes_eq-Decides}
use Rattle.std.proofs.lemmas.Map.Views.{Contains-from_any}
use Rattle.indexmap.specs.IndexSet.{insert_key}
use Rattle.lw_faults.specs.Finding.{Finds, OfSome, OneIf}
use Rattle.lw_faults.proofs.Joining.{Finds-one, Finds-more}

-- ---- a turn over one more item of a list that is lent

pub Finds-next : {X Y : Type 0} (has : X → Y → Type 0) {a b c : List Y} (xs ys : List X) (i : ℕ) (x : X) → xs ≡ ys → i < length xs → x ≡ get_or xs i x →
    Finds (OfSome has (take i ys)) a b → Finds (has x) b c → Finds (OfSome has (take (i + 1) ys)) a c
Finds-next {X} has {a} {b} {c} xs ys i x same inside is before now =
    let P : List X → Type 0 = λ l. Finds (OfSome has (take i l)) a b → Finds (OfSome has (take (i + 1) l)) a c in
    subst P same (λ first. Finds-more has xs i x inside is first now) before

-- ---- all that was found, where nothing was before

pub has_found : {Y : Type 0} {P : Y → Type 0} {b : List Y} → Finds P [] b → (y : Y) → Contains b y ↔ P y
has_found {Y} {P} finds y = (λ has. of ((finds.exact y).0 has), λ so. (finds.exact y).1 (inr so))
  where
    of : Contains [] y ⊎ P y → P y
    of (inl (k, inside, is)) = absurd (omega (arith, inside))
    of (inr so) = so

pub OneIf-iff : {Y P Q : Type 0} (one : Y) → (P ↔ Q) → (y : Y) → OneIf P one y ↔ OneIf Q one y
OneIf-iff one same y = (λ is. (same.0 is.0, is.1), λ is. (same.1 is.0, is.1))

-- ---- a set of names

pub Finds-name : (names : List (List ℕ)) (name : List ℕ) → Finds (λ n. n ≡ name) names (insert_key bytes_eq names name)
Finds-name names name = by (list_any (bytes_eq name) names) refl
  where
    there : list_any (bytes_eq name) names ≡ true → Contains names name
    there = Contains-from_any (λ x y. (bytes_eq-Decides x y).0) name names

    either : list_any (bytes_eq name) names ≡ true → (n : List ℕ) → Contains names n ⊎ (n ≡ name) → Contains names n
    either was n (inl has) = has
    either was n (inr is) = let P : List ℕ → Type 0 = Contains names in subst P (sym is) (there was)

    by : (b : Bool) → list_any (bytes_eq name) names ≡ b → Finds (λ n. n ≡ name) names (insert_key bytes_eq names name)
    by true was =
        let P : Bool → Type 0 = λ c. Finds (λ n. n ≡ name) names (if c then names else names ++ name ∷ []) in
        subst P (sym was) (record { exact = λ n. (λ has. inl has, either was n) })
    by false was =
        let P : Bool → Type 0 = λ c. Finds (λ n. n ≡ name) names (if c then names else names ++ name ∷ []) in
        subst P (sym was) (Finds-one names name)

pub Finds-put : {names new : List (List ℕ)} (name : List ℕ) → new ≡ insert_key bytes_eq names name → Finds (λ n. n ≡ name) names new
Finds-put {names} {new} name is = let P : List (List ℕ) → Type 0 = Finds (λ n. n ≡ name) names in subst P (sym is) (Finds-name names name)
