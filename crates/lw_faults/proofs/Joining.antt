-- What is found in parts: nothing, one, one part after the other, item by item; and as a fault of a number.
use Rattle.std.proofs.Common.{◌≡◌, ℕ, zero, suc, ◌+◌, ◌<◌, ◌≤◌, List, [], ◌∷◌, ◌++◌, ◌⊎◌, ◌↔◌, inl, inr, Some, Contains, slice_get, get_or, length, map, take, refl, sym, ap, ◌∙◌, subst, arith}
use Rattle.std.proofs.lemmas.List.{map-append, take_all, take_more}
use Rattle.std.proofs.lemmas.List.Elements.{Contains-append_left, Contains-push, Contains-push_cases}
use Rattle.std.proofs.lemmas.Bool.{cases_lt}
use Rattle.std.proofs.lemmas.Option.{same_Some, slice_get_within}
use Rattle.lw_base.specs.declared.token.Span.{Span}
use Rattle.lw_grammar.specs.declared.fault.GrammarFault.{GrammarFault}
use Rattle.lw_faults.specs.Faults.{fault}
use Rattle.lw_faults.specs.Finding.{Finds, IsFaultOf, OfSome, AtSome, AtSomeBelow, OneIf}

-- ---- parts

module _ {Y : Type 0} where
  pub Finds-nothing : {P : Y → Type 0} {a : List Y} → ((f : Y) → ¬ P f) → Finds P a a
  Finds-nothing {P} {a} none = record { exact = λ f. (λ has. inl has, λ either. of f either) }
    where
      of : (f : Y) → Contains a f ⊎ P f → Contains a f
      of f (inl has) = has
      of f (inr is) = absurd (none f is)

  pub Finds-one : (a : List Y) (one : Y) → Finds (λ f. f ≡ one) a (a ++ one ∷ [])
  Finds-one a one = record { exact = λ f. (λ has. cases f (Contains-push_cases a one f has), λ either. of f either) }
    where
      cases : (f : Y) → Contains a f ⊎ (one ≡ f) → Contains a f ⊎ (f ≡ one)
      cases f (inl has) = inl has
      cases f (inr is) = inr (sym is)

      of : (f : Y) → Contains a f ⊎ (f ≡ one) → Contains (a ++ one ∷ []) f
      of f (inl has) = Contains-append_left a (one ∷ []) f has
      of f (inr is) = let P : Y → Type 0 = Contains (a ++ one ∷ []) in subst P (sym is) (Contains-push a one)

  pub Finds-then : {P Q : Y → Type 0} {a b c : List Y} → Finds P a b → Finds Q b c → Finds (λ f. P f ⊎ Q f) a c
  Finds-then {P} {Q} {a} {b} {c} one other = record { exact = λ f. (λ has. before f ((other.exact f).0 has), λ either. after f either) }
    where
      first : (f : Y) → Contains a f ⊎ P f → Contains a f ⊎ (P f ⊎ Q f)
      first f (inl has) = inl has
      first f (inr is) = inr (inl is)

      before : (f : Y) → Contains b f ⊎ Q f → Contains a f ⊎ (P f ⊎ Q f)
      before f (inl has) = first f ((one.exact f).0 has)
      before f (inr is) = inr (inr is)

      after : (f : Y) → Contains a f ⊎ (P f ⊎ Q f) → Contains c f
      after f (inl has) = (other.exact f).1 (inl ((one.exact f).1 (inl has)))
      after f (inr (inl is)) = (other.exact f).1 (inl ((one.exact f).1 (inr is)))
      after f (inr (inr is)) = (other.exact f).1 (inr is)

  pub Finds-iff : {P Q : Y → Type 0} {a b : List Y} → ((f : Y) → P f ↔ Q f) → Finds P a b → Finds Q a b
  Finds-iff {P} {Q} {a} {b} same finds = record { exact = λ f. (λ has. into f ((finds.exact f).0 has), λ either. from f either) }
    where
      into : (f : Y) → Contains a f ⊎ P f → Contains a f ⊎ Q f
      into f (inl has) = inl has
      into f (inr is) = inr ((same f).0 is)

      from : (f : Y) → Contains a f ⊎ Q f → Contains b f
      from f (inl has) = (finds.exact f).1 (inl has)
      from f (inr is) = (finds.exact f).1 (inr ((same f).1 is))

-- ---- one, where something holds

module _ {Y : Type 0} (holds : Type 0) (one : Y) where
  pub Finds-unless : {a : List Y} → ¬ holds → Finds (OneIf holds one) a a
  Finds-unless not = Finds-nothing (λ y is. not is.0)

  pub Finds-where : {a b : List Y} → holds → Finds (λ y. y ≡ one) a b → Finds (OneIf holds one) a b
  Finds-where so finds = Finds-iff (λ y. (λ is. (so, is), λ is. is.1)) finds

-- ---- item by item

module _ {X Y : Type 0} (has : X → Y → Type 0) where
  of_none : (f : Y) → ¬ OfSome has [] f
  of_none f (x, (k, inside, is), so) = absurd (omega arith)

  of_more : (xs : List X) (x : X) (f : Y) → OfSome has xs f ⊎ has x f → OfSome has (xs ++ x ∷ []) f
  of_more xs x f (inl (y, inside, so)) = (y, Contains-append_left xs (x ∷ []) y inside, so)
  of_more xs x f (inr so) = (x, Contains-push xs x, so)

  of_less : (xs : List X) (x : X) (f : Y) → OfSome has (xs ++ x ∷ []) f → OfSome has xs f ⊎ has x f
  of_less xs x f (y, inside, so) = by (Contains-push_cases xs x y inside)
    where
      by : Contains xs y ⊎ (x ≡ y) → OfSome has xs f ⊎ has x f
      by (inl before) = inl (y, before, so)
      by (inr is) = let P : X → Type 0 = λ z. has z f in inr (subst P (sym is) so)

  -- before the first item
  pub Finds-begin : (a : List Y) (xs : List X) → Finds (OfSome has (take 0 xs)) a a
  Finds-begin a xs = Finds-nothing of_none

  -- a turn over one more item
  pub Finds-push : {a b c : List Y} (xs : List X) (x : X) → Finds (OfSome has xs) a b → Finds (has x) b c → Finds (OfSome has (xs ++ x ∷ [])) a c
  Finds-push xs x before now = Finds-iff (λ f. (of_more xs x f, of_less xs x f)) (Finds-then before now)

  -- the same where the item stands at a place of a list
  pub Finds-more : {a b c : List Y} (xs : List X) (i : ℕ) (x : X) → i < length xs → x ≡ get_or xs i x → Finds (OfSome has (take i xs)) a b → Finds (has x) b c →
      Finds (OfSome has (take (i + 1) xs)) a c
  Finds-more {a} {b} {c} xs i x inside is before now =
      let P : List X → Type 0 = λ ys. Finds (OfSome has ys) a c in
      let Q : X → Type 0 = λ y. Finds (OfSome has (take i xs ++ y ∷ [])) a c in
      subst P (sym (take_more xs i x inside)) (subst Q is (Finds-push (take i xs) x before now))

  -- after the last
  pub Finds-all : {a b : List Y} (xs : List X) (n : ℕ) → length xs ≤ n → Finds (OfSome has (take n xs)) a b → Finds (OfSome has xs) a b
  Finds-all {a} {b} xs n past finds = let P : List X → Type 0 = λ ys. Finds (OfSome has ys) a b in subst P (take_all n xs past) finds

-- ---- item by item, by their places

module _ {X Y : Type 0} (has : ℕ → X → Y → Type 0) (xs : List X) where
  at_more : (n : ℕ) (x : X) → slice_get xs n ≡ Some x → (y : Y) → AtSomeBelow has n xs y ⊎ has n x y → AtSomeBelow has (n + 1) xs y
  at_more n x there y (inl (i, z, below, at, so)) = (i, z, omega (arith, below), at, so)
  at_more n x there y (inr so) = (n, x, omega arith, there, so)

  at_less : (n : ℕ) (x : X) → slice_get xs n ≡ Some x → (y : Y) → AtSomeBelow has (n + 1) xs y → AtSomeBelow has n xs y ⊎ has n x y
  at_less n x there y (i, z, below, at, so) = elim (cases_lt i n) [
    | inl lt ↦ inl (i, z, lt, at, so)
    | inr ge ↦
        let place : i ≡ n = omega (arith, below, ge) in
        let same : z ≡ x = same_Some z x (sym at ∙ ap (slice_get xs) place ∙ there) in
        let P : ℕ → Type 0 = λ k. has k z y in
        let Q : X → Type 0 = λ w. has n w y in
        inr (subst Q same (subst P place so))
  ]

  -- a turn over one more item
  pub Finds-at-more : {a b c : List Y} (n : ℕ) (x : X) → slice_get xs n ≡ Some x → Finds (AtSomeBelow has n xs) a b → Finds (has n x) b c →
      Finds (AtSomeBelow has (n + 1) xs) a c
  Finds-at-more n x there before now = Finds-iff (λ y. (at_more n x there y, at_less n x there y)) (Finds-then before now)

  -- after the last
  pub Finds-at-all : {a b : List Y} (n : ℕ) → length xs ≤ n → Finds (AtSomeBelow has n xs) a b → Finds (AtSome has xs) a b
  Finds-at-all n past finds =
      Finds-iff (λ y. (λ (i, x, below, at, so). (i, x, at, so), λ (i, x, at, so). let inside = slice_get_within xs i x at in (i, x, omega (arith, past, inside), at, so))) finds

-- ---- items by what they are read as

at_front : {X : Type 0} (x : X) (xs : List X) (y : X) → Contains xs y → Contains (x ∷ xs) y
at_front x xs y (k, inside, is) = (suc k, omega (arith, inside), is)

module _ {X Z Y : Type 0} (read : X → Z) (has : Z → Y → Type 0) where
  pub from_map : (xs : List X) (y : Y) → OfSome has (map read xs) y → OfSome (λ x. has (read x)) xs y
  from_map [] y (z, (k, inside, is), so) = absurd (omega (arith, inside))
  from_map (x ∷ xs) y (z, (zero, inside, is), so) = (x, (0, omega arith, refl), let P : Z → Type 0 = λ z. has z y in subst P (sym is) so)
  from_map (x ∷ xs) y (z, (suc k, inside, is), so) =
      let later = from_map xs y (z, (k, omega (arith, inside), is), so) in (later.0, at_front x xs later.0 later.1, later.2)

  pub to_map : (xs : List X) (y : Y) → OfSome (λ x. has (read x)) xs y → OfSome has (map read xs) y
  to_map [] y (x, (k, inside, is), so) = absurd (omega (arith, inside))
  to_map (x ∷ xs) y (z, (zero, inside, is), so) = (read x, (0, omega arith, refl), let P : X → Type 0 = λ z. has (read z) y in subst P (sym is) so)
  to_map (x ∷ xs) y (z, (suc k, inside, is), so) =
      let later = to_map xs y (z, (k, omega (arith, inside), is), so) in (later.0, at_front (read x) (map read xs) later.0 later.1, later.2)

  -- all of a list that is read so
  pub Finds-read : {a b : List Y} (xs : List X) (zs : List Z) → map read xs ≡ zs → Finds (OfSome (λ x. has (read x)) xs) a b → Finds (OfSome has zs) a b
  Finds-read {a} {b} xs zs is finds =
      let P : List Z → Type 0 = λ list. Finds (OfSome has list) a b in subst P is (Finds-iff (λ y. (to_map xs y, from_map xs y)) finds)

  -- the same where those that are read were gathered
  pub Finds-gathered : {P : Z → Type 0} {a b : List Y} (xs : List X) (n : ℕ) → length xs ≤ n → Finds P [] (map read xs) →
      Finds (OfSome (λ x. has (read x)) (take n xs)) a b → Finds (λ y. (z : Z) × P z × has z y) a b
  Finds-gathered {P} xs n past gathered finds =
      Finds-iff (λ y. (λ (z, inside, so). (z, of_those z ((gathered.exact z).0 inside), so), λ (z, is, so). (z, (gathered.exact z).1 (inr is), so)))
      (Finds-read xs (map read xs) refl (Finds-all (λ x. has (read x)) xs n past finds))
    where
      of_those : (z : Z) → Contains [] z ⊎ P z → P z
      of_those z (inl (k, inside, is)) = absurd (omega (arith, inside))
      of_those z (inr is) = is

-- one more is pushed
pub Finds-pushed : {X Y : Type 0} (read : X → Y) (xs ys : List X) (x : X) → ys ≡ xs ++ x ∷ [] → Finds (λ y. y ≡ read x) (map read xs) (map read ys)
Finds-pushed {X} {Y} read xs ys x is =
    let P : List Y → Type 0 = λ new. Finds (λ y. y ≡ read x) (map read xs) new in
    subst P (sym (ap (map read) is ∙ map-append read xs (x ∷ []))) (Finds-one (map read xs) (read x))

-- ---- faults of a number

module _ {number : ℕ} (told : ℕ → Span → List ℕ → Type 0) where
  pub told_fault_of : {f : GrammarFault} (file : ℕ) (s : Span) (name : List ℕ) → f ≡ fault number file s name → told file s name → IsFaultOf number told f
  told_fault_of file s name is so = subst (IsFaultOf number told) (sym is) (refl, so)

  pub Finds-told : {P : GrammarFault → Type 0} {a b : List GrammarFault} → ((f : GrammarFault) → P f → IsFaultOf number told f) →
      ((file : ℕ) (s : Span) (name : List ℕ) → told file s name → P (fault number file s name)) → Finds P a b → Finds (IsFaultOf number told) a b
  Finds-told {P} into from finds = Finds-iff (λ f. (into f, λ is. back f is)) finds
    where
      back : (f : GrammarFault) → IsFaultOf number told f → P f
      back f is = let Q : ℕ → Type 0 = λ n. P (fault n f.file f.span f.name) in subst Q (sym is.0) (from f.file f.span f.name is.1)
