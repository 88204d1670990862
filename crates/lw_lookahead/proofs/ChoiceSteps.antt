-- Choices one after the other: their entries, or the first that has a conflict.
use Rattle.std.proofs.Common.{◌≡◌, ℕ, zero, suc, ◌+◌, ◌<◌, List, [], ◌∷◌, ◌++◌, Some, HashMap, BuildHasherDefault, FoldHasher, length, take, get_or, slice_get, refl, sym, ap, ◌∙◌, subst, arith}
use Rattle.std.specs.List.{AllZip}
use Rattle.std.proofs.lemmas.List.{take_more}
use Rattle.std.proofs.lemmas.Option.{slice_get_read}
use Rattle.lw_first.specs.declared.heads.head.Head.{Head}
use Rattle.lw_lookahead.specs.declared.points.point.Point.{Point}
use Rattle.lw_lookahead.specs.declared.fault.LookFault.{LookFault}
use Rattle.lw_lookahead.specs.declared.fault.LookFault.TheVariants as fault
use Rattle.lw_lookahead.specs.Seen.{AreEntriesOfChoice}
use Rattle.lw_lookahead.specs.Shared.{CausesNoEntries, CausesNoEntriesAt}

-- what stands at the same place
pub zip_at : {A B : Type 0} (R : A → B → Type 0) (xs : List A) (ys : List B) (n : ℕ) (x : A) → AllZip R xs ys → slice_get xs n ≡ Some x →
    (y : B) × (slice_get ys n ≡ Some y) × R x y
zip_at R [] ys n x zip at = cc
zip_at R (a ∷ xs) [] n x zip at = absurd zip
zip_at R (a ∷ xs) (b ∷ ys) zero x zip at = let same : a ≡ x = cc in (b, refl, subst (λ a. R a b) same zip.0)
zip_at R (a ∷ xs) (b ∷ ys) (suc n) x zip at = zip_at R xs ys n x zip.1 at

at_front_of : {A : Type 0} (xs : List A) (i n : ℕ) → n < i → slice_get (take i xs) n ≡ slice_get xs n
at_front_of [] zero n before = absurd (omega arith)
at_front_of [] (suc i) n before = refl
at_front_of (x ∷ xs) zero n before = absurd (omega arith)
at_front_of (x ∷ xs) (suc i) zero before = refl
at_front_of (x ∷ xs) (suc i) (suc n) before = at_front_of xs i n (omega arith)

abbrev pub Entries : Type 0
Entries = HashMap Head ℕ (BuildHasherDefault FoldHasher)

abbrev pub AreOf : ℕ → Point → Entries → Type 0
AreOf k point entries = AreEntriesOfChoice k point entries.entries

-- a choice has none, behind choices that have entries
pub no_entries : (texts : List (List ℕ)) (k : ℕ) (choices : List Point) (i : ℕ) (all : List Entries) (choice : Point) → i < length choices →
    AllZip (AreOf k) (take i choices) all → choice ≡ get_or choices i choice → (f : LookFault) → CausesNoEntriesAt texts k choice f → CausesNoEntries texts k choices f
no_entries texts k choices i all choice inside zip is (fault.Conflict conflict) conflicts = record {
  number = i;
  point = choice;
  at = slice_get_read choices (length choices) i choice refl inside is;
  clear = λ n other before at. (zip_at (AreOf k) (take i choices) all n other zip (at_front_of choices i n before ∙ at)).2.clear;
  conflicts = conflicts;
}
no_entries texts k choices i all choice inside zip is fault.TooMany conflicts = conflicts
no_entries texts k choices i all choice inside zip is fault.NoMemory conflicts = tt

-- ---- one more

module _ {A B : Type 0} (R : A → B → Type 0) where
  pub zip_push : (xs : List A) (ys : List B) (x : A) (y : B) → AllZip R xs ys → R x y → AllZip R (xs ++ x ∷ []) (ys ++ y ∷ [])
  zip_push [] [] x y zip is = (is, tt)
  zip_push [] (b ∷ ys) x y zip is = absurd zip
  zip_push (a ∷ xs) [] x y zip is = absurd zip
  zip_push (a ∷ xs) (b ∷ ys) x y zip is = (zip.0, zip_push xs ys x y zip.1 is)

  pub zip_more : (xs : List A) (ys : List B) (i : ℕ) (x : A) (y : B) → i < length xs → x ≡ get_or xs i x → AllZip R (take i xs) ys → R x y →
      AllZip R (take (i + 1) xs) (ys ++ y ∷ [])
  zip_more xs ys i x y inside is zip here =
      subst (λ zs. AllZip R zs (ys ++ y ∷ [])) (ap (λ z. take i xs ++ z ∷ []) is ∙ sym (take_more xs i x inside)) (zip_push (take i xs) ys x y zip here)

  pub zip_length : (xs : List A) (ys : List B) → AllZip R xs ys → length xs ≡ length ys
  zip_length [] [] zip = refl
  zip_length [] (b ∷ ys) zip = absurd zip
  zip_length (a ∷ xs) [] zip = absurd zip
  zip_length (a ∷ xs) (b ∷ ys) zip = ap suc (zip_length xs ys zip.1)
