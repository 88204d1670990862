-- What is found item by item, and one fault where a test is true.
use Rattle.std.proofs.Common.{◌≡◌, ℕ, ◌+◌, ◌<◌, List, [], ◌∷◌, ◌++◌, Bool, true, false, if◌then◌else◌, bytes_eq, Contains, ◌⊎◌, inl, inr, refl, length, get_or, take, map, Result, Ok, Err, OnOk, ◌↔◌, sym, ap, ◌∙◌, subst}
use Rattle.std.specs.List.{list_any}
use Rattle.std.specs.Cmp.Lexicographic.{nat_list_eq_equiv}
use Rattle.std.proofs.lemmas.List.{map-append, take_more}
use Rattle.std.proofs.lemmas.Map.Views.{list_any-from_Contains, Contains-from_any}
use Rattle.std.proofs.lemmas.Option.{same_Some, slice_get-get_or}
use Rattle.indexmap.specs.IndexSet.{insert_key}
use Rattle.lw_grammar.proofs.FirstUses.{same_text}
use Rattle.lw_base.specs.declared.memory.NoMemory.{NoMemory}
use Rattle.lw_base.specs.declared.token.Span.{Span}
use Rattle.lw_faults.specs.Faults.{fault}
use Rattle.lw_grammar.specs.declared.fault.GrammarFault.{GrammarFault}
use Rattle.lw_faults.specs.Finding.{Finds, OfSome, OneIf, IsFaultOf}
use Rattle.lw_faults.proofs.Joining.{Finds-iff, Finds-one, Finds-push, Finds-told}

pub read_more : {X Z : Type 0} (read : X → Z) (xs : List X) (i : ℕ) (x : X) → i < length xs → x ≡ get_or xs i x →
    map read (take (i + 1) xs) ≡ map read (take i xs) ++ read x ∷ []
read_more read xs i x inside is = ap (map read) (take_more xs i x inside ∙ ap (λ y. take i xs ++ y ∷ []) (sym is)) ∙ map-append read (take i xs) (x ∷ [])

-- at one more
pub found_more : {X Z Y : Type 0} {a b c : List Y} (read : X → Z) (At : Z → Y → Type 0) (xs : List X) (i : ℕ) (x : X) → i < length xs → x ≡ get_or xs i x →
    Finds (OfSome At (map read (take i xs))) a b → Finds (At (read x)) b c → Finds (OfSome At (map read (take (i + 1) xs))) a c
found_more {a} {b} {c} read At xs i x inside is before now =
    subst (λ zs. Finds (OfSome At zs) a c) (sym (read_more read xs i x inside is)) (Finds-push At (map read (take i xs)) (read x) before now)

-- the test tells whether it holds
pub found_if : (one : GrammarFault) (a b : List GrammarFault) (r : Result (Unit {0}) NoMemory) (so : Bool) {holds : Type 0} → (so ≡ true ↔ holds) →
    OnOk r (Finds (OneIf (so ≡ true) one) a b) → OnOk r (Finds (OneIf holds one) a b)
found_if one a b (Ok u) so told finds = Finds-iff (λ f. (λ is. (told.0 is.0, is.1), λ is. (told.1 is.0, is.1))) finds
found_if one a b (Err e) so told finds = tt

-- the same is found in other words
pub found_as : {Y : Type 0} (P Q : Y → Type 0) (a b : List Y) (r : Result (Unit {0}) NoMemory) → ((f : Y) → P f ↔ Q f) → OnOk r (Finds P a b) → OnOk r (Finds Q a b)
found_as P Q a b (Ok u) same finds = Finds-iff same finds
found_as P Q a b (Err e) same finds = tt

-- a name that is put into a set
pub found_name : (old now : List (List ℕ)) (key name : List ℕ) → key ≡ name → now ≡ insert_key bytes_eq old key → Finds (λ other. other ≡ name) old now
found_name old now key name same is = subst (λ n. Finds (λ other. other ≡ n) old now) same (subst (Finds (λ other. other ≡ key) old) (sym is) (by (list_any (bytes_eq key) old) refl))
  where
    by : (b : Bool) → list_any (bytes_eq key) old ≡ b → Finds (λ other. other ≡ key) old (if b then old else old ++ key ∷ [])
    by true e = record { exact = λ f. (λ has. inl has, λ either. of f either) }
      where
        of : (f : List ℕ) → Contains old f ⊎ (f ≡ key) → Contains old f
        of f (inl has) = has
        of f (inr this) = subst (Contains old) (sym this) (Contains-from_any same_text key old e)
    by false e = Finds-one old key

pub is_in : (names : List (List ℕ)) (name : List ℕ) → list_any (bytes_eq name) names ≡ true → Contains names name
is_in names name e = Contains-from_any same_text name names e

pub in_is : (names : List (List ℕ)) (name : List ℕ) → Contains names name → list_any (bytes_eq name) names ≡ true
in_is names name has = list_any-from_Contains nat_list_eq_equiv name names has

-- what is read inside a list is the same for each default
pub get_or_same : {X : Type 0} (xs : List X) (i : ℕ) (d e : X) → i < length xs → get_or xs i d ≡ get_or xs i e
get_or_same xs i d e inside = same_Some (get_or xs i d) (get_or xs i e) (sym (slice_get-get_or xs i d inside) ∙ slice_get-get_or xs i e inside)

-- what is found are the faults of a number that are told so
pub found_told : {number : ℕ} {P : GrammarFault → Type 0} (told : ℕ → Span → List ℕ → Type 0) → ((f : GrammarFault) → P f → IsFaultOf number told f) →
    ((file : ℕ) (s : Span) (name : List ℕ) → told file s name → P (fault number file s name)) → (a b : List GrammarFault) (r : Result (Unit {0}) NoMemory) →
    OnOk r (Finds P a b) → OnOk r (Finds (IsFaultOf number told) a b)
found_told told into from a b (Ok u) finds = Finds-told told into from finds
found_told told into from a b (Err e) finds = tt
