-- The place of the first element that passes.
use Rattle.std.proofs.Common.{◌≡◌, ◌∙◌, ◌<◌, ◌+◌, ◌-◌, ℕ, suc, List, [], ◌∷◌, ◌++◌, length, take, get_or, Bool, true, false, cond, not, ◌||◌, Some, None, refl, sym, ap, arith, ltb, length-take}
use Rattle.std.proofs.lemmas.Bool.Decides.{nat_tests}
use Rattle.std.proofs.lemmas.Bool.{ltb-true}
use Rattle.std.proofs.lemmas.List.{take_more, take_all}
use Rattle.std.proofs.lemmas.List.Folds.{list_any-append}
use Rattle.std.proofs.Math.Seq.{take-length}
use Rattle.std.specs.List.{position, position_or_len, list_any}
use Rattle.lw_frame.specs.Reading.{IsThroughNewline, is_newline}

any_step : (b any : Bool) (n m : ℕ) → any ≡ ltb n m → (b || any) ≡ ltb (cond (not b) (1 + n) 0) (suc m)
any_step true any n m e = grind (arith, nat_tests)
any_step false any n m e = e ∙ grind (arith, nat_tests)

-- an element passes where the first that passes stands before the end
pub list_any-position : {X : Type 0} (p : X → Bool) (xs : List X) → list_any p xs ≡ ltb (position_or_len p xs) (length xs)
list_any-position p [] = refl
list_any-position p (x ∷ xs) = any_step (p x) (list_any p xs) (position_or_len p xs) (length xs) (list_any-position p xs)

pub no_place : (b : Bool) (p : ℕ) → cond b (Some p) None ≡ None → b ≡ false
no_place true p e = cc
no_place false p e = refl

pub found_place : (b : Bool) (p i : ℕ) → cond b (Some p) None ≡ Some i → (b ≡ true) × (p ≡ i)
found_place true p i e = (refl, cc)
found_place false p i e = cc

none_before_step : {X : Type 0} (p : X → Bool) (b : Bool) (x : X) (xs : List X) (n : ℕ) → b ≡ p x → list_any p (take n xs) ≡ false → list_any p (take (cond (not b) (1 + n) 0) (x ∷ xs)) ≡ false
none_before_step p true x xs n e h = refl
none_before_step p false x xs n e h =
    let more : 1 + n ≡ suc n = omega arith in
    ap (λ k. list_any p (take k (x ∷ xs))) more ∙ ap (λ b. b || list_any p (take n xs)) (sym e) ∙ h

-- none passes before the first that does
pub none_before : {X : Type 0} (p : X → Bool) (xs : List X) → list_any p (take (position_or_len p xs) xs) ≡ false
none_before p [] = refl
none_before p (x ∷ xs) = none_before_step p (p x) x xs (position_or_len p xs) refl (none_before p xs)

front_none : (a b : Bool) → (a || b) ≡ false → a ≡ false
front_none a b h = grind (arith, nat_tests)

pub through_some : (bytes : List ℕ) (at : ℕ) → position is_newline bytes ≡ Some at → IsThroughNewline bytes (take (at + 1) bytes)
through_some bytes at e =
    let found = found_place (ltb (position_or_len is_newline bytes) (length bytes)) (position_or_len is_newline bytes) at e in
    let inside : at < length bytes = omega (arith, ltb-true _ _ found.0, found.1) in
    let size : length (take (at + 1) bytes) ≡ at + 1 = length-take (at + 1) bytes ∙ omega arith in
    record {
      earlier = take at bytes;
      last = get_or bytes at 0;
      is = take_more bytes at 0 inside;
      none = ap (λ n. list_any is_newline (take n bytes)) (sym found.1) ∙ none_before is_newline bytes;
      front = ap (λ n. take n bytes) (sym size);
      within = omega arith;
    }

pub through_none : (bytes : List ℕ) → position is_newline bytes ≡ None → 0 < length bytes → IsThroughNewline bytes bytes
through_none bytes e some =
    let last_at : ℕ = length bytes - 1 in
    let inside : last_at < length bytes = omega arith in
    let whole : bytes ≡ take last_at bytes ++ get_or bytes last_at 0 ∷ [] = sym (take_all (last_at + 1) bytes (omega arith)) ∙ take_more bytes last_at 0 inside in
    let none : list_any is_newline bytes ≡ false = list_any-position is_newline bytes ∙ no_place _ _ e in
    record {
      earlier = take last_at bytes;
      last = get_or bytes last_at 0;
      is = whole;
      none = front_none _ _ (sym (list_any-append is_newline (take last_at bytes) (get_or bytes last_at 0 ∷ [])) ∙ ap (list_any is_newline) (sym whole) ∙ none);
      front = sym (take-length bytes);
      within = omega arith;
    }
