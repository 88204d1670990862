-- A text without its quotes.
use Rattle.std.proofs.Common.{ℕ, ◌≡◌, ◌<◌, ◌≤◌, ◌-◌, List, Bool, true, false, length, take, drop, refl, sym, ap, ◌∙◌, arith}
use Rattle.std.specs.Prelude.{chars, nat_lt, encode_utf8_all, if◌then◌else◌, IfOk, Result, Ok, Err}
use Rattle.std.proofs.lemmas.Bool.Decides.{nat_tests}
use Rattle.lw_gramlex.specs.Values.{with_escapes_read}
use Rattle.lw_reading.specs.Values.{inner_text, unquoted}

by_test : (b : Bool) (x y : List ℕ) → b ≡ true → (if b then x else y) ≡ x
by_test true x y e = refl
by_test false x y e = absurd (let z : ⊥ = cc in z)

by_other : (b : Bool) (x y : List ℕ) → b ≡ false → (if b then x else y) ≡ y
by_other false x y e = refl
by_other true x y e = absurd (let z : ⊥ = cc in z)

pub kept_text : (text t : List ℕ) (count : ℕ) → t ≡ text → count ≡ length (chars t) → count < 2 → text ≡ unquoted text
kept_text text t count same is lt =
    let few : length (chars text) < 2 = omega (arith, is, ap (λ l. length (chars l)) same) in
    let e : nat_lt (length (chars text)) 2 ≡ true = grind (arith, nat_tests) in
    sym (by_test (nat_lt (length (chars text)) 2) text (with_escapes_read (inner_text text)) e)

inner_is : (text t inner : List ℕ) (count : ℕ) → t ≡ text → count ≡ length (chars t) → 2 ≤ count →
    inner ≡ encode_utf8_all (take (count - 2) (drop 1 (chars t))) → with_escapes_read inner ≡ unquoted text
inner_is text t inner count same is many cut =
    let many' : 2 ≤ length (chars text) = omega (arith, is, ap (λ l. length (chars l)) same) in
    let e : nat_lt (length (chars text)) 2 ≡ false = grind (arith, nat_tests) in
    let within : inner ≡ inner_text text =
    cut ∙ ap (λ n. encode_utf8_all (take (n - 2) (drop 1 (chars t)))) is ∙ ap (λ l. encode_utf8_all (take (length (chars l) - 2) (drop 1 (chars l)))) same in
    ap (λ l. with_escapes_read l) within ∙ sym (by_other (nat_lt (length (chars text)) 2) text (with_escapes_read (inner_text text)) e)

pub inner_said : {E : Type 0} (r : Result (List ℕ) E) (text t inner : List ℕ) (count : ℕ) → t ≡ text → count ≡ length (chars t) → 2 ≤ count →
    inner ≡ encode_utf8_all (take (count - 2) (drop 1 (chars t))) → IfOk r (λ said. said ≡ with_escapes_read inner) → IfOk r (λ said. said ≡ unquoted text)
inner_said (Ok said) text t inner count same is many cut read = read ∙ inner_is text t inner count same is many cut
inner_said (Err e) text t inner count same is many cut read = tt
