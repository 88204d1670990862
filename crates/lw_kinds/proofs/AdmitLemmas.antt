-- How many tokens may be read: any number, or none.
use Rattle.std.proofs.Common.{ℕ, ◌+◌, Bool, true, false, refl, sym, arith, true≢false}
use Rattle.std.specs.Prelude.{IsTrue}
use Rattle.lw_kinds.specs.Passing.{Admits}

pub Admits-zero : (tokens : Bool) → Admits tokens 0
Admits-zero true = tt
Admits-zero false = refl

pub Admits-one : (tokens : Bool) → IsTrue tokens → Admits tokens 1
Admits-one true is = tt
Admits-one false is = absurd (true≢false (sym is))

pub one-Admits : (tokens : Bool) → Admits tokens 1 → IsTrue tokens
one-Admits true fits = refl
one-Admits false fits = absurd (omega (arith, fits))

pub Admits-both : (tokens : Bool) (m n : ℕ) → Admits tokens m → Admits tokens n → Admits tokens (m + n)
Admits-both true m n first second = tt
Admits-both false m n first second = omega (arith, first, second)

pub Admits-first : (tokens : Bool) (m n : ℕ) → Admits tokens (m + n) → Admits tokens m
Admits-first true m n fits = tt
Admits-first false m n fits = omega (arith, fits)

pub Admits-second : (tokens : Bool) (m n : ℕ) → Admits tokens (m + n) → Admits tokens n
Admits-second true m n fits = tt
Admits-second false m n fits = omega (arith, fits)
