-- How a count of faults tells why a call failed: a fault is counted once, and nothing else is.
use Rattle.std.specs.Prelude.{◌≡◌, ℕ, ◌+◌, ◌-◌, ◌^◌, ◌≤◌, min}

-- the number that follows in a count: one more, but 2^64 - 1 stays
abbrev pub next_number : ℕ → ℕ
next_number before = min (before + 1) (2 ^ 64 - 1)

-- the count grew, or it stands at its last value
abbrev pub Rose : ℕ → ℕ → Type 0
Rose before now = next_number before ≤ now

-- A fault: the count is the next number, so it rose and did not fall.
pub record Faulted (before now : ℕ) : Type 0 where
  pub exact : now ≡ next_number before
  pub rose : Rose before now
  pub later : before ≤ now
