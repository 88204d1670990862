-- Which instructions may be done without a token, by what is told of rules and of the places that an instruction names.
use Rattle.std.specs.Prelude.{ℕ, ◌≡◌, ◌↔◌, ◌≤◌, ◌<◌, List, Some, Bool, true, slice_get}
use Rattle.lw_base.specs.declared.numbers.PointId.{PointId}
use Rattle.lw_program.specs.declared.instr.Instr.{Instr}
use Rattle.lw_program.specs.declared.instr.Instr.TheVariants.{Token, Row, Choice, Loop, Once, Put, Call}
use Rattle.lw_program.specs.Says.{NamesLater}

-- the flag of this number is set
abbrev pub IsFlagged : List Bool → ℕ → Type 0
IsFlagged flags i = slice_get flags i ≡ Some true

module _ (calls : List Bool) (code : List Instr) (empty : List Bool) where
  -- a whole without a token: of a row each part is, of a choice some way is, of `+` the body of the loop that it names
  abbrev pub IsEmptyBy : Instr → Type 0
  IsEmptyBy (Token k) = ⊥
  IsEmptyBy (Row first end) = (q : ℕ) → first ≤ q → q < end → IsFlagged empty q
  IsEmptyBy (Choice point first end) = (q : ℕ) × (first ≤ q) × (q < end) × IsFlagged empty q
  IsEmptyBy (Once rest) = (point : PointId) × (inner : ℕ) × (slice_get code rest ≡ Some (Loop point inner)) × IsFlagged empty inner
  IsEmptyBy (Put n first) = IsFlagged empty first
  IsEmptyBy (Call r) = IsFlagged calls r
  IsEmptyBy _ = Unit {0}

  -- the flags from this place on are those of the instructions
  abbrev pub AreEmptyFrom : ℕ → Type 0
  AreEmptyFrom from = (p : ℕ) (instr : Instr) → from ≤ p → slice_get code p ≡ Some instr → IsFlagged empty p ↔ IsEmptyBy instr

-- each instruction names later places alone
abbrev pub NameLater : List Instr → Type 0
NameLater code = (p : ℕ) (instr : Instr) → slice_get code p ≡ Some instr → NamesLater p instr
