-- What one move at a place of a program does: the mark that it leaves, if any, and the places that are then to be done in its place.
-- Held against the textbooks' recursive descent, each way of a choice taken.
use Rattle.std.specs.Prelude.{ℕ, ◌≡◌, ◌+◌, ◌-◌, ◌<◌, ◌≤◌, List, [], ◌∷◌, Option, Some, None, Bool, true, zero, suc, slice_get}
use Rattle.lw_base.specs.declared.numbers.KindId.{KindId}
use Rattle.lw_base.specs.declared.numbers.PointId.{PointId}
use Rattle.lw_program.specs.declared.instr.Instr.TheVariants.{Token, End, Shut, Act, Row, Choice, Maybe, Loop, Once, Put, Call}
use Rattle.lw_program.specs.ProgramOf.{ProgramParts}
use Rattle.lw_program.specs.declared.recipes.mark.TreeMark.{TreeMark}
use Rattle.lw_program.specs.declared.recipes.mark.TreeMark.TheVariants as mark

-- so many places, side by side from the first on
abbrev pub side_by_side : ℕ → ℕ → List ℕ
side_by_side first zero = []
side_by_side first (suc count) = first ∷ side_by_side (first + 1) count

-- the mark that is left, if any
abbrev pub left : Option TreeMark → List TreeMark
left None = []
left (Some m) = m ∷ []

-- `nodes`: a flag for each rule, whether a call of it is a node
module _ (program : ProgramParts) (nodes : List Bool) where
  pub data MovesBy (p : ℕ) : Option TreeMark → List ℕ → Type 0 where
    token : {k : KindId} → slice_get program.code p ≡ Some (Token k) → MovesBy p (Some (mark.Token k)) []
    ends : slice_get program.code p ≡ Some End → MovesBy p (Some mark.End) []
    shuts : slice_get program.code p ≡ Some Shut → MovesBy p (Some mark.Shut) []
    acts : {n : ℕ} → slice_get program.code p ≡ Some (Act n) → MovesBy p (Some (mark.Act n)) []
    row : {first end : ℕ} → slice_get program.code p ≡ Some (Row first end) → MovesBy p None (side_by_side first (end - first))
    way : {point : PointId} {first end : ℕ} (w : ℕ) → slice_get program.code p ≡ Some (Choice point first end) → first ≤ w → w < end →
        MovesBy p None (w ∷ [])
    enters : {point : PointId} {inner : ℕ} → slice_get program.code p ≡ Some (Maybe point inner) → MovesBy p None (inner ∷ [])
    passes : {point : PointId} {inner : ℕ} → slice_get program.code p ≡ Some (Maybe point inner) → MovesBy p None []
    again : {point : PointId} {inner : ℕ} → slice_get program.code p ≡ Some (Loop point inner) → MovesBy p None (inner ∷ p ∷ [])
    leaves : {point : PointId} {inner : ℕ} → slice_get program.code p ≡ Some (Loop point inner) → MovesBy p None []
    once : {point : PointId} {rest inner : ℕ} → slice_get program.code p ≡ Some (Once rest) → slice_get program.code rest ≡ Some (Loop point inner) →
        MovesBy p None (inner ∷ rest ∷ [])
    puts : {n first : ℕ} → slice_get program.code p ≡ Some (Put n first) → MovesBy p (Some (mark.Put n)) (first ∷ (first + 1) ∷ [])
    opens : {r start : ℕ} → slice_get program.code p ≡ Some (Call r) → slice_get program.starts r ≡ Some (Some start) →
        slice_get nodes r ≡ Some true → MovesBy p (Some (mark.Open (record { 0 = r }))) (start ∷ (start + 1) ∷ [])
    calls : {r start : ℕ} → slice_get program.code p ≡ Some (Call r) → slice_get program.starts r ≡ Some (Some start) →
        ¬ (slice_get nodes r ≡ Some true) → MovesBy p None (start ∷ [])
