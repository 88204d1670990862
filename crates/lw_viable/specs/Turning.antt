-- One turn of an exploration, in words of the code: what an instruction makes of the reading that goes on at its place.
use Rattle.std.specs.Prelude.{ℕ, ◌≡◌, ◌≢◌, ◌+◌, ◌-◌, ◌<◌, List, [], ◌∷◌, Option, Some, None, true, map, slice_get}
use Rattle.lw_base.specs.declared.numbers.KindId.{KindId}
use Rattle.lw_base.specs.declared.numbers.PointId.{PointId}
use Rattle.lw_program.specs.declared.instr.Instr.{Instr}
use Rattle.lw_program.specs.declared.instr.Instr.TheVariants.{Token, End, Shut, Act, Row, Choice, Maybe, Loop, Once, Put, Call}
use Rattle.lw_program.specs.ProgramOf.{ProgramParts}
use Rattle.lw_program.specs.declared.recipes.mark.TreeMark.TheVariants as mark
use Rattle.lw_viable.specs.Told.{BeginsParts, IsMet}
use Rattle.lw_viable.specs.Moves.{side_by_side}
use Rattle.lw_viable.specs.Growing.{Change, HasLists, read, ArePut}
use Rattle.lw_viable.specs.declared.front.Front.{Front}
use Rattle.lw_viable.specs.declared.lists.Lists.{Lists}

abbrev pub way_change : ℕ → Change
way_change w = (None, w ∷ [])

-- the place may read nothing, by what is told
abbrev pub MayBePassed : BeginsParts → ℕ → Type 0
MayBePassed told p = slice_get told.empty p ≡ Some true

-- the rule of this number is entered at its start: a node opens, has its body and is shut, or there is the body alone
pub data Enters (told : BeginsParts) (r start : ℕ) : Change → Type 0 where
  opens : slice_get told.nodes r ≡ Some true → Enters told r start (Some (mark.Open (record { 0 = r })), start ∷ (start + 1) ∷ [])
  goes : ¬ (slice_get told.nodes r ≡ Some true) → Enters told r start (None, start ∷ [])

-- the body of the loop at this place, and then the loop
pub data LoopsOnce (program : ProgramParts) (rest : ℕ) : List Change → Type 0 where
  body : {point : PointId} {inner : ℕ} → slice_get program.code rest ≡ Some (Loop point inner) → LoopsOnce program rest ((None, inner ∷ rest ∷ []) ∷ [])
  nowhere : ((point : PointId) (inner : ℕ) → slice_get program.code rest ≢ Some (Loop point inner)) → LoopsOnce program rest []

-- a token of the kind that is sought, if one is
pub data ReadsToken (kind : Option KindId) (k : KindId) : List Change → Type 0 where
  it : kind ≡ Some k → ReadsToken kind k ((Some (mark.Token k), []) ∷ [])
  other : kind ≢ Some k → ReadsToken kind k []

-- the rule cannot be called where a token of the kind comes next
pub record Misses (told : BeginsParts) (kind : Option KindId) (r : ℕ) : Type 0 where
  pub sought : KindId
  pub is : kind ≡ Some sought
  pub not_met : ¬ IsMet told.meets r sought.0

abbrev pub AreRead : Option KindId → Option Instr → List Change → Type 0
AreRead kind (Some (Token k)) changes = ReadsToken kind k changes
AreRead kind _ changes = changes ≡ []

-- by a program of which all is told
module _ (program : ProgramParts) (told : BeginsParts) (kind : Option KindId) where
  -- a call of a rule is left out where a kind is sought that cannot come next
  pub data IsCalled (r : ℕ) : List Change → Type 0 where
    misses : Misses told kind r → IsCalled r []
    nowhere : ((start : ℕ) → slice_get program.starts r ≢ Some (Some start)) → IsCalled r []
    enters : {start : ℕ} {change : Change} → slice_get program.starts r ≡ Some (Some start) → Enters told r start change → IsCalled r (change ∷ [])

  -- the changes that read no token, one for each way that there is
  abbrev pub AreQuiet : ℕ → Option Instr → List Change → Type 0
  AreQuiet p None changes = changes ≡ []
  AreQuiet p (Some (Token k)) changes = changes ≡ []
  AreQuiet p (Some End) changes = changes ≡ (Some mark.End, []) ∷ []
  AreQuiet p (Some Shut) changes = changes ≡ (Some mark.Shut, []) ∷ []
  AreQuiet p (Some (Act n)) changes = changes ≡ (Some (mark.Act n), []) ∷ []
  AreQuiet p (Some (Row first end)) changes = changes ≡ (None, side_by_side first (end - first)) ∷ []
  AreQuiet p (Some (Choice point first end)) changes = changes ≡ map way_change (side_by_side first (end - first))
  AreQuiet p (Some (Maybe point inner)) changes = changes ≡ (None, []) ∷ (None, inner ∷ []) ∷ []
  AreQuiet p (Some (Loop point inner)) changes = changes ≡ (None, []) ∷ (None, inner ∷ p ∷ []) ∷ []
  AreQuiet p (Some (Once rest)) changes = LoopsOnce program rest changes
  AreQuiet p (Some (Put n first)) changes = changes ≡ (Some (mark.Put n), first ∷ (first + 1) ∷ []) ∷ []
  AreQuiet p (Some (Call r)) changes = IsCalled r changes

  -- what is put on at this place: what is still to be explored, and what was found
  pub record IsMovedAt (p : ℕ) (old new : Lists) (front : Front) (old_work work old_found found : List Front) : Type 0 where
    pub quiet : List Change
    pub are_quiet : AreQuiet p (slice_get program.code p) quiet
    pub puts : ArePut quiet old new front old_work work
    pub tokens : List Change
    pub are_read : AreRead kind (slice_get program.code p) tokens
    pub finds : ArePut tokens old new front old_found found

  -- A turn at a front: nothing is left to be done, or something is put on at its first place.
  pub data IsTurned (old new : Lists) (front : Front) (old_work work old_found found : List Front) : Type 0 where
    nothing : (read old front).rest ≡ [] → work ≡ old_work → found ≡ old_found → IsTurned old new front old_work work old_found found
    moves : {p : ℕ} {behind : Front} → HasLists old behind → (read old behind).marks ≡ (read old front).marks →
        (read old front).rest ≡ p ∷ (read old behind).rest → behind.rest.0 < front.rest.0 → IsMovedAt p old new behind old_work work old_found found →
        IsTurned old new front old_work work old_found found
