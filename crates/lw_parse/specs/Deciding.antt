-- What a run decides to do at a place, in words of the code.
use Rattle.std.specs.Prelude.{ℕ, ◌-◌, List, [], ◌∷◌, ◌++◌, Option, Some, None, drop}
use Rattle.lw_program.specs.declared.instr.Instr.{Instr}
use Rattle.lw_program.specs.declared.recipes.mark.TreeMark.{TreeMark}
use Rattle.lw_program.specs.declared.recipes.mark.TreeMark.TheVariants as mark
use Rattle.lw_viable.specs.Moves.{side_by_side, left}
use Rattle.lw_parse.specs.Running.{RunState, Entered, NotEntered, TurnsTo, GivesUp}
use Rattle.lw_parse.specs.declared.turn.Places.{Places}
use Rattle.lw_parse.specs.declared.turn.Places.TheVariants.{Nowhere, One, Two, Row}
use Rattle.lw_parse.specs.declared.turn.Step.{Step}
use Rattle.lw_parse.specs.declared.turn.Turn.{Turn}
use Rattle.lw_parse.specs.declared.turn.Turn.TheVariants.{Plain, Value}

-- the places, in order
abbrev pub places_of : Places → List ℕ
places_of Nowhere = []
places_of (One p) = p ∷ []
places_of (Two p q) = p ∷ q ∷ []
places_of (Row first end) = side_by_side first (end - first)

abbrev pub marks_in : Turn → List TreeMark
marks_in (Plain step) = left step.mark
marks_in (Value number end step) = mark.Put number ∷ left step.mark

abbrev pub places_in : Turn → List ℕ
places_in (Plain step) = places_of step.places
places_in (Value number end step) = places_of step.places ++ end ∷ []

-- the kinds that are unread once a mark is left: that of a token was read
abbrev pub unread_behind : Option TreeMark → List ℕ → List ℕ
unread_behind (Some (mark.Token k)) ks = drop 1 ks
unread_behind _ ks = ks

abbrev pub unread_after : Turn → List ℕ → List ℕ
unread_after (Plain step) ks = unread_behind step.mark ks
unread_after (Value number end step) ks = unread_behind step.mark ks

-- what is done where a token is read or a rule is called, if it can be
abbrev pub IsStepBy : RunState → Option Instr → Option Step → Type 0
IsStepBy state i None = NotEntered state.parser state.unread i
IsStepBy state i (Some step) = Entered state.parser state.unread i (left step.mark) (places_of step.places) (unread_behind step.mark state.unread)

-- what is done at the place p where this stands there, if anything can be
abbrev pub IsDecided : RunState → ℕ → Option Instr → Option Turn → Type 0
IsDecided state p i None = GivesUp state.parser state.unread i
IsDecided state p i (Some turn) = TurnsTo state.parser state.unread p i (marks_in turn) (places_in turn) (unread_after turn state.unread)
