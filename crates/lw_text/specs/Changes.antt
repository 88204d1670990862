-- What a list of changes makes of a text: the Language Server Protocol 3.17, "TextDocumentContentChangeEvent" and
-- "DidChangeTextDocumentParams", by which each change is made in the text that the one before left.
use Rattle.std.specs.Prelude.{ℕ, ◌≡◌, ◌<◌, ◌≤◌, ◌⊎◌, List, [], ◌∷◌, ◌++◌, length, take, drop, Some, None, Result, Ok, Err}
use Rattle.std.specs.Option.{IsSomeAnd}
use Rattle.lw_text.specs.Offset.{IsOffset}
use Rattle.lw_text.specs.declared.change.Change.{Change}
use Rattle.lw_text.specs.declared.change.EditFault.{EditFault}
use Rattle.lw_text.specs.declared.change.EditFault.TheVariants.{BadRange, TooLong, NoMemory}
use Rattle.lw_base.specs.declared.limits.TheConstants.{LONGEST_TEXT}
use Rattle.lw_text.specs.declared.place.Pos.{Pos}
use Rattle.lw_text.specs.declared.units.Encoding.{Encoding}

-- a comes after b: by line, then by character, both as given
abbrev pub IsAfter : Pos → Pos → Type 0
IsAfter a b = (b.line < a.line) ⊎ ((a.line ≡ b.line) × (b.character < a.character))

-- the change has a range whose start comes after its end
abbrev pub HasBadRange : Change → Type 0
HasBadRange change = IsSomeAnd change.range (λ range. IsAfter range.0 range.1)

-- what one change makes of a text: without a range its own text, else that in place of what stands from the range's start to its end
pub data IsChanged (enc : Encoding) (text : List ℕ) (change : Change) : List ℕ → Type 0 where
  whole : change.range ≡ None → IsChanged enc text change change.text
  part : (start end : Pos) {from to : ℕ} → change.range ≡ Some (start, end) → IsOffset enc text start from → IsOffset enc text end to →
      IsChanged enc text change (take from text ++ change.text ++ drop to text)

-- the change is made, and its text is not too long
pub record IsMade (enc : Encoding) (text : List ℕ) (change : Change) (new : List ℕ) : Type 0 where
  pub ordered : ¬ HasBadRange change
  pub changed : IsChanged enc text change new
  pub fits : length new ≤ LONGEST_TEXT

-- all of these changes are made in order, each in the text that the one before left
pub data AreMade (enc : Encoding) : List ℕ → List Change → List ℕ → Type 0 where
  none : {text : List ℕ} → AreMade enc text [] text
  next : {text new : List ℕ} {change : Change} {changes : List Change} (middle : List ℕ) → IsMade enc text change middle → AreMade enc middle changes new →
      AreMade enc text (change ∷ changes) new

-- The change cannot be made, and why: its start comes after its end, or else it makes a text that is too long. `number` is its place in its
-- list, counted from zero.
pub data IsRefused (enc : Encoding) (text : List ℕ) (change : Change) (number : ℕ) : EditFault → Type 0 where
  bad_range : HasBadRange change → IsRefused enc text change number (BadRange number)
  too_long : {new : List ℕ} → ¬ HasBadRange change → IsChanged enc text change new → LONGEST_TEXT < length new → IsRefused enc text change number (TooLong (length new))

-- what the changes make of a text: all of them are made, or those before the first that cannot be
pub data Changes (enc : Encoding) (text : List ℕ) (changes : List Change) : Result (List ℕ) EditFault → Type 0 where
  made : {new : List ℕ} → AreMade enc text changes new → Changes enc text changes (Ok new)
  refused : (before : List Change) (change : Change) (after : List Change) (middle : List ℕ) {fault : EditFault} → changes ≡ before ++ change ∷ after →
      AreMade enc text before middle → IsRefused enc middle change (length before) fault → Changes enc text changes (Err fault)

-- a text of these bytes, or why there is none: they are too many, or memory was refused
abbrev pub IsTextOrFault : List ℕ → Result (List ℕ) EditFault → Type 0
IsTextOrFault bytes (Ok text) = (text ≡ bytes) × (length bytes ≤ LONGEST_TEXT)
IsTextOrFault bytes (Err fault) = (fault ≡ NoMemory) ⊎ ((fault ≡ TooLong (length bytes)) × (LONGEST_TEXT < length bytes))
