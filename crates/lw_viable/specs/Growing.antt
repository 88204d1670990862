-- How the lists of readings grow, in words of the code: a front is made of another by putting cells before its lists, and all lists of before stay.
use Rattle.std.specs.Prelude.{ℕ, ◌≡◌, ◌+◌, ◌-◌, ◌*◌, ◌^◌, ◌<◌, ◌≤◌, List, [], ◌∷◌, ◌++◌, Option, Some, None, All, length, map, sum_by}
use Rattle.lw_viable.specs.Chains.{chain}
use Rattle.lw_grammar.specs.declared.grammar.Grammar.{Grammar}
use Rattle.lw_grammar.specs.Kinds.{Kinds}
use Rattle.lw_program.specs.Says.{Task}
use Rattle.lw_program.specs.declared.recipes.mark.TreeMark.{TreeMark}
use Rattle.lw_viable.specs.Aims.{Aim, Fulfils}
use Rattle.lw_viable.specs.Readings.{KeptReading, Keeps}
use Rattle.lw_viable.specs.Moves.{left}
use Rattle.lw_viable.specs.Fronts.{reading_of}
use Rattle.lw_viable.specs.declared.front.Front.{Front}
use Rattle.lw_viable.specs.declared.lists.Lists.{Lists}

-- the lists of the front are there
pub record HasLists (lists : Lists) (front : Front) : Type 0 where
  pub marks : front.marks.0 ≤ length lists.marks
  pub rest : front.rest.0 ≤ length lists.rests

abbrev pub read : Lists → Front → KeptReading
read lists front = reading_of lists.marks lists.rests front

-- the marks of each of these
abbrev pub marks_of_each : Lists → List Front → List (List TreeMark)
marks_of_each lists fronts = map (λ front. (read lists front).marks) fronts

-- as the lists have them, these are the readings of the kinds towards the aim
abbrev pub AreHeldIn : Grammar → Kinds → List Task → Aim → List ℕ → Lists → List Front → Type 0
AreHeldIn g kinds tasks aim ks lists fronts = Keeps g kinds tasks (Fulfils g kinds tasks aim) ks (map (read lists) fronts)

-- the lists of before are as they were
pub record GrowsLists (old new : Lists) : Type 0 where
  pub marks : length old.marks ≤ length new.marks
  pub rests : length old.rests ≤ length new.rests
  pub same_marks : (link : ℕ) → link ≤ length old.marks → chain new.marks link ≡ chain old.marks link
  pub same_rests : (link : ℕ) → link ≤ length old.rests → chain new.rests link ≡ chain old.rests link

-- how many cells may still be put in
abbrev pub room : Lists → ℕ
room lists = (2 ^ 64 - length lists.marks) + (2 ^ 64 - length lists.rests)

-- the front that was made of another by so many cells, and what is read by it
pub record IsMadeFront (cells : ℕ) (old new : Lists) (front made : Front) (reading : KeptReading) : Type 0 where
  pub within : HasLists new made
  pub is : read new made ≡ reading
  pub spent : room new + cells ≤ room old
  pub fits : made.rest.0 < 2 ^ 64
  pub none : cells ≡ 0 → made ≡ front

-- a mark behind the others, if any, and places before those that are still to be done
abbrev pub Change : Type 0
Change = Option TreeMark × List ℕ

abbrev pub changed : KeptReading → Change → KeptReading
changed reading change = record { marks = reading.marks ++ left change.0; rest = change.1 ++ reading.rest }

abbrev pub cells_of : Change → ℕ
cells_of change = length (left change.0) + length change.1

-- a bound on the number of a list, by which the weight of fronts is counted against that of cells
abbrev pub weight_of : Front → ℕ
weight_of front = front.rest.0 + 1

abbrev pub cell_weight : ℕ
cell_weight = 2 ^ 66

-- what these fronts and the cells that may still be put in weigh
abbrev pub fronts_weight : Lists → List Front → ℕ
fronts_weight lists fronts = sum_by weight_of fronts + cell_weight * room lists

-- of the front's own weight what a change without cells keeps
abbrev pub kept : Front → Option TreeMark → List ℕ → ℕ
kept front None [] = weight_of front
kept front None (p ∷ ps) = 0
kept front (Some mark) ps = 0

-- Behind the fronts of before stands one for each change of what is read by the front. Where each is made with cells, they weigh no more than
-- what these cells weighed.
pub record ArePut (changes : List Change) (old new : Lists) (front : Front) (before after : List Front) : Type 0 where
  pub fronts : List Front
  pub are : after ≡ before ++ fronts
  pub within : All (HasLists new) fronts
  pub are_read : map (read new) fronts ≡ map (changed (read old front)) changes
  pub lighter : fronts_weight new fronts ≤ cell_weight * room old + sum_by (λ change. kept front change.0 change.1) changes
