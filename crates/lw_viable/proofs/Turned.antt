-- A turn, in words of the code: what is still to be explored weighs less, and it is a turn at the reading of its front.
use Rattle.std.proofs.Common.{◌≡◌, ℕ, ◌-◌, ◌<◌, ◌≤◌, List, [], ◌∷◌, ◌++◌, Option, Some, None, All, map, slice_get, sum_by, refl, sym, ap, ◌∙◌, subst, arith}
use Rattle.std.proofs.lemmas.List.{map-append}
use Rattle.std.proofs.lemmas.List.Elements.{All-append, All-same}
use Rattle.std.proofs.lemmas.List.Sums.{sum_by-append, sum_by-cons, sum_by_push}
use Rattle.lw_base.specs.declared.numbers.KindId.{KindId}
use Rattle.lw_program.specs.declared.instr.Instr.{Instr}
use Rattle.lw_program.specs.declared.instr.Instr.TheVariants.{Token, End, Shut, Act, Row, Choice, Maybe, Loop, Once, Put, Call}
use Rattle.lw_program.specs.ProgramOf.{ProgramParts}
use Rattle.lw_program.specs.declared.recipes.mark.TreeMark.{TreeMark}
use Rattle.lw_viable.specs.Told.{BeginsParts}
use Rattle.lw_viable.specs.Moves.{side_by_side}
use Rattle.lw_viable.specs.Growing.{HasLists, read, GrowsLists, Change, changed, weight_of, fronts_weight, kept, ArePut}
use Rattle.lw_viable.specs.Turning.{way_change, Enters, LoopsOnce, IsCalled, AreQuiet, IsMovedAt, IsTurned}
use Rattle.lw_viable.specs.Turning as turn
use Rattle.lw_viable.specs.declared.front.Front.{Front}
use Rattle.lw_viable.specs.declared.lists.Lists.{Lists}
use Rattle.lw_viable.proofs.Made.{reading}
use Rattle.lw_viable.proofs.Putting.{all_stay_within, all_read_same, room_shrinks}
use Rattle.lw_viable.proofs.ReadingTurns.{TurnsAt}
use Rattle.lw_viable.proofs.ReadingTurns as at

-- ---- weights

abbrev keeps : Front → Change → ℕ
keeps front change = kept front change.0 change.1

kept_most : (front : Front) (mark : Option TreeMark) (places : List ℕ) → kept front mark places ≤ weight_of front
kept_most front None [] = omega arith
kept_most front None (p ∷ ps) = omega arith
kept_most front (Some mark) ps = omega arith

-- these changes keep of the front's weight no more than there is
record IsLight (front : Front) (changes : List Change) : Type 0 where
  light : sum_by (keeps front) changes ≤ weight_of front

light_as : {front : Front} {changes others : List Change} → changes ≡ others → IsLight front others → IsLight front changes
light_as {front} same light = subst (IsLight front) (sym same) light

none_light : (front : Front) → IsLight front []
none_light front = record { light = omega arith }

one_light : (front : Front) (change : Change) → IsLight front (change ∷ [])
one_light front change = let most = kept_most front change.0 change.1 in record { light = omega (arith, most, sum_by-cons (keeps front) change []) }

either_light : (front : Front) (p : ℕ) (ps : List ℕ) → IsLight front ((None, []) ∷ (None, p ∷ ps) ∷ [])
either_light front p ps =
    record { light = omega (arith, sum_by-cons (keeps front) (None, []) ((None, p ∷ ps) ∷ []), sum_by-cons (keeps front) (None, p ∷ ps) []) }

ways_none : (front : Front) (places : List ℕ) → sum_by (keeps front) (map way_change places) ≡ 0
ways_none front [] = refl
ways_none front (p ∷ ps) = let others = ways_none front ps in omega (arith, others, sum_by-cons (keeps front) (way_change p) (map way_change ps))

ways_light : (front : Front) (places : List ℕ) → IsLight front (map way_change places)
ways_light front places = let none = ways_none front places in record { light = omega (arith, none) }

module _ (program : ProgramParts) (told : BeginsParts) (kind : Option KindId) (p : ℕ) where
  calls_light : (front : Front) {r : ℕ} {changes : List Change} → IsCalled program told kind r changes → IsLight front changes
  calls_light front (turn.misses misses) = none_light front
  calls_light front (turn.nowhere none) = none_light front
  calls_light front (turn.enters {change} starts enters) = one_light front change

  loops_light : (front : Front) {rest : ℕ} {changes : List Change} → LoopsOnce program rest changes → IsLight front changes
  loops_light front (turn.body loop) = one_light front _
  loops_light front (turn.nowhere none) = none_light front

  quiet_light : (front : Front) (changes : List Change) (i : Option Instr) → AreQuiet program told kind p i changes → IsLight front changes
  quiet_light front changes None are = light_as are (none_light front)
  quiet_light front changes (Some (Token k)) are = light_as are (none_light front)
  quiet_light front changes (Some End) are = light_as are (one_light front _)
  quiet_light front changes (Some Shut) are = light_as are (one_light front _)
  quiet_light front changes (Some (Act n)) are = light_as are (one_light front _)
  quiet_light front changes (Some (Row first end)) are = light_as are (one_light front _)
  quiet_light front changes (Some (Choice point first end)) are = light_as are (ways_light front (side_by_side first (end - first)))
  quiet_light front changes (Some (Maybe point inner)) are = light_as are (either_light front inner [])
  quiet_light front changes (Some (Loop point inner)) are = light_as are (either_light front inner (p ∷ []))
  quiet_light front changes (Some (Once rest)) are = loops_light front are
  quiet_light front changes (Some (Put n first)) are = light_as are (one_light front _)
  quiet_light front changes (Some (Call r)) are = calls_light front are

module _ (program : ProgramParts) (told : BeginsParts) (kind : Option KindId) {old new : Lists} (grows : GrowsLists old new) where
  -- less is still to be explored
  pub turned_lighter : (front : Front) (work after found noted : List Front) → IsTurned program told kind old new front work after found noted →
      fronts_weight new after < fronts_weight old (work ++ front ∷ [])
  turned_lighter front work after found noted (turn.nothing empty same same_found) =
      let shrinks = room_shrinks grows in omega (arith, shrinks, sum_by_push weight_of work front, ap (λ fronts. sum_by weight_of fronts) same)
  turned_lighter front work after found noted (turn.moves {p} {behind} within marks rest less moved) =
      let light = quiet_light program told kind p behind moved.quiet (slice_get program.code p) moved.are_quiet in
      let put = moved.puts.lighter in
      omega (
        arith,
        light.light,
        put,
        less,
        sum_by_push weight_of work front,
        sum_by-append weight_of work moved.puts.fronts,
        ap (λ fronts. sum_by weight_of fronts) moved.puts.are,
      )

  put_within : (changes : List Change) (front : Front) (before after : List Front) → All (HasLists old) before → ArePut changes old new front before after → All (HasLists new) after
  put_within changes front before after within put =
      All-same (HasLists new) after (before ++ put.fronts) put.are (All-append (HasLists new) before put.fronts (all_stay_within grows before within) put.within)

  pub turned_within : (front : Front) (work after found noted : List Front) → All (HasLists old) work → All (HasLists old) found →
      IsTurned program told kind old new front work after found noted → All (HasLists new) after × All (HasLists new) noted
  turned_within front work after found noted within found_within (turn.nothing empty same same_found) = (
    All-same (HasLists new) after work same (all_stay_within grows work within),
    All-same (HasLists new) noted found same_found (all_stay_within grows found found_within),
  )
  turned_within front work after found noted within found_within (turn.moves {behind} behind_within marks rest less moved) =
      (put_within moved.quiet behind work after within moved.puts, put_within moved.tokens behind found noted found_within moved.finds)

  -- what is put on is read as its changes
  put_read : (changes : List Change) (front : Front) (before after : List Front) → All (HasLists old) before → ArePut changes old new front before after →
      map (read new) after ≡ map (read old) before ++ map (changed (read old front)) changes
  put_read changes front before after within put =
      ap (map (read new)) put.are ∙ map-append (read new) before put.fronts ∙ ap (λ rs. rs ++ map (read new) put.fronts) (all_read_same grows before within)
      ∙ ap (λ rs. map (read old) before ++ rs) put.are_read

  pub turned_at : (front : Front) (work after found noted : List Front) → All (HasLists old) work → All (HasLists old) found →
      IsTurned program told kind old new front work after found noted →
      TurnsAt program told kind (read old front) (map (read old) work) (map (read new) after) (map (read old) found) (map (read new) noted)
  turned_at front work after found noted within found_within (turn.nothing empty same same_found) =
      at.drops (read old front).marks (ap (reading (read old front).marks) empty) (ap (map (read new)) same ∙ all_read_same grows work within)
      (ap (map (read new)) same_found ∙ all_read_same grows found found_within)
  turned_at front work after found noted within found_within (turn.moves {p} {behind} behind_within marks rest less moved) =
      let r = read old behind in
      at.moves r.marks r.rest moved.quiet moved.tokens (ap (λ marks. reading marks (read old front).rest) (sym marks) ∙ ap (reading r.marks) rest) moved.are_quiet moved.are_read
      (put_read moved.quiet behind work after within moved.puts) (put_read moved.tokens behind found noted found_within moved.finds)
