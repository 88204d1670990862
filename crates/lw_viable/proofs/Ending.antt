-- What the readings of some kinds say: they are the kinds of a whole where one of them may end, and begin one where there is a reading.
use Rattle.std.proofs.Common.{◌≡◌, ◌↔◌, ℕ, ◌<◌, List, [], ◌∷◌, ◌++◌, All, Any, Bool, not, eqb, IsTrue, length, refl, sym, ap, ◌∙◌, append-nil, arith}
use Rattle.std.proofs.lemmas.Bool.Decides.{nat_tests}
use Rattle.std.proofs.lemmas.List.Elements.{All-head, All-tail, All-contains}
use Rattle.std.specs.List.{AllByRecursion}
use Rattle.lw_grammar.specs.declared.grammar.Grammar.{Grammar}
use Rattle.lw_grammar.specs.Kinds.{Kinds}
use Rattle.lw_grammar.specs.Marks.{Mark, kinds_of}
use Rattle.lw_grammar.proofs.Joined.{kinds_join}
use Rattle.lw_look.specs.Supplied.{IsSupplied}
use Rattle.lw_program.specs.ProgramOf.{ProgramParts}
use Rattle.lw_viable.specs.Gives.{PlacesGive}
use Rattle.lw_viable.specs.Gives as gives
use Rattle.lw_viable.specs.Told.{BeginsParts}
use Rattle.lw_viable.specs.Readings.{KeptReading, GoesOnFrom, HasTask, IsAhead, IsKeptReading, Keeps}
use Rattle.lw_viable.specs.Aims.{EndsSome, BeginsSome}
use Rattle.lw_viable.specs.Fronts.{IsKnownProgram}
use Rattle.lw_viable.specs.Turning.{MayBePassed}
use Rattle.lw_viable.proofs.Exploring.{of_any, any_of, kinds_left}
use Rattle.lw_viable.proofs.Meaning.{quiet_parts}
use Rattle.lw_viable.proofs.Moves.Finishing.{places_give}
use Rattle.lw_viable.proofs.Moves.Giving.{first_given}

module _ (g : Grammar) (kinds : Kinds) {program : ProgramParts} {told : BeginsParts} (known : IsKnownProgram g kinds program told) where
  abbrev Placed : ℕ → Type 0
  Placed p = HasTask g kinds known.program.tasks p

  abbrev Goes : List Mark → KeptReading → Type 0
  Goes m r = GoesOnFrom g kinds known.program.tasks m r

  -- places that may be passed give marks without a token
  passed_give : (ps : List ℕ) → All Placed ps → AllByRecursion (MayBePassed told) ps → (n : List Mark) × PlacesGive g kinds known.program.tasks ps n × (kinds_of n ≡ [])
  passed_give [] placed passed = ([], gives.nothing, refl)
  passed_give (p ∷ ps) placed passed =
      let (t, stands, has) = All-head Placed p ps placed in
      let (m, own, none) = (known.begins.empty p t stands).1 passed.0 in
      let (n, others, no_more) = passed_give ps (All-tail Placed p ps placed) passed.1 in
      (m ++ n, gives.more stands own others, kinds_join m n ∙ ap (λ ks. ks ++ kinds_of n) none ∙ no_more)

  -- and those that do may be passed
  give_passed : (ps : List ℕ) {n : List Mark} → All Placed ps → PlacesGive g kinds known.program.tasks ps n → kinds_of n ≡ [] → AllByRecursion (MayBePassed told) ps
  give_passed [] placed give none = tt
  give_passed (p ∷ ps) placed give none =
      let (t, stands, has) = All-head Placed p ps placed in
      let first = first_given g kinds known.program.tasks stands give in
      let (own, others) = quiet_parts first.own first.others (sym (ap kinds_of first.are) ∙ none) in
      ((known.begins.empty p t stands).0 (first.own, first.does, own), give_passed ps (All-tail Placed p ps placed) first.give others)

  module _ (Whole : List Mark → Type 0) where
    -- a reading goes on to a whole of its kinds and those of what its places give
    goes_to : {ks : List ℕ} {r : KeptReading} {n : List Mark} (ahead : IsAhead g kinds known.program.tasks Whole ks r) →
        PlacesGive g kinds known.program.tasks r.rest n → Whole (ahead.front ++ n) × (kinds_of (ahead.front ++ n) ≡ ks ++ kinds_of n)
    goes_to {n} ahead give = (
      ahead.sound (ahead.front ++ n) (record { front = ahead.front; others = n; meant = ahead.meant; gives = give; are = refl }),
      kinds_join ahead.front n ∙ ap (λ ks. ks ++ kinds_of n) ahead.kinds_are,
    )

    module _ {ks : List ℕ} (readings : List KeptReading) (keeps : Keeps g kinds known.program.tasks Whole ks readings) where
      abbrev Kept : KeptReading → Type 0
      Kept r = IsKeptReading g kinds known.program.tasks Whole ks r

      abbrev MayEnd : KeptReading → Type 0
      MayEnd r = AllByRecursion (MayBePassed told) r.rest

      pub whole_ends : EndsSome Whole ks → Any MayEnd readings
      whole_ends (marks, whole, are) =
          let there : kinds_of marks ≡ ks ++ [] = are ∙ sym (append-nil ks) in
          let (r, has, on) = of_any (Goes marks) readings (keeps.all marks [] whole there) in
          let kept = All-contains Kept readings r keeps.each has in
          any_of MayEnd readings r has (give_passed r.rest kept.ahead.placed on.gives (kinds_left g kinds known Whole kept.ahead on there))

      pub ends_whole : Any MayEnd readings → EndsSome Whole ks
      ends_whole some =
          let (r, has, ends) = of_any MayEnd readings some in
          let kept = All-contains Kept readings r keeps.each has in
          let (n, give, none) = passed_give r.rest kept.ahead.placed ends in
          let (whole, are) = goes_to kept.ahead give in
          (kept.ahead.front ++ n, whole, are ∙ ap (λ ls. ks ++ ls) none ∙ append-nil ks)

      begins_some : BeginsSome Whole ks → 0 < length readings
      begins_some (ls, (marks, whole, are)) = let (k, r, within, is, on) = keeps.all marks ls whole are in omega arith

      some_begins : IsSupplied g kinds → 0 < length readings → BeginsSome Whole ks
      some_begins supplied some = begins readings keeps.each some
        where
          begins : (readings : List KeptReading) → All Kept readings → 0 < length readings → BeginsSome Whole ks
          begins [] each some = absurd (omega arith)
          begins (r ∷ readings) each some =
              let kept = All-head Kept r readings each in
              let (n, give) = places_give g kinds known.program.tasks supplied r.rest kept.ahead.placed in
              let (whole, are) = goes_to kept.ahead give in
              (kinds_of n, (kept.ahead.front ++ n, whole, are))

      -- an answer by the number of readings says whether a whole begins so
      pub begins_told : (empty : Bool) (count : ℕ) → IsSupplied g kinds → empty ≡ eqb count 0 → count ≡ length readings → IsTrue (not empty) ↔ BeginsSome Whole ks
      begins_told empty count supplied told counted = (
        λ some. some_begins supplied (grind (arith, nat_tests)),
        λ begins. let some = begins_some begins in grind (arith, nat_tests),
      )
