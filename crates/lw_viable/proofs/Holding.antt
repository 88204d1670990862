-- Readings that are held, over the tasks that are told of the program.
use Rattle.std.proofs.Common.{◌≡◌, ◌↔◌, ℕ, List, All, Any, Bool, not, eqb, IsTrue, length, map, sym, ap, ap₂, ◌∙◌, subst}
use Rattle.std.specs.List.{AllByRecursion}
use Rattle.lw_grammar.specs.declared.grammar.Grammar.{Grammar}
use Rattle.lw_grammar.specs.Kinds.{Kinds}
use Rattle.lw_look.specs.Supplied.{IsSupplied}
use Rattle.lw_program.specs.ProgramOf.{ProgramParts}
use Rattle.lw_program.specs.Says.{Task}
use Rattle.lw_viable.specs.Told.{BeginsParts}
use Rattle.lw_viable.specs.Aims.{Aim, Fulfils, BeginsSome, EndsSome}
use Rattle.lw_viable.specs.Fronts.{FrontsParts, IsKnownProgram, HoldReadings}
use Rattle.lw_viable.specs.Growing.{AreHeldIn, HasLists, read, GrowsLists}
use Rattle.lw_viable.specs.Readings.{KeptReading, Keeps}
use Rattle.lw_viable.specs.Turning.{MayBePassed}
use Rattle.lw_viable.specs.Visiting.{FindsDue, IsToldDue}
use Rattle.lw_viable.specs.declared.due.Due.{Due}
use Rattle.lw_viable.specs.declared.front.Front.{Front}
use Rattle.lw_viable.specs.declared.lists.Lists.{Lists}
use Rattle.lw_viable.proofs.Ending.{whole_ends, ends_whole, begins_told}
use Rattle.lw_viable.proofs.Putting.{all_read_same}

abbrev pub parts : ProgramParts → BeginsParts → List KeptReading → FrontsParts
parts program begins kept = record { program = program; begins = begins; kept = kept }

-- a program, and what is told of it, that are those of fronts
module _ {fronts : FrontsParts} {program own : ProgramParts} {begins owned : BeginsParts} {kept : List KeptReading} (same : program ≡ fronts.program)
    (also : begins ≡ fronts.begins) (are : parts own owned kept ≡ fronts) where
  pub with_own : (readings : List KeptReading) → parts program begins readings ≡ parts own owned readings
  with_own readings =
      ap₂ (λ (p : ProgramParts) (b : BeginsParts). parts p b readings) (same ∙ ap (λ (f : FrontsParts). f.program) (sym are))
      (also ∙ ap (λ (f : FrontsParts). f.begins) (sym are))

  pub with_same : parts program begins kept ≡ fronts
  with_same = with_own kept ∙ are

-- where the lists have grown, the readings are the same
pub still : (program : ProgramParts) (begins : BeginsParts) {old new : Lists} → GrowsLists old new → (kept : List Front) → All (HasLists old) kept →
    parts program begins (map (read new) kept) ≡ parts program begins (map (read old) kept)
still program begins grows kept within = ap (parts program begins) (all_read_same grows kept within)

module _ {g : Grammar} {kinds : Kinds} {tasks : List Task} {aim : Aim} {ks : List ℕ} (fronts : FrontsParts) (hold : HoldReadings g kinds tasks aim ks fronts) where
  -- they are kept over the tasks of the program
  pub held_keeps : Keeps g kinds hold.by.known.program.tasks (Fulfils g kinds hold.by.known.program.tasks aim) ks fronts.kept
  held_keeps = subst (λ tasks. Keeps g kinds tasks (Fulfils g kinds tasks aim) ks fronts.kept) (sym hold.by.tasks_are) hold.keeps

  -- and what follows over those follows over these
  pub by_known : (P : List Task → Type 0) →
      ((known : IsKnownProgram g kinds fronts.program fronts.begins) →
      Keeps g kinds known.program.tasks (Fulfils g kinds known.program.tasks aim) ks fronts.kept → P known.program.tasks) → P tasks
  by_known P from = subst P hold.by.tasks_are (from hold.by.known held_keeps)

  pub held_begins : (empty : Bool) (count : ℕ) → IsSupplied g kinds → empty ≡ eqb count 0 → count ≡ length fronts.kept →
      IsTrue (not empty) ↔ BeginsSome (Fulfils g kinds tasks aim) ks
  held_begins empty count supplied told counted =
      by_known (λ tasks. IsTrue (not empty) ↔ BeginsSome (Fulfils g kinds tasks aim) ks)
      (λ known keeps. begins_told g kinds known (Fulfils g kinds known.program.tasks aim) fronts.kept keeps empty count supplied told counted)

  pub held_ends : Any (λ r. AllByRecursion (MayBePassed fronts.begins) r.rest) fronts.kept ↔ EndsSome (Fulfils g kinds tasks aim) ks
  held_ends = (
    λ some.
        by_known (λ tasks. EndsSome (Fulfils g kinds tasks aim) ks)
        (λ known keeps. ends_whole g kinds known (Fulfils g kinds known.program.tasks aim) fronts.kept keeps some),
    by_known (λ tasks. EndsSome (Fulfils g kinds tasks aim) ks → Any (λ r. AllByRecursion (MayBePassed fronts.begins) r.rest) fronts.kept)
        (λ known keeps whole. whole_ends g kinds known (Fulfils g kinds known.program.tasks aim) fronts.kept keeps whole),
  )

-- ---- what is found of them without a token

module _ {program : ProgramParts} {begins : BeginsParts} {kept slice : List Front} {fronts : FrontsParts} (due : Due) (lists : Lists)
    (are : parts program begins (map (read lists) kept) ≡ fronts) (same : slice ≡ kept) where
  -- all is known by which they are visited
  pub can_visit : {g : Grammar} {kinds : Kinds} {tasks : List Task} {aim : Aim} {ks : List ℕ} → HoldReadings g kinds tasks aim ks fronts → IsToldDue g due →
      (g : Grammar) × (kinds : Kinds) × (aim : Aim) × (ks : List ℕ) × (known : IsKnownProgram g kinds program begins)
      × AreHeldIn g kinds known.program.tasks aim ks lists slice × IsToldDue g due
  can_visit {g} {kinds} {tasks} {aim} {ks} hold told =
      let here = subst (HoldReadings g kinds tasks aim ks) (sym are) hold in
      let known = here.by.known in (
        g,
        kinds,
        aim,
        ks,
        known,
        subst (AreHeldIn g kinds known.program.tasks aim ks lists) (sym same) (held_keeps _ here),
        told,
      )

  -- and what follows from what is kept and what was found follows over these tasks
  pub by_found : {g : Grammar} {kinds : Kinds} {tasks : List Task} {aim : Aim} {ks : List ℕ} {found : List KeptReading} → HoldReadings g kinds tasks aim ks fronts →
      IsToldDue g due →
      ((g : Grammar) (kinds : Kinds) (aim : Aim) (ks : List ℕ) (known : IsKnownProgram g kinds program begins) →
      AreHeldIn g kinds known.program.tasks aim ks lists slice → IsToldDue g due →
      FindsDue g kinds known.program.tasks (Fulfils g kinds known.program.tasks aim) program due ks found) →
      (P : List Task → Type 0) →
      ((known : IsKnownProgram g kinds program begins) → AreHeldIn g kinds known.program.tasks aim ks lists kept →
      FindsDue g kinds known.program.tasks (Fulfils g kinds known.program.tasks aim) program due ks found → P known.program.tasks) → P tasks
  by_found {g} {kinds} {tasks} {aim} {ks} hold told finds P from =
      by_known _ (subst (HoldReadings g kinds tasks aim ks) (sym are) hold) P
      (λ known keeps.
      from known keeps
      (finds g kinds aim ks known
      (subst (AreHeldIn g kinds known.program.tasks aim ks lists) (sym same) keeps) told))
