-- What a list is in which one instruction is written, with room behind.
use Rattle.std.proofs.Common.{◌≡◌, ◌≢◌, ℕ, ◌+◌, ◌<◌, ◌≤◌, List, ◌++◌, Some, length, slice_get, set, replicate, sym, ap, ◌∙◌, arith}
use Rattle.std.proofs.lemmas.List.{length-append, length-set, length-replicate, append-nil}
use Rattle.lw_program.specs.declared.instr.Instr.{Instr}
use Rattle.lw_program.specs.declared.instr.Instr.TheVariants.{End}
use Rattle.lw_program.proofs.Lists.{slice_get_before, slice_get_written, slice_get_beside}

-- this instruction stands at the place, behind all are so many more, and the others stay
pub record IsWritten (place : ℕ) (instr : Instr) (count : ℕ) (old new : List Instr) : Type 0 where
  pub sized : length new ≡ length old + count
  pub here : slice_get new place ≡ Some instr
  pub kept : (p : ℕ) → p < length old → p ≢ place → slice_get new p ≡ slice_get old p

pub written : (place : ℕ) (instr : Instr) (count : ℕ) (old new : List Instr) → place < length old → new ≡ set (old ++ replicate count End) place instr →
    IsWritten place instr count old new
written place instr count old new inside is = record { sized = sized; here = here; kept = kept }
  where
    long : length (old ++ replicate count End) ≡ length old + count
    long = length-append old (replicate count End) ∙ ap (λ n. length old + n) (length-replicate count End)

    sized : length new ≡ length old + count
    sized = ap length is ∙ length-set (old ++ replicate count End) place instr ∙ long

    here : slice_get new place ≡ Some instr
    here =
        let l = long in
        let below : place < length (old ++ replicate count End) = omega (arith, l, inside) in
        ap (λ xs. slice_get xs place) is ∙ slice_get_written (old ++ replicate count End) place instr below

    kept : (p : ℕ) → p < length old → p ≢ place → slice_get new p ≡ slice_get old p
    kept p below other =
        ap (λ xs. slice_get xs p) is
        ∙ slice_get_beside (old ++ replicate count End) place p instr other
        ∙ slice_get_before old (replicate count End) p below End

pub written_there : (place : ℕ) (instr : Instr) (old new : List Instr) → place < length old → new ≡ set old place instr → IsWritten place instr 0 old new
written_there place instr old new inside is = written place instr 0 old new inside (is ∙ ap (λ xs. set xs place instr) (sym (append-nil old)))

-- where so much room is behind all places, so many items find theirs
pub room_behind : {X : Type 0} (place : ℕ) (instr : Instr) (count first : ℕ) (old new : List Instr) (xs : List X) → first ≡ length old →
    new ≡ set (old ++ replicate count End) place instr → count ≡ length xs → first + length xs ≤ length new
room_behind place instr count first old new xs at is counted =
    let a = ap length is ∙ length-set (old ++ replicate count End) place instr in
    let b = length-append old (replicate count End) in
    let c = length-replicate count End in
    omega (arith, a, b, c, at, counted)

pub room_one : (place : ℕ) (instr : Instr) (first : ℕ) (old new : List Instr) → first ≡ length old → new ≡ set (old ++ replicate 1 End) place instr →
    first < length new
room_one place instr first old new at is =
    let a = ap length is ∙ length-set (old ++ replicate 1 End) place instr in let b = length-append old (replicate 1 End) in omega (arith, a, b, at)
