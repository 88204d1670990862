-- The changes that are put on at a place are its moves, all but those that come to no token of the kind that is sought, if one is.
use Rattle.std.proofs.Common.{◌≡◌, ◌≢◌, inl, inr, ℕ, zero, suc, ◌+◌, ◌-◌, ◌<◌, ◌≤◌, List, [], ◌∷◌, Option, Some, None, All, Contains, true, map, slice_get, refl, sym, ap, ◌∙◌, subst, arith}
use Rattle.std.proofs.lemmas.Bool.{cases_lt}
use Rattle.std.proofs.lemmas.List.Elements.{All-nil, All-cons, All-same, All-map}
use Rattle.lw_base.specs.declared.numbers.KindId.{KindId}
use Rattle.lw_base.specs.declared.numbers.PointId.{PointId}
use Rattle.lw_program.specs.declared.instr.Instr.{Instr}
use Rattle.lw_program.specs.declared.instr.Instr.TheVariants.{Token, End, Shut, Act, Row, Choice, Maybe, Loop, Once, Put, Call}
use Rattle.lw_program.specs.ProgramOf.{ProgramParts}
use Rattle.lw_program.specs.declared.recipes.mark.TreeMark.{TreeMark}
use Rattle.lw_program.specs.declared.recipes.mark.TreeMark.TheVariants as numbered
use Rattle.lw_viable.specs.Told.{BeginsParts}
use Rattle.lw_viable.specs.Moves.{side_by_side, MovesBy}
use Rattle.lw_viable.specs.Moves as move
use Rattle.lw_viable.specs.Growing.{Change}
use Rattle.lw_viable.specs.Turning.{way_change, Enters, LoopsOnce, ReadsToken, Misses, AreRead, IsCalled, AreQuiet}
use Rattle.lw_viable.specs.Turning as turn
use Rattle.lw_viable.proofs.Moves.Beside.{all_beside}

-- no token is read
abbrev pub IsQuiet : Option TreeMark → Type 0
IsQuiet (Some (numbered.Token k)) = ⊥
IsQuiet _ = Unit {0}

contains_as : {X : Type 0} {xs ys : List X} {x : X} → xs ≡ ys → Contains ys x → Contains xs x
contains_as {x} same has = subst (λ xs. Contains xs x) (sym same) has

abbrev loops : ℕ → ℕ → Change
loops rest inner = (None, inner ∷ rest ∷ [])

first_of : {X : Type 0} (x : X) (xs : List X) → Contains (x ∷ xs) x
first_of x xs = (0, omega arith, refl)

second_of : {X : Type 0} (x y : X) (xs : List X) → Contains (x ∷ y ∷ xs) y
second_of x y xs = (1, omega arith, refl)

way_put : (first count w : ℕ) → first ≤ w → w < first + count → Contains (map way_change (side_by_side first count)) (way_change w)
way_put first zero w from below = absurd (omega arith)
way_put first (suc count) w from below = elim (cases_lt first w) [
  | inl past ↦ let (k, within, is) = way_put (first + 1) count w (omega arith) (omega arith) in (suc k, omega arith, is)
  | inr before ↦
      let same : first ≡ w = omega arith in
      subst (λ w. Contains (map way_change (side_by_side first (suc count))) (way_change w)) same (first_of (way_change first) (map way_change (side_by_side (first + 1) count)))
]

module _ (program : ProgramParts) (told : BeginsParts) (kind : Option KindId) (p : ℕ) where
  -- ---- each change is a move

  -- by a move that reads no token, and by one that reads one of this kind
  abbrev pub IsQuietMove : Change → Type 0
  IsQuietMove change = MovesBy program told.nodes p change.0 change.1 × IsQuiet change.0

  pub record IsTokenMove (change : Change) : Type 0 where
    pub read : KindId
    pub at : slice_get program.code p ≡ Some (Token read)
    pub same : kind ≡ Some read
    pub is : change ≡ (Some (numbered.Token read), [])

  one_quiet : {changes : List Change} (change : Change) → IsQuietMove change → changes ≡ change ∷ [] → All IsQuietMove changes
  one_quiet {changes} change is same = All-same IsQuietMove changes (change ∷ []) same (All-cons IsQuietMove change [] is (All-nil IsQuietMove))

  two_quiet : {changes : List Change} (change other : Change) → IsQuietMove change → IsQuietMove other → changes ≡ change ∷ other ∷ [] →
      All IsQuietMove changes
  two_quiet {changes} change other is also same =
      All-same IsQuietMove changes (change ∷ other ∷ []) same
      (All-cons IsQuietMove change (other ∷ []) is (All-cons IsQuietMove other [] also (All-nil IsQuietMove)))

  none_quiet : {changes : List Change} → changes ≡ [] → All IsQuietMove changes
  none_quiet {changes} same = All-same IsQuietMove changes [] same (All-nil IsQuietMove)

  entered_quietly : {r start : ℕ} {change : Change} → slice_get program.code p ≡ Some (Call r) → slice_get program.starts r ≡ Some (Some start) →
      Enters told r start change → IsQuietMove change
  entered_quietly at starts (turn.opens flag) = (move.opens at starts flag, tt)
  entered_quietly at starts (turn.goes no_flag) = (move.calls at starts no_flag, tt)

  called_quietly : {r : ℕ} {changes : List Change} → slice_get program.code p ≡ Some (Call r) → IsCalled program told kind r changes → All IsQuietMove changes
  called_quietly at (turn.misses misses) = All-nil IsQuietMove
  called_quietly at (turn.nowhere none) = All-nil IsQuietMove
  called_quietly at (turn.enters {change} starts enters) = one_quiet change (entered_quietly at starts enters) refl

  looped_quietly : {rest : ℕ} {changes : List Change} → slice_get program.code p ≡ Some (Once rest) → LoopsOnce program rest changes → All IsQuietMove changes
  looped_quietly at (turn.body loop) = one_quiet _ (move.once at loop, tt) refl
  looped_quietly at (turn.nowhere none) = All-nil IsQuietMove

  pub quiet_moves : (changes : List Change) (i : Option Instr) → slice_get program.code p ≡ i → AreQuiet program told kind p i changes → All IsQuietMove changes
  quiet_moves changes None at are = none_quiet are
  quiet_moves changes (Some (Token k)) at are = none_quiet are
  quiet_moves changes (Some End) at are = one_quiet _ (move.ends at, tt) are
  quiet_moves changes (Some Shut) at are = one_quiet _ (move.shuts at, tt) are
  quiet_moves changes (Some (Act n)) at are = one_quiet _ (move.acts at, tt) are
  quiet_moves changes (Some (Row first end)) at are = one_quiet _ (move.row at, tt) are
  quiet_moves changes (Some (Choice point first end)) at are =
      All-same IsQuietMove changes (map way_change (side_by_side first (end - first))) are
      (All-map IsQuietMove way_change (side_by_side first (end - first))
      (all_beside (λ w. IsQuietMove (way_change w)) first (end - first) (λ i below. (move.way (first + i) at (omega arith) (omega arith), tt))))
  quiet_moves changes (Some (Maybe point inner)) at are = two_quiet _ _ (move.passes at, tt) (move.enters at, tt) are
  quiet_moves changes (Some (Loop point inner)) at are = two_quiet _ _ (move.leaves at, tt) (move.again at, tt) are
  quiet_moves changes (Some (Once rest)) at are = looped_quietly at are
  quiet_moves changes (Some (Put n first)) at are = one_quiet _ (move.puts at, tt) are
  quiet_moves changes (Some (Call r)) at are = called_quietly at are

  token_read : {k : KindId} {changes : List Change} → slice_get program.code p ≡ Some (Token k) → ReadsToken kind k changes → All IsTokenMove changes
  token_read {k} at (turn.it same) = All-cons IsTokenMove _ [] (record { read = k; at = at; same = same; is = refl }) (All-nil IsTokenMove)
  token_read at (turn.other apart) = All-nil IsTokenMove

  none_read : {changes : List Change} → changes ≡ [] → All IsTokenMove changes
  none_read {changes} same = All-same IsTokenMove changes [] same (All-nil IsTokenMove)

  pub token_moves : (changes : List Change) (i : Option Instr) → slice_get program.code p ≡ i → AreRead kind i changes → All IsTokenMove changes
  token_moves changes (Some (Token k)) at are = token_read at are
  token_moves changes _ at are = none_read are

  -- ---- and each move is a change, or comes to no token of the kind

  pub data IsPut (quiet tokens : List Change) : Change → Type 0 where
    quietly : {change : Change} → Contains quiet change → IsPut quiet tokens change
    by_token : {change : Change} → Contains tokens change → IsPut quiet tokens change
    misread : {k : KindId} {ps : List ℕ} → kind ≢ Some k → IsPut quiet tokens (Some (numbered.Token k), ps)
    missed : {r : ℕ} {change : Change} → slice_get program.code p ≡ Some (Call r) → Misses told kind r → IsPut quiet tokens change

  module _ (quiet tokens : List Change) (are_quiet : AreQuiet program told kind p (slice_get program.code p) quiet)
      (are_read : AreRead kind (slice_get program.code p) tokens) where
    at_quiet : {i : Option Instr} → slice_get program.code p ≡ i → AreQuiet program told kind p i quiet
    at_quiet at = subst (λ i. AreQuiet program told kind p i quiet) at are_quiet

    token_put : {k : KindId} {changes : List Change} → ReadsToken kind k changes → changes ≡ tokens → IsPut quiet tokens (Some (numbered.Token k), [])
    token_put (turn.it same) are = by_token (contains_as (sym are) (first_of _ []))
    token_put (turn.other apart) are = misread apart

    loop_put : {rest inner : ℕ} {point : PointId} {changes : List Change} → LoopsOnce program rest changes → slice_get program.code rest ≡ Some (Loop point inner) →
        changes ≡ quiet → IsPut quiet tokens (None, inner ∷ rest ∷ [])
    loop_put {rest} {inner} (turn.body {inner = other} loop) here are =
        let both = sym loop ∙ here in
        let same : other ≡ inner = cc in
        quietly (contains_as (sym are) (subst (λ o. Contains (loops rest o ∷ []) (loops rest inner)) (sym same) (first_of (loops rest inner) [])))
    loop_put (turn.nowhere none) here are = absurd (none _ _ here)

    opened : {r start : ℕ} {change : Change} → Enters told r start change → slice_get told.nodes r ≡ Some true →
        change ≡ (Some (numbered.Open (record { 0 = r })), start ∷ (start + 1) ∷ [])
    opened (turn.opens flag') flag = refl
    opened (turn.goes no_flag) flag = absurd (no_flag flag)

    gone : {r start : ℕ} {change : Change} → Enters told r start change → ¬ (slice_get told.nodes r ≡ Some true) → change ≡ (None, start ∷ [])
    gone (turn.opens flag) no_flag = absurd (no_flag flag)
    gone (turn.goes no_flag') no_flag = refl

    open_put : {r start : ℕ} {changes : List Change} → IsCalled program told kind r changes → slice_get program.code p ≡ Some (Call r) →
        slice_get program.starts r ≡ Some (Some start) → slice_get told.nodes r ≡ Some true → changes ≡ quiet →
        IsPut quiet tokens (Some (numbered.Open (record { 0 = r })), start ∷ (start + 1) ∷ [])
    open_put (turn.misses misses) at starts flag are = missed at misses
    open_put (turn.nowhere none) at starts flag are = absurd (none _ starts)
    open_put {r} {start} (turn.enters {start = other} {change} there enters) at starts flag are =
        let both = sym there ∙ starts in
        let same : other ≡ start = cc in
        quietly (subst (Contains quiet) (opened enters flag ∙ ap (λ s. (Some (numbered.Open (record { 0 = r })), s ∷ (s + 1) ∷ [])) same) (contains_as (sym are) (first_of change [])))

    call_put : {r start : ℕ} {changes : List Change} → IsCalled program told kind r changes → slice_get program.code p ≡ Some (Call r) →
        slice_get program.starts r ≡ Some (Some start) → ¬ (slice_get told.nodes r ≡ Some true) → changes ≡ quiet → IsPut quiet tokens (None, start ∷ [])
    call_put (turn.misses misses) at starts no_flag are = missed at misses
    call_put (turn.nowhere none) at starts no_flag are = absurd (none _ starts)
    call_put {start} (turn.enters {start = other} {change} there enters) at starts no_flag are =
        let both = sym there ∙ starts in
        let same : other ≡ start = cc in
        quietly (subst (Contains quiet) (gone enters no_flag ∙ ap (λ s. (None, s ∷ [])) same) (contains_as (sym are) (first_of change [])))

    pub each_put : {l : Option TreeMark} {ps : List ℕ} → MovesBy program told.nodes p l ps → IsPut quiet tokens (l, ps)
    each_put (move.token at) = token_put (subst (λ i. AreRead kind i tokens) at are_read) refl
    each_put (move.ends at) = quietly (contains_as (at_quiet at) (first_of _ []))
    each_put (move.shuts at) = quietly (contains_as (at_quiet at) (first_of _ []))
    each_put (move.acts at) = quietly (contains_as (at_quiet at) (first_of _ []))
    each_put (move.row at) = quietly (contains_as (at_quiet at) (first_of _ []))
    each_put (move.way {first} {end} w at from below) = quietly (contains_as (at_quiet at) (way_put first (end - first) w from (omega arith)))
    each_put (move.enters at) = quietly (contains_as (at_quiet at) (second_of _ _ []))
    each_put (move.passes {inner} at) = quietly (contains_as (at_quiet at) (first_of _ (way_change inner ∷ [])))
    each_put (move.again at) = quietly (contains_as (at_quiet at) (second_of _ _ []))
    each_put (move.leaves {inner} at) = quietly (contains_as (at_quiet at) (first_of _ (loops p inner ∷ [])))
    each_put (move.once at loop) = loop_put (at_quiet at) loop refl
    each_put (move.puts at) = quietly (contains_as (at_quiet at) (first_of _ []))
    each_put (move.opens at starts flag) = open_put (at_quiet at) at starts flag refl
    each_put (move.calls at starts no_flag) = call_put (at_quiet at) at starts no_flag refl
