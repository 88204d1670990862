-- How a run of the parser goes on, in words of the code: what is done at a place of the program, and where it gives up.
-- Held against the textbooks' predictive parser, whose stack has what is still to be read.
use Rattle.std.specs.Prelude.{ℕ, ◌≡◌, ◌≢◌, ◌↔◌, ◌+◌, ◌-◌, ◌<◌, ◌≤◌, List, [], ◌∷◌, ◌++◌, Option, Some, None, map, reverse, slice_get}
use Rattle.lw_base.specs.declared.numbers.KindId.{KindId}
use Rattle.lw_base.specs.declared.numbers.PointId.{PointId}
use Rattle.lw_grammar.specs.declared.grammar.Grammar.{Grammar}
use Rattle.lw_grammar.specs.Kinds.{Kinds}
use Rattle.lw_look.specs.Choices.{choice_sites}
use Rattle.lw_look.specs.Looks.{Look, window}
use Rattle.lw_look.specs.Sites.{PartSite}
use Rattle.lw_program.specs.declared.instr.Instr.{Instr}
use Rattle.lw_program.specs.declared.instr.Instr.TheVariants.{Token, End, Shut, Act, Row, Choice, Maybe, Loop, Once, Put, Call}
use Rattle.lw_program.specs.declared.recipes.mark.TreeMark.{TreeMark}
use Rattle.lw_program.specs.declared.recipes.mark.TreeMark.TheVariants as mark
use Rattle.lw_viable.specs.Growing.{Change}
use Rattle.lw_viable.specs.Moves.{side_by_side, left}
use Rattle.lw_viable.specs.Turning.{Enters}
use Rattle.lw_parse.specs.Parsers.{ParserParts, TellWays}
use Rattle.lw_parse.specs.declared.run.Run.{Run}

-- the kinds that are unread, the places that are still to be done, the first first, and the marks that were left
pub record RunState : Type 0 where
  pub parser : ParserParts
  pub unread : List ℕ
  pub to_do : List ℕ
  pub marks : List TreeMark

abbrev pub state_of : Run → RunState
state_of run = record {
  parser = run.parser.now;
  unread = map (λ kind. kind.0) run.unread.now;
  to_do = reverse run.to_do.items;
  marks = run.marks.items;
}

-- these marks were left, these places put before those that are still to be done, and these kinds are then unread
abbrev pub went_on : RunState → List TreeMark → List ℕ → List ℕ → RunState
went_on state marks places unread = record {
  parser = state.parser;
  unread = unread;
  to_do = places ++ state.to_do;
  marks = state.marks ++ marks;
}

module _ (parser : ParserParts) (ks : List ℕ) where
  -- by the tables of any grammar that these are, this is the way that the window of these kinds comes next at
  abbrev pub IsWayBy : PointId → Option ℕ → Type 0
  IsWayBy point way = (g : Grammar) (kinds : Kinds) (s : PartSite) (w : ℕ) → TellWays g kinds parser.k parser.tables →
      slice_get (choice_sites g) point.0 ≡ Some s → (way ≡ Some w) ↔ Look g kinds parser.k s w (window parser.k ks)

  -- the token is read, or the rule is called
  pub data Entered : Option Instr → List TreeMark → List ℕ → List ℕ → Type 0 where
    reads : {k : KindId} {ls : List ℕ} → ks ≡ k.0 ∷ ls → Entered (Some (Token k)) (mark.Token k ∷ []) [] ls
    calls : {r start : ℕ} (change : Change) → slice_get parser.program.starts r ≡ Some (Some start) → Enters parser.begins r start change →
        Entered (Some (Call r)) (left change.0) change.1 ks

  -- there is another token, or the rule is no place of the program
  pub data NotEntered : Option Instr → Type 0 where
    other_token : {k : KindId} → ((ls : List ℕ) → ks ≢ k.0 ∷ ls) → NotEntered (Some (Token k))
    no_start : {r : ℕ} → ((start : ℕ) → slice_get parser.program.starts r ≢ Some (Some start)) → NotEntered (Some (Call r))
    no_call : (i : Option Instr) → ((k : KindId) → i ≢ Some (Token k)) → ((r : ℕ) → i ≢ Some (Call r)) → NotEntered i

  -- what is done at the place p, where this stands there
  pub data TurnsTo (p : ℕ) : Option Instr → List TreeMark → List ℕ → List ℕ → Type 0 where
    reads : {k : KindId} {marks : List TreeMark} {places ls : List ℕ} → Entered (Some (Token k)) marks places ls → TurnsTo p (Some (Token k)) marks places ls
    calls : {r : ℕ} {marks : List TreeMark} {places ls : List ℕ} → Entered (Some (Call r)) marks places ls → TurnsTo p (Some (Call r)) marks places ls
    ends : TurnsTo p (Some End) (mark.End ∷ []) [] ks
    shuts : TurnsTo p (Some Shut) (mark.Shut ∷ []) [] ks
    acts : {n : ℕ} → TurnsTo p (Some (Act n)) (mark.Act n ∷ []) [] ks
    row : {first end : ℕ} → TurnsTo p (Some (Row first end)) [] (side_by_side first (end - first)) ks
    way : {point : PointId} {first end : ℕ} (i : ℕ) → IsWayBy point (Some (i + 1)) → first + i < end →
        TurnsTo p (Some (Choice point first end)) [] ((first + i) ∷ []) ks
    enters_part : {point : PointId} {inner : ℕ} → IsWayBy point (Some 1) → TurnsTo p (Some (Maybe point inner)) [] (inner ∷ []) ks
    passes_part : {point : PointId} {inner : ℕ} → IsWayBy point (Some 2) → TurnsTo p (Some (Maybe point inner)) [] [] ks
    again : {point : PointId} {inner : ℕ} → IsWayBy point (Some 1) → TurnsTo p (Some (Loop point inner)) [] (inner ∷ p ∷ []) ks
    leaves : {point : PointId} {inner : ℕ} → IsWayBy point (Some 2) → TurnsTo p (Some (Loop point inner)) [] [] ks
    once : {point : PointId} {rest inner : ℕ} → slice_get parser.program.code rest ≡ Some (Loop point inner) →
        TurnsTo p (Some (Once rest)) [] (inner ∷ rest ∷ []) ks
    puts : {n first : ℕ} {marks : List TreeMark} {places ls : List ℕ} → Entered (slice_get parser.program.code first) marks places ls →
        TurnsTo p (Some (Put n first)) (mark.Put n ∷ marks) (places ++ (first + 1) ∷ []) ls

  -- nothing can be done where this stands
  pub data GivesUp : Option Instr → Type 0 where
    nothing_there : GivesUp None
    not_read : {k : KindId} → NotEntered (Some (Token k)) → GivesUp (Some (Token k))
    not_called : {r : ℕ} → NotEntered (Some (Call r)) → GivesUp (Some (Call r))
    no_way : {point : PointId} {first end : ℕ} {way : Option ℕ} → IsWayBy point way → ((i : ℕ) → way ≡ Some (i + 1) → end ≤ first + i) →
        GivesUp (Some (Choice point first end))
    neither_part : {point : PointId} {inner : ℕ} {way : Option ℕ} → IsWayBy point way → way ≢ Some 1 → way ≢ Some 2 →
        GivesUp (Some (Maybe point inner))
    neither_again : {point : PointId} {inner : ℕ} {way : Option ℕ} → IsWayBy point way → way ≢ Some 1 → way ≢ Some 2 →
        GivesUp (Some (Loop point inner))
    no_loop : {rest : ℕ} → ((point : PointId) (inner : ℕ) → slice_get parser.program.code rest ≢ Some (Loop point inner)) → GivesUp (Some (Once rest))
    not_put : {n first : ℕ} → NotEntered (slice_get parser.program.code first) → GivesUp (Some (Put n first))
