-- How a fault of keywords and terminals is told: by the path of the file and the position there.
-- Positions are those of LSP 3.17, "Position".
use Rattle.std.specs.Prelude.{ℕ, ◌≡◌, ◌+◌, List, [], ◌∷◌, Some, length, slice_get}
use Rattle.lw_base.specs.declared.numbers.RuleId.{RuleId}
use Rattle.lw_base.specs.declared.token.Span.{Span}
use Rattle.lw_grammar.specs.declared.grammar.Grammar.{Grammar}
use Rattle.lw_grammar.specs.declared.terminal.Terminal.{Terminal}
use Rattle.lw_load.specs.Standing.{AreIn}
use Rattle.lw_text.specs.Position.{IsPosition}
use Rattle.lw_terminals.specs.declared.fault.TermFault.{TermFault}
use Rattle.lw_terminals.specs.declared.fault.TermFault.TheVariants.{TooManyKinds, KeywordBlank, PatternLong, PatternRefused, EmptyMatch, NoMemory}
use Rattle.lw_lang.specs.declared.told_term.FilePlace.{FilePlace}
use Rattle.lw_lang.specs.declared.told_term.ToldTerminal.{ToldTerminal}
use Rattle.lw_lang.specs.declared.told_term.PatternProblem.TheVariants as problem
use Rattle.lw_lang.specs.declared.told_term.ToldTermFault.{ToldTermFault}
use Rattle.lw_lang.specs.declared.told_term.ToldTermFault.TheVariants as told
use Rattle.lw_lang.specs.declared.fault.CompileFault.{CompileFault}
use Rattle.lw_lang.specs.declared.fault.CompileFault.TheVariants as compile

-- where the texts of the grammar's files are these
module _ (g : Grammar) (texts : List (List ℕ)) where
  -- the place is told by the path of its file and where it begins there
  pub record IsPlacedAs (file : ℕ) (span : Span) (place : FilePlace) : Type 0 where
    pub path : slice_get g.files file ≡ Some place.path
    pub text : List ℕ
    pub there : slice_get texts file ≡ Some text
    pub begins : IsPosition text span.start place.at

  -- the terminal of this number among rules and terminals is told by its name, and by where its name begins
  pub record IsTerminalToldAs (rule : RuleId) (told : ToldTerminal) : Type 0 where
    pub same : told.rule ≡ rule
    pub number : ℕ
    pub behind : rule.0 ≡ length g.rules + number
    pub terminal : Terminal
    pub there : slice_get g.terminals number ≡ Some terminal
    pub named : told.name ≡ terminal.name
    pub placed : IsPlacedAs terminal.file terminal.span told.place

  pub data IsTermToldAs : TermFault → ToldTermFault → Type 0 where
    kinds : {n : ℕ} → IsTermToldAs (TooManyKinds n) (told.TooManyKinds n)
    keyword : {file : ℕ} {span : Span} {place : FilePlace} → IsPlacedAs file span place → IsTermToldAs (KeywordBlank file span) (told.KeywordBlank place)
    long : {rule : RuleId} {bytes : ℕ} {terminal : ToldTerminal} → IsTerminalToldAs rule terminal →
        IsTermToldAs (PatternLong rule bytes) (told.Pattern terminal (problem.Long bytes))
    refused : {rule : RuleId} {terminal : ToldTerminal} → IsTerminalToldAs rule terminal → IsTermToldAs (PatternRefused rule) (told.Pattern terminal problem.Refused)
    matches_empty : {rule : RuleId} {terminal : ToldTerminal} → IsTerminalToldAs rule terminal →
        IsTermToldAs (EmptyMatch rule) (told.Pattern terminal problem.MatchesEmpty)

  -- the terminal of this number among rules and terminals
  abbrev pub IsTerminalNumber : RuleId → Type 0
  IsTerminalNumber rule = (number : ℕ) × (terminal : Terminal) × (rule.0 ≡ length g.rules + number) × (slice_get g.terminals number ≡ Some terminal)

  -- the fault speaks of a place in the text of its file, or of a terminal of the grammar
  abbrev pub CanBeTold : TermFault → Type 0
  CanBeTold (TooManyKinds n) = Unit {0}
  CanBeTold (KeywordBlank file span) = AreIn texts file (span ∷ [])
  CanBeTold (PatternLong rule bytes) = IsTerminalNumber rule
  CanBeTold (PatternRefused rule) = IsTerminalNumber rule
  CanBeTold (EmptyMatch rule) = IsTerminalNumber rule
  CanBeTold NoMemory = Unit {0}

  -- the fault as it is told, or there was no memory before
  abbrev pub IsToldOr : TermFault → CompileFault → Type 0
  IsToldOr fault (compile.Term told) = IsTermToldAs fault told
  IsToldOr fault compile.NoMemory = fault ≡ NoMemory
  IsToldOr fault _ = ⊥
