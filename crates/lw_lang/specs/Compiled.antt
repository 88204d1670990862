-- What compiling a root file answers, by what the store holds.
use Rattle.std.specs.Prelude.{ℕ, ◌≡◌, ◌≢◌, List, [], Option, Result, Err}
use Rattle.lw_grammar.specs.declared.grammar.Grammar.{Grammar}
use Rattle.lw_grammar.specs.Kinds.{Kinds, AreKinds}
use Rattle.lw_io.specs.Causes.{Faulted}
use Rattle.lw_load.specs.declared.fault.LoadFault.{LoadFault}
use Rattle.lw_load.specs.declared.fault.LoadFault.TheVariants as loading
use Rattle.lw_load.specs.declared.loader.Loaded.{Loaded}
use Rattle.lw_load.specs.Loading.{Files, Loads}
use Rattle.lw_load.specs.LoadFaults.{Stops, IsOfFiles}
use Rattle.lw_gramcheck.specs.Judging.{IsFaultless}
use Rattle.lw_kinds.specs.Rows.{KindRow, AreKindRowOf}
use Rattle.lw_terminals.specs.declared.fault.TermFault.{TermFault}
use Rattle.lw_terminals.specs.TokenSets as token
use Rattle.lw_terminals.specs.TokenSets.{HasTokens}
use Rattle.lw_look.specs.Looks.{IsLL}
use Rattle.lw_look.specs.Strings.{HasMoreStrings}
use Rattle.lw_lookahead.specs.declared.points.point.TheConstants.{MOST_STRINGS}
use Rattle.lw_lookahead.specs.Conflicts.{CausesNoTables}
use Rattle.lw_lookahead.specs.declared.fault.LookFault.{LookFault}
use Rattle.lw_lang.specs.Judged.{AreAllTold}
use Rattle.lw_lang.specs.ToldLooks.{IsLookToldAs}
use Rattle.lw_lang.specs.declared.told_look.ToldLookFault.{ToldLookFault}
use Rattle.lw_lang.specs.ToldTerms.{IsTermToldAs}
use Rattle.lw_lang.specs.declared.told_term.PatternProblem.TheVariants.{Refused}
use Rattle.lw_lang.specs.declared.told_term.ToldTermFault.{ToldTermFault}
use Rattle.lw_lang.specs.declared.told_term.ToldTermFault.TheVariants.{Pattern}
use Rattle.lw_lang.specs.declared.fault.CompileFault.{CompileFault}
use Rattle.lw_lang.specs.declared.fault.CompileFault.TheVariants.{Load, Faults, Term, Look, NoMemory}

-- the root file and all that it imports say this grammar together, and no other
pub record HoldsGrammar (files : Files) (root : List ℕ) (g : Grammar) : Type 0 where
  pub loaded : Loaded
  pub loads : Loads files root loaded
  pub only : (other : Loaded) → Loads files root other → other ≡ loaded
  pub same : loaded.grammar ≡ g

-- a grammar without a fault that has a set of tokens, whichever patterns a maker lists
pub record HasSoundTokens (g : Grammar) : Type 0 where
  pub faultless : IsFaultless g
  pub tokens : HasTokens g []

-- the next k kinds tell the ways of each choice apart, and the look-ahead strings are not too many
pub record HasTables (g : Grammar) (k : ℕ) : Type 0 where
  pub kinds : Kinds
  pub are : AreKinds g kinds
  pub few : ¬ HasMoreStrings g kinds k MOST_STRINGS
  pub tells : IsLL g kinds k

-- a grammar that has all this
pub record IsClear (g : Grammar) (k : ℕ) : Type 0 where
  pub sound : HasSoundTokens g
  pub tables : HasTables g k

-- the first fault of the files; unless the store failed, they say no grammar
pub record IsNotLoaded (files : Files) (root : List ℕ) (found : LoadFault) : Type 0 where
  pub stops : Stops files root found
  pub told : found ≢ loading.NoMemory
  pub nothing : IsOfFiles found → (other : Loaded) → ¬ Loads files root other

-- A grammar without a fault has no set of tokens, and why is told, where the texts of its files are these and this is the text that
-- the patterns refused last.
pub record HasNoTokens (g : Grammar) (texts : List (List ℕ)) (refused : Option (List ℕ)) (told : ToldTermFault) : Type 0 where
  pub faultless : IsFaultless g
  pub row : KindRow
  pub are_kinds : AreKindRowOf g row
  pub fault : TermFault
  pub cause : token.CausesNoTokens g [] row refused fault
  pub as_told : IsTermToldAs g texts fault told

-- a grammar without a fault and with a set of tokens has no tables, and why is told, where the texts of its files are these
pub record HasNoTables (g : Grammar) (texts : List (List ℕ)) (k : ℕ) (told : ToldLookFault) : Type 0 where
  pub sound : HasSoundTokens g
  pub kinds : Kinds
  pub are : AreKinds g kinds
  pub fault : LookFault
  pub cause : CausesNoTables g kinds k fault
  pub as_told : IsLookToldAs g texts k fault told

-- why each fault comes, by the files, how many kinds may be looked ahead, and the text that the patterns refused last
abbrev pub Causes : Files → List ℕ → ℕ → Option (List ℕ) → CompileFault → Type 0
Causes files root k refused (Load found) = IsNotLoaded files root found
Causes files root k refused (Faults told) = (g : Grammar) × (holds : HoldsGrammar files root g) × AreAllTold g holds.loaded.texts told
Causes files root k refused (Term told) = (g : Grammar) × (holds : HoldsGrammar files root g) × HasNoTokens g holds.loaded.texts refused told
Causes files root k refused (Look told) = (g : Grammar) × (holds : HoldsGrammar files root g) × HasNoTables g holds.loaded.texts k told
Causes files root k refused NoMemory = Unit {0}

-- the same by the grammar and the texts of its files
abbrev pub GrammarCauses : Grammar → List (List ℕ) → ℕ → Option (List ℕ) → CompileFault → Type 0
GrammarCauses g texts k refused (Load found) = ⊥
GrammarCauses g texts k refused (Faults told) = AreAllTold g texts told
GrammarCauses g texts k refused (Term told) = HasNoTokens g texts refused told
GrammarCauses g texts k refused (Look told) = HasNoTables g texts k told
GrammarCauses g texts k refused NoMemory = Unit {0}

-- what may be wrong with a grammar without a fault that has a set of tokens
abbrev pub IsBehindTokens : Grammar → List (List ℕ) → ℕ → CompileFault → Type 0
IsBehindTokens g texts k (Look told) = HasNoTables g texts k told
IsBehindTokens g texts k NoMemory = Unit {0}
IsBehindTokens g texts k _ = ⊥

-- what a fault of loading is handed on as
abbrev pub of_load : LoadFault → CompileFault
of_load loading.NoMemory = NoMemory
of_load found = Load found

-- the count of the store rises where it failed, and stands still at every other answer
abbrev pub CountsStore : {T : Type 0} → ℕ → ℕ → Result T CompileFault → Type 0
CountsStore before now (Err (Load (loading.StoreFault path))) = Faulted before now
CountsStore before now _ = now ≡ before

-- the count of the patterns rises where one was refused, and stands still at every other answer
abbrev pub CountsPatterns : {T : Type 0} → ℕ → ℕ → Result T CompileFault → Type 0
CountsPatterns before now (Err (Term (Pattern terminal Refused))) = Faulted before now
CountsPatterns before now _ = now ≡ before

-- the text that the patterns refused last stays what it was at every answer but that one
abbrev pub KeepsPatterns : {T : Type 0} → Option (List ℕ) → Option (List ℕ) → Result T CompileFault → Type 0
KeepsPatterns before now (Err (Term (Pattern terminal Refused))) = Unit {0}
KeepsPatterns before now _ = now ≡ before
