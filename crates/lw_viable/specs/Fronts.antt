-- What readings are kept over, and what they are asked for.
use Rattle.std.specs.Prelude.{ℕ, ◌≡◌, List, [], ◌∷◌, ◌++◌, if◌then◌else◌, reverse}
use Rattle.lw_base.specs.declared.token.Token.{Token}
use Rattle.lw_grammar.specs.declared.grammar.Grammar.{Grammar}
use Rattle.lw_grammar.specs.Kinds.{Kinds, AreKinds}
use Rattle.lw_viable.specs.Chains.{chain}
use Rattle.lw_program.specs.ProgramOf.{ProgramParts, IsProgramOf}
use Rattle.lw_program.specs.Says.{Task}
use Rattle.lw_program.specs.declared.recipes.mark.TreeMark.{TreeMark}
use Rattle.lw_viable.specs.Told.{BeginsParts, TellsBegins}
use Rattle.lw_viable.specs.Readings.{KeptReading, Keeps}
use Rattle.lw_viable.specs.Aims.{Aim, Fulfils}
use Rattle.lw_viable.specs.declared.front.Front.{Front}

-- a program, what is told of its places, and the readings that are kept
pub record FrontsParts : Type 0 where
  pub program : ProgramParts
  pub begins : BeginsParts
  pub kept : List KeptReading

-- the reading of two lists: its marks, the latest of which stands first there, and its places
abbrev pub reading_of : List (TreeMark × ℕ) → List (ℕ × ℕ) → Front → KeptReading
reading_of marks rests front = record { marks = reverse (chain marks front.marks.0); rest = chain rests front.rest.0 }

-- the kinds of the visible tokens, once one more token was read
abbrev pub seen : List ℕ → Token → List ℕ
seen ks token = if token.hidden then ks else ks ++ token.kind.0 ∷ []

module _ (g : Grammar) (kinds : Kinds) where
  -- the program is one of the grammar, and all is told of it
  pub record IsKnownProgram (parts : ProgramParts) (told : BeginsParts) : Type 0 where
    pub are : AreKinds g kinds
    pub program : IsProgramOf g kinds parts
    pub begins : TellsBegins g kinds program.tasks told

  -- and these tasks stand at its places
  pub record IsProgramWith (tasks : List Task) (parts : ProgramParts) (told : BeginsParts) : Type 0 where
    pub known : IsKnownProgram parts told
    pub tasks_are : known.program.tasks ≡ tasks

  -- these are the readings of the kinds towards the aim by a program of the grammar, at whose places these tasks stand
  pub record HoldReadings (tasks : List Task) (aim : Aim) (ks : List ℕ) (fronts : FrontsParts) : Type 0 where
    pub by : IsProgramWith tasks fronts.program fronts.begins
    pub keeps : Keeps g kinds tasks (Fulfils g kinds tasks aim) ks fronts.kept
