-- A parser of a grammar: the grammar's program with all that is told of it, what becomes of what is read, the tables by which ways are
-- chosen, and the entry rule.
-- Held against the textbooks' predictive parser for strong LL(k).
use Rattle.std.specs.Prelude.{ℕ, ◌≡◌, ◌<◌, List, Some, All, length, map, slice_get}
use Rattle.lw_base.specs.declared.token.Token.{Token}
use Rattle.lw_grammar.specs.declared.grammar.Grammar.{Grammar}
use Rattle.lw_grammar.specs.declared.fault.GrammarFault.{GrammarFault}
use Rattle.lw_grammar.specs.declared.rule.Rule.{Rule}
use Rattle.lw_grammar.specs.Kinds.{Kinds, kind_count}
use Rattle.lw_grammar.specs.Named.{IsEntry}
use Rattle.lw_faults.specs.Faults.{IsCheckFault, IsTypeFault}
use Rattle.lw_look.specs.Supplied.{IsSupplied}
use Rattle.lw_program.specs.ProgramOf.{ProgramParts}
use Rattle.lw_program.specs.Making.{RecipeLists, AreRecipesOf}
use Rattle.lw_viable.specs.Told.{BeginsParts}
use Rattle.lw_first.specs.declared.heads.head.Head.{Head}
use Rattle.lw_look.specs.Choices.{choice_sites}
use Rattle.lw_look.specs.Sites.{PartSite}
use Rattle.lw_lookahead.specs.Tables.{AreEntriesAt}
use Rattle.lw_lookahead.specs.declared.kept.Tables.{Tables}
use Rattle.lw_viable.specs.Fronts.{IsKnownProgram}

-- for how many kinds tables are, and for each choice, by its number, heads, each with its way
pub record TableParts : Type 0 where
  pub depth : ℕ
  pub ways : List (List (Head × ℕ))

-- the parts of tables
abbrev pub table_parts : Tables → TableParts
table_parts tables = record { depth = tables.k; ways = map (λ point. point.entries) tables.points.items }

-- a program, what is told of it, what becomes of what is read, the tables for windows of k kinds, and the number of the entry rule
pub record ParserParts : Type 0 where
  pub program : ProgramParts
  pub begins : BeginsParts
  pub recipes : RecipeLists
  pub tables : TableParts
  pub k : ℕ
  pub entry : ℕ

-- the tables have exactly the windows of each choice of the grammar, each with its way
pub record TellWays (g : Grammar) (kinds : Kinds) (k : ℕ) (tables : TableParts) : Type 0 where
  pub depth : tables.depth ≡ k
  pub all : length tables.ways ≡ length (choice_sites g)
  pub each : (n : ℕ) (s : PartSite) (entries : List (Head × ℕ)) → slice_get (choice_sites g) n ≡ Some s → slice_get tables.ways n ≡ Some entries →
      AreEntriesAt g kinds k s entries

module _ (g : Grammar) (kinds : Kinds) (k : ℕ) (parts : ParserParts) where
  -- all of this is that of the grammar
  pub record IsParserOf : Type 0 where
    pub known : IsKnownProgram g kinds parts.program parts.begins
    pub recipes : AreRecipesOf g parts.recipes
    pub tables : TellWays g kinds k parts.tables
    pub depth : parts.k ≡ k
    pub rule : Rule
    pub entry : IsEntry g parts.entry rule

  -- and the grammar has no fault
  pub record ParsesFaultless : Type 0 where
    pub parser : IsParserOf
    pub types : (f : GrammarFault) → ¬ IsTypeFault g f
    pub checks : (f : GrammarFault) → ¬ IsCheckFault g f
    pub supplied : IsSupplied g kinds

-- each token is of one of the kinds
abbrev pub AreOfKinds : Kinds → List Token → Type 0
AreOfKinds kinds tokens = All (λ t. t.kind.0 < kind_count kinds) tokens
