-- What is found where no token is read: the readings at which what is due stands first.
use Rattle.std.specs.Prelude.{ℕ, ◌≡◌, ◌↔◌, ◌<◌, List, [], ◌∷◌, ◌++◌, Some, All, Any, Contains, length, slice_get}
use Rattle.lw_base.specs.declared.numbers.KindId.{KindId}
use Rattle.lw_grammar.specs.declared.grammar.Grammar.{Grammar}
use Rattle.lw_grammar.specs.declared.rule.Op.{Op}
use Rattle.lw_grammar.specs.declared.rule.Value0.{Value0}
use Rattle.lw_grammar.specs.Kinds.{Kinds}
use Rattle.lw_grammar.specs.Marks.{Mark, kinds_of}
use Rattle.lw_grammar.specs.Marks as mark
use Rattle.lw_reading.specs.Follows.{MakesReference}
use Rattle.lw_program.specs.declared.instr.Instr.TheVariants.{Put}
use Rattle.lw_program.specs.declared.instr.Instr.TheVariants as instr
use Rattle.lw_program.specs.ProgramOf.{ProgramParts}
use Rattle.lw_program.specs.Says.{Task}
use Rattle.lw_program.specs.Making.{RecipeLists, IsReference, AreRecipesOf}
use Rattle.lw_program.specs.Meant.{AreMeant}
use Rattle.lw_program.specs.declared.recipes.mark.TreeMark.{TreeMark}
use Rattle.lw_program.specs.declared.recipes.mark.TreeMark.TheVariants as numbered
use Rattle.lw_program.specs.declared.recipes.recipe.ValueRecipe.{ValueRecipe}
use Rattle.lw_viable.specs.Gives.{PlacesGive}
use Rattle.lw_viable.specs.Readings.{KeptReading, IsAhead}
use Rattle.lw_viable.specs.Growing.{read}
use Rattle.lw_viable.specs.declared.front.Front.{Front}
use Rattle.lw_viable.specs.declared.lists.Lists.{Lists}
use Rattle.lw_viable.specs.declared.due.Due.{Due}
use Rattle.lw_viable.specs.declared.due.Due.TheVariants.{Nothing, End, Reference}

-- the recipe of the put of this number is that of a reference
pub record IsReferencePut (recipes : RecipeLists) (put : ℕ) : Type 0 where
  pub recipe : ValueRecipe
  pub made : slice_get recipes.made put ≡ Some recipe
  pub refers : IsReference recipe.content

-- at the first place a value of this number is put, which is read at the place `value`, and these places are behind
pub record PutsFirst (program : ProgramParts) (rest : List ℕ) (put value : ℕ) (behind : List ℕ) : Type 0 where
  pub place : ℕ
  pub are : rest ≡ place ∷ behind
  pub at : slice_get program.code place ≡ Some (Put put value)

abbrev pub StandsBeforePut : ProgramParts → List ℕ → Type 0
StandsBeforePut program rest = (put : ℕ) × (value : ℕ) × (behind : List ℕ) × PutsFirst program rest put value behind

-- at the first place a value ends, and these places are behind
pub record EndsFirst (program : ProgramParts) (rest : List ℕ) : Type 0 where
  pub place : ℕ
  pub behind : List ℕ
  pub are : rest ≡ place ∷ behind
  pub at : slice_get program.code place ≡ Some instr.End

-- what is due stands first in what is to be done: nothing is left, a value ends, or a reference is put
abbrev pub StandsFirst : ProgramParts → Due → List ℕ → Type 0
StandsFirst program Nothing rest = rest ≡ []
StandsFirst program End rest = EndsFirst program rest
StandsFirst program (Reference recipes) rest =
    (put : ℕ) × (value : ℕ) × (behind : List ℕ) × PutsFirst program rest put value behind × IsReferencePut recipes.now put

-- where a value is put at the first place there is a recipe for it
abbrev pub AreNumbered : ProgramParts → Due → List ℕ → Type 0
AreNumbered program Nothing rest = Unit {0}
AreNumbered program End rest = Unit {0}
AreNumbered program (Reference recipes) rest = (put value : ℕ) (behind : List ℕ) → PutsFirst program rest put value behind → put < length recipes.now.made

-- The front is put behind the others where what is due stands first, and nowhere else.
pub data IsNoted (program : ProgramParts) (due : Due) (lists : Lists) (front : Front) (before after : List Front) : Type 0 where
  noted : StandsFirst program due (read lists front).rest → after ≡ before ++ front ∷ [] → IsNoted program due lists front before after
  passed : ¬ StandsFirst program due (read lists front).rest → after ≡ before → IsNoted program due lists front before after

-- what is due begins these marks: they are none, a value ends, or a value is put that makes a reference
abbrev pub BeginsDue : Due → List Mark → Type 0
BeginsDue Nothing m = m ≡ []
BeginsDue End m = (n : List Mark) × (m ≡ mark.End ∷ n)
BeginsDue (Reference recipes) m = (p : List ℕ) × (op : Op) × (c : Value0) × (x : List Mark) × (m ≡ mark.Put p op c ∷ x) × MakesReference op c

-- the recipes by which a reference is told are those of the grammar
abbrev pub IsToldDue : Grammar → Due → Type 0
IsToldDue g Nothing = Unit {0}
IsToldDue g End = Unit {0}
IsToldDue g (Reference recipes) = AreRecipesOf g recipes.now

module _ (g : Grammar) (kinds : Kinds) (tasks : List Task) where
  -- the marks of the reading mean the first of these, and its places give the others
  pub record Arrives (before behind : List Mark) (reading : KeptReading) : Type 0 where
    pub meant : AreMeant g reading.marks before
    pub gives : PlacesGive g kinds tasks reading.rest behind

  module _ (Whole : List Mark → Type 0) (program : ProgramParts) (due : Due) (ks : List ℕ) where
    abbrev pub IsFound : KeptReading → Type 0
    IsFound reading = IsAhead g kinds tasks Whole ks reading × StandsFirst program due reading.rest

    -- each is one at which what is due stands first, and every whole in which it comes behind these kinds goes on from one of them there
    pub record FindsDue (found : List KeptReading) : Type 0 where
      pub each : All IsFound found
      pub all : (before behind : List Mark) → Whole (before ++ behind) → kinds_of before ≡ ks → BeginsDue due behind → Any (Arrives before behind) found

-- ---- ends behind a token, in words of the code

-- the last of the marks is a token
abbrev pub EndsWithToken : List TreeMark → Type 0
EndsWithToken marks = (before : List TreeMark) × (kind : KindId) × (marks ≡ before ++ numbered.Token kind ∷ [])

-- the marks end with a token, and the end of a value is put behind them
abbrev pub IsEnded : List TreeMark → List TreeMark → Type 0
IsEnded marks ended = EndsWithToken marks × (ended ≡ marks ++ numbered.End ∷ [])

-- what is so made of these, and nothing else
abbrev pub AreEnded : List (List TreeMark) → List (List TreeMark) → Type 0
AreEnded all made = (ended : List TreeMark) → Contains made ended ↔ Any (λ marks. IsEnded marks ended) all

-- these, and behind them what is so made of the others
abbrev pub AreWithEnded : List (List TreeMark) → List (List TreeMark) → List (List TreeMark) → Type 0
AreWithEnded kept others all = (ended : List (List TreeMark)) × AreEnded others ended × (all ≡ kept ++ ended)
