-- The cross-references that may come next behind some kinds.
-- Held against the Langium documentation, "Grammar language": cross-references.
use Rattle.std.specs.Prelude.{ℕ, ◌≡◌, List, [], ◌∷◌, ◌++◌, Some, All, Any, slice_get}
use Rattle.lw_grammar.specs.declared.grammar.Grammar.{Grammar}
use Rattle.lw_grammar.specs.declared.rule.Op.{Op}
use Rattle.lw_grammar.specs.declared.rule.Value0.{Value0}
use Rattle.lw_grammar.specs.Kinds.{Kinds}
use Rattle.lw_grammar.specs.Marks.{Mark, Put, End, kinds_of}
use Rattle.lw_reading.specs.Follows.{MakesReference}
use Rattle.lw_look.specs.Sites.{PartSite}
use Rattle.lw_program.specs.Numbered.{put_sites}
use Rattle.lw_program.specs.ProgramOf.{ProgramParts}
use Rattle.lw_program.specs.Says.{Task, Reads}
use Rattle.lw_program.specs.Making.{RecipeLists}
use Rattle.lw_program.specs.Meant.{MeansMark, AreMeant}
use Rattle.lw_program.specs.declared.recipes.mark.TreeMark.TheVariants as numbered
use Rattle.lw_viable.specs.Gives.{PlacesGive}
use Rattle.lw_viable.specs.Readings.{KeptReading, HasTask}
use Rattle.lw_viable.specs.Visiting.{IsReferencePut, PutsFirst}
use Rattle.lw_viable.specs.declared.reference_start.ReferenceStart.{ReferenceStart}

-- the reading stands before the start
pub record IsBeforeStart (program : ProgramParts) (reading : KeptReading) (start : ReferenceStart) : Type 0 where
  pub marks : reading.marks ≡ start.marks
  pub puts : PutsFirst program reading.rest start.put start.value start.behind

module _ (g : Grammar) (kinds : Kinds) (tasks : List Task) where
  -- behind the marks `before` this value is put at the start, and x comes behind: what its place gives, the end, and what those behind give
  pub record StartsAt (before : List Mark) (p : List ℕ) (op : Op) (c : Value0) (x : List Mark) (start : ReferenceStart) : Type 0 where
    pub meant : AreMeant g start.marks before
    pub puts : MeansMark g (numbered.Put start.put) (Put p op c)
    pub inner : List Mark
    pub others : List Mark
    pub value : PlacesGive g kinds tasks (start.value ∷ []) inner
    pub behind : PlacesGive g kinds tasks start.behind others
    pub are : x ≡ inner ++ End ∷ others

  module _ (recipes : RecipeLists) (Whole : List Mark → Type 0) (ks : List ℕ) where
    -- a cross-reference may come next: its marks have the kinds, its put makes a reference, whose text is read at the place of its value, and whatever its
    -- places give makes a whole
    pub record IsReferenceStart (start : ReferenceStart) : Type 0 where
      pub before : List Mark
      pub p : List ℕ
      pub op : Op
      pub c : Value0
      pub meant : AreMeant g start.marks before
      pub puts : MeansMark g (numbered.Put start.put) (Put p op c)
      pub kinds_are : kinds_of before ≡ ks
      pub refers : IsReferencePut recipes start.put
      pub site : PartSite
      pub numbers : slice_get (put_sites g) start.put ≡ Some site
      pub reads : slice_get tasks start.value ≡ Some (Reads site)
      pub value : HasTask g kinds tasks start.value
      pub behind : All (HasTask g kinds tasks) start.behind
      pub whole : (m n : List Mark) → PlacesGive g kinds tasks (start.value ∷ []) m → PlacesGive g kinds tasks start.behind n →
          Whole (before ++ Put p op c ∷ m ++ End ∷ n)

    -- each is one, and every whole in which a reference is put behind these kinds goes on from one of them
    pub record AreReferenceStarts (starts : List ReferenceStart) : Type 0 where
      pub each : All IsReferenceStart starts
      pub all : (before : List Mark) (p : List ℕ) (op : Op) (c : Value0) (x : List Mark) → Whole (before ++ Put p op c ∷ x) → kinds_of before ≡ ks →
          MakesReference op c → Any (StartsAt before p op c x) starts
