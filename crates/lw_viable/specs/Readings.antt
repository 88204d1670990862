-- The readings of a list of kinds, as they are kept: the marks of each up to its last token, and the places that are still to be done.
-- Held against the textbooks' viable prefixes: what is kept are all beginnings of wholes that have these kinds, and no others.
use Rattle.std.specs.Prelude.{ℕ, ◌≡◌, List, [], ◌∷◌, ◌++◌, Any, All, Some, slice_get}
use Rattle.lw_grammar.specs.declared.grammar.Grammar.{Grammar}
use Rattle.lw_grammar.specs.declared.rule.Element.{Element}
use Rattle.lw_grammar.specs.declared.rule.Op.{Op}
use Rattle.lw_grammar.specs.declared.rule.Value0.{Value0}
use Rattle.lw_grammar.specs.Kinds.{Kinds}
use Rattle.lw_grammar.specs.Reached.{IsReached}
use Rattle.lw_base.specs.declared.numbers.KindId.{KindId}
use Rattle.lw_base.specs.declared.numbers.RuleId.{RuleId}
use Rattle.lw_grammar.specs.Marks.{Mark, kinds_of}
use Rattle.lw_look.specs.Sites.{PartSite, rule_of, Body, Value, IsPartAt, RepeatedAt}
use Rattle.lw_look.specs.Things.{Do, Assigned, Again, Leave}
use Rattle.lw_program.specs.Says.{Task, Does, Reads}
use Rattle.lw_program.specs.declared.recipes.mark.TreeMark.{TreeMark}
use Rattle.lw_program.specs.declared.recipes.mark.TreeMark.TheVariants as numbered
use Rattle.lw_program.specs.Meant.{AssignedAt, AreMeant}
use Rattle.lw_viable.specs.Gives.{PlacesGive}

-- the marks that were left, and the places that are still to be done, one after another
pub record KeptReading : Type 0 where
  pub marks : List TreeMark
  pub rest : List ℕ

module _ (g : Grammar) where
  -- the task is at a part of a rule that can be reached; a value is assigned there by what the task says
  pub data IsPlacedTask : Task → Type 0 where
    element : {s : PartSite} {e : Element} → IsPartAt g s (Body e) → IsReached g (rule_of s) → IsPlacedTask (Does (Do s))
    assigned : {p : List ℕ} {op : Op} {s : PartSite} {v : Value0} → IsPartAt g s (Value v) → AssignedAt g s p op → IsReached g (rule_of s) →
        IsPlacedTask (Does (Assigned p op s))
    again : {s : PartSite} {e : Element} → RepeatedAt g s e → IsReached g (rule_of s) → IsPlacedTask (Does (Again s))
    leaves : {l : Mark} → IsPlacedTask (Does (Leave l))
    reads : {s : PartSite} {v : Value0} → IsPartAt g s (Value v) → IsReached g (rule_of s) → IsPlacedTask (Reads s)

module _ (g : Grammar) (kinds : Kinds) (tasks : List Task) where
  -- m begins with the marks of the reading, and goes on with what its places give
  pub record GoesOnFrom (m : List Mark) (reading : KeptReading) : Type 0 where
    pub front : List Mark
    pub others : List Mark
    pub meant : AreMeant g reading.marks front
    pub gives : PlacesGive g kinds tasks reading.rest others
    pub are : m ≡ front ++ others

  -- the marks are those of the start, where nothing was read, or end with a token
  pub data IsCutReading : List ℕ → List TreeMark → Type 0 where
    unmarked : IsCutReading [] []
    opened : (r : RuleId) → IsCutReading [] (numbered.Open r ∷ [])
    token : {k : ℕ} {ks : List ℕ} (marks : List TreeMark) (kind : KindId) → IsCutReading (k ∷ ks) (marks ++ numbered.Token kind ∷ [])

  -- the place has a task of a rule that can be reached
  abbrev pub HasTask : ℕ → Type 0
  HasTask p = (t : Task) × (slice_get tasks p ≡ Some t) × IsPlacedTask g t

  -- towards wholes, which are these lists of marks
  module _ (Whole : List Mark → Type 0) where
    -- what is known of one reading of these kinds: it goes on to wholes alone, and it has the kinds
    pub record IsAhead (ks : List ℕ) (reading : KeptReading) : Type 0 where
      pub sound : (m : List Mark) → GoesOnFrom m reading → Whole m
      pub front : List Mark
      pub meant : AreMeant g reading.marks front
      pub kinds_are : kinds_of front ≡ ks
      pub placed : All HasTask reading.rest

    -- and it is cut behind its last token
    pub record IsKeptReading (ks : List ℕ) (reading : KeptReading) : Type 0 where
      pub ahead : IsAhead ks reading
      pub cut : IsCutReading ks reading.marks

    -- these are the readings of the kinds: each is one, and every whole that begins with the kinds goes on from one of them
    pub record Keeps (ks : List ℕ) (readings : List KeptReading) : Type 0 where
      pub each : All (IsKeptReading ks) readings
      pub all : (m : List Mark) (ls : List ℕ) → Whole m → kinds_of m ≡ ks ++ ls → Any (GoesOnFrom m) readings
