-- The marks that places of a program give.
use Rattle.std.specs.Prelude.{ℕ, ◌≡◌, ◌⊎◌, List, [], ◌∷◌, ◌++◌, Some, false, slice_get}
use Rattle.lw_grammar.specs.declared.grammar.Grammar.{Grammar}
use Rattle.lw_grammar.specs.declared.rule.Rule.{Rule}
use Rattle.lw_grammar.specs.declared.rule.Value0.{Value0}
use Rattle.lw_grammar.specs.Kinds.{Kinds}
use Rattle.lw_grammar.specs.Nodes.{MakesNodes}
use Rattle.lw_grammar.specs.Marks.{Mark, kinds_of}
use Rattle.lw_grammar.specs.Yields.{ValueYields, RuleGives}
use Rattle.lw_look.specs.Sites.{PartSite, Value, IsPartAt}
use Rattle.lw_look.specs.Things.{Thing, ThingGives}
use Rattle.lw_program.specs.Says.{Task, Does, Reads}

-- a call of the rule is a node of its own
abbrev pub OpensNode : Grammar → Rule → Type 0
OpensNode g rule = (rule.is_fragment ≡ false) × MakesNodes g rule

module _ (g : Grammar) (kinds : Kinds) where
  -- the marks that a task may give: those of a thing, or those of the text of a value
  pub data TaskGives : Task → List Mark → Type 0 where
    does : {x : Thing} {m : List Mark} → ThingGives g kinds x m → TaskGives (Does x) m
    reads : {s : PartSite} {v c : Value0} {m : List Mark} → IsPartAt g s (Value v) → ValueYields g kinds v c m → TaskGives (Reads s) m

  -- the marks that places, done one after another, may give, where these tasks stand at the places
  pub data PlacesGive (tasks : List Task) : List ℕ → List Mark → Type 0 where
    nothing : PlacesGive tasks [] []
    more : {p : ℕ} {t : Task} {rest : List ℕ} {m n : List Mark} → slice_get tasks p ≡ Some t → TaskGives t m → PlacesGive tasks rest n →
        PlacesGive tasks (p ∷ rest) (m ++ n)

  -- the task may be done without a token
  abbrev pub MayBeEmpty : Task → Type 0
  MayBeEmpty t = (m : List Mark) × TaskGives t m × (kinds_of m ≡ [])

  -- what a call of the rule reads begins with a token of this kind, or it may read none: so a token of the kind may come next where the
  -- rule is called
  abbrev pub MayMeet : ℕ → Rule → ℕ → Type 0
  MayMeet r rule k = (m : List Mark) × RuleGives g kinds r rule m × ((kinds_of m ≡ []) ⊎ ((ls : List ℕ) × (kinds_of m ≡ k ∷ ls)))
