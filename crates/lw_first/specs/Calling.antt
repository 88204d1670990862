-- Which rules a part calls, and a graph in which edges lead from each rule to those that call it, in words of the code.
use Rattle.std.specs.Prelude.{ℕ, ◌≡◌, ◌<◌, List, Some, length, slice_get}
use Rattle.lw_grammar.specs.declared.grammar.Grammar.{Grammar}
use Rattle.lw_grammar.specs.declared.rule.Rule.{Rule}
use Rattle.lw_grammar.specs.Named.{IsRule}
use Rattle.lw_graph.specs.Walks.{Links, HasEdge}
use Rattle.lw_look.specs.Sites.{Part, Body, inner_parts}
use Rattle.lw_look.specs.ReadBy.{PartReadsBy}
use Rattle.lw_kinds.specs.LexiconKnown.{IsKnownLexicon}
use Rattle.lw_first.specs.declared.callers.Caller.{Caller}

module _ (g : Grammar) where
  -- somewhere in the part the rule of this number is called
  pub data HasCall : Part → ℕ → Type 0 where
    here : {x : Part} {r : ℕ} (name : List ℕ) (rule : Rule) → PartReadsBy g x name → IsRule g name r rule → HasCall x r
    inside : {x : Part} {r : ℕ} (y : Part) (i : ℕ) → slice_get (inner_parts x) i ≡ Some y → HasCall y r → HasCall x r

  -- an edge leads to each rule from all that its body calls
  abbrev pub HasAllCalls : Links → Type 0
  HasAllCalls graph = (number : ℕ) (rule : Rule) (r : ℕ) → slice_get g.rules number ≡ Some rule → HasCall (Body rule.body) r → HasEdge graph r number

-- edges to the caller were put in from all of these, and none was lost
pub record AddsCalls (caller : ℕ) (Called : ℕ → Type 0) (old new : Links) : Type 0 where
  pub nodes : new.nodes ≡ old.nodes
  pub keeps : (a b : ℕ) → HasEdge old a b → HasEdge new a b
  pub all : (r : ℕ) → Called r → HasEdge new r caller

-- names are known, and each rule is a node
pub record IsCaller (caller : Caller) (graph : Links) : Type 0 where
  pub lexicon : IsKnownLexicon caller.lexicon
  pub nodes : graph.nodes ≡ length caller.lexicon.g.now.rules
  pub within : caller.number < graph.nodes
