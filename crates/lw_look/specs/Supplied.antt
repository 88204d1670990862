-- What a grammar without faults has: every keyword of a reached rule has a kind, every call gives something, and no choice is without a
-- part.
use Rattle.std.specs.Prelude.{ℕ, ◌≡◌, ◌⊎◌, List, Some, None, false, Contains, slice_get}
use Rattle.lw_base.specs.declared.token.Span.{Span}
use Rattle.lw_grammar.specs.declared.grammar.Grammar.{Grammar}
use Rattle.lw_grammar.specs.declared.rule.Element.{Element, out-Element}
use Rattle.lw_grammar.specs.declared.rule.Element.TheOpen as layer
use Rattle.lw_grammar.specs.declared.rule.Value0.{Value0, out-Value0}
use Rattle.lw_grammar.specs.declared.rule.Value0.TheOpen as value
use Rattle.lw_grammar.specs.declared.rule.Op.{Op}
use Rattle.lw_grammar.specs.declared.rule.Rule.{Rule}
use Rattle.lw_grammar.specs.declared.terminal.Terminal.{Terminal}
use Rattle.lw_grammar.specs.Leaves.{Assign, leaves, Cross, value_leaves}
use Rattle.lw_grammar.specs.Named.{IsRule, IsTerminal}
use Rattle.lw_grammar.specs.NameRules.{IsNameRule}
use Rattle.lw_grammar.specs.Nodes.{MakesNodes}
use Rattle.lw_grammar.specs.Reached.{IsReached, RuleCalls}
use Rattle.lw_grammar.specs.Kinds.{Kinds, IsKeywordKind}
use Rattle.lw_grammar.specs.Marks.{Mark}
use Rattle.lw_grammar.specs.Yields.{Calls}
use Rattle.lw_faults.specs.Derivations.{IsReachedRule}
use Rattle.lw_faults.specs.Reads.{MayRead}
use Rattle.lw_look.specs.Sites.{PartSite, rule_of, Part, Body, Value, IsPartAt}
use Rattle.lw_look.specs.ReadBy.{PartKeyword, PartReadsBy}

module _ (g : Grammar) where
  -- a terminal that is no fragment has this name, or a rule has
  abbrev pub IsKnownCall : List ℕ → Type 0
  IsKnownCall name = ((t : ℕ) × (terminal : Terminal) × IsTerminal g name t terminal × (terminal.is_fragment ≡ false)) ⊎ ((r : ℕ) × (rule : Rule) × IsRule g name r rule)

  -- each choice has a part, as the syntax of grammars has it
  pub record ChoicesHaveParts : Type 0 where
    pub choice : (s : PartSite) (e : Element) (es : List Element) (span : Span) → IsPartAt g s (Body e) →
        out-Element e ≡ layer.Choice es span →
        (f : Element) × (slice_get es 0 ≡ Some f)
    pub value_choice : (s : PartSite) (v : Value0) (vs : List Value0) (span : Span) → IsPartAt g s (Value v) →
        out-Value0 v ≡ value.Choice vs span →
        (w : Value0) × (slice_get vs 0 ≡ Some w)

  -- What is so where no fault of names, calls or endless rules is found: in the rules that can be reached each call is known, each
  -- cross-reference is read by some rule, each body may read some number of tokens.
  pub record LacksNothing : Type 0 where
    pub calls : (r : ℕ) (rule : Rule) (name : List ℕ) → IsReachedRule g r rule → RuleCalls g rule name → IsKnownCall name
    pub crosses : (r : ℕ) (rule : Rule) (p : List ℕ) (op : Op) (v : Value0) (t : Span) (wanted : List ℕ) (s : Span) →
        IsReachedRule g r rule →
        Contains (leaves rule.body) (Assign p op v t) → Contains (value_leaves v) (Cross wanted None s) →
        (name : List ℕ) × IsNameRule g wanted name
    pub ends : (r : ℕ) (rule : Rule) → IsReachedRule g r rule → (n : ℕ) × MayRead g rule.body n
    pub choices : ChoicesHaveParts

  -- It is known of each body whether it may read some number of tokens, and of each type whether a rule reads the names of its nodes.
  pub record ReadingIsTold : Type 0 where
    pub bodies : (r : ℕ) (rule : Rule) → slice_get g.rules r ≡ Some rule → ((n : ℕ) × MayRead g rule.body n) ⊎ ((n : ℕ) → ¬ MayRead g rule.body n)
    pub names : (wanted : List ℕ) → ((name : List ℕ) × IsNameRule g wanted name) ⊎ ((name : List ℕ) → ¬ IsNameRule g wanted name)

  -- it is known of each rule whether it makes nodes
  abbrev pub NodesAreTold : Type 0
  NodesAreTold = (r : ℕ) (rule : Rule) → slice_get g.rules r ≡ Some rule → MakesNodes g rule ⊎ ¬ MakesNodes g rule

module _ (g : Grammar) (kinds : Kinds) where
  -- At the parts of rules that can be reached: every keyword has a kind, every call gives something, every cross-reference has a rule. No
  -- choice is without a part.
  pub record IsSupplied : Type 0 where
    pub keyword : (s : PartSite) (x : Part) (text : List ℕ) → IsReached g (rule_of s) → IsPartAt g s x → PartKeyword x text →
        (k : ℕ) × IsKeywordKind kinds text k
    pub call : (s : PartSite) (x : Part) (name : List ℕ) → IsReached g (rule_of s) → IsPartAt g s x → PartReadsBy g x name →
        (m : List Mark) × Calls g kinds name m
    -- a cross-reference that writes no rule has one
    pub cross : (s : PartSite) (v : Value0) (wanted : List ℕ) (span : Span) → IsReached g (rule_of s) → IsPartAt g s (Value v) →
        out-Value0 v ≡ value.Cross wanted None span →
        (name : List ℕ) × IsNameRule g wanted name
    pub choices : ChoicesHaveParts g
