-- Faults of what calls mean: 21 bad call, 22 bad assignment.
use Rattle.std.specs.Prelude.{ℕ, ◌≡◌, ◌≤◌, ◌⊎◌, List, Some, None, true, Contains, encode_utf8}
use Rattle.std.specs.Char.{IsScalar}
use Rattle.lw_base.specs.declared.token.Span.{Span}
use Rattle.lw_grammar.specs.declared.grammar.Grammar.{Grammar}
use Rattle.lw_grammar.specs.declared.rule.Rule.{Rule}
use Rattle.lw_grammar.specs.declared.rule.Op.{Op}
use Rattle.lw_grammar.specs.declared.rule.Op.TheVariants.{Flag}
use Rattle.lw_grammar.specs.declared.rule.Value0.{Value0}
use Rattle.lw_grammar.specs.declared.terminal.Terminal.{Terminal}
use Rattle.lw_grammar.specs.Leaves.{Assign, leaves, Calls, Cross, value_leaves}
use Rattle.lw_grammar.specs.Named.{IsRule, IsTerminal}
use Rattle.lw_grammar.specs.NameRules.{IsNameRule}
use Rattle.lw_grammar.specs.Nodes.{MakesNodes, IsDataType}
use Rattle.lw_grammar.specs.Written.{WritesCall, term_calls, term_ranges}

-- one character each, the first no later than the second
pub record IsInOrder (first last : List ℕ) : Type 0 where
  pub low : ℕ
  pub high : ℕ
  pub scalar_low : IsScalar low
  pub scalar_high : IsScalar high
  pub is_first : first ≡ encode_utf8 low
  pub is_last : last ≡ encode_utf8 high
  pub order : low ≤ high

module _ (g : Grammar) where
  -- the text of a cross-reference is read here by the rule of this name, written or the one that names nodes of the type
  pub data CrossesBy (rule : Rule) : Span → List ℕ → Type 0 where
    written : {s : Span} {name : List ℕ} (p : List ℕ) (op : Op) (v : Value0) (t : Span) (wanted : List ℕ) → Contains (leaves rule.body) (Assign p op v t) →
        Contains (value_leaves v) (Cross wanted (Some name) s) → CrossesBy rule s name
    by_name : {s : Span} {name : List ℕ} (p : List ℕ) (op : Op) (v : Value0) (t : Span) (wanted : List ℕ) → Contains (leaves rule.body) (Assign p op v t) →
        Contains (value_leaves v) (Cross wanted None s) → IsNameRule g wanted name → CrossesBy rule s name

  -- A rule calls a hidden terminal or a fragment of terminals, by a call that it writes or by a cross-reference that writes none; a terminal calls
  -- a rule; a range has other ends than two characters in order; a cross-reference reads by a rule that makes nodes, or by a fragment.
  pub data BadCall : ℕ → Span → List ℕ → Type 0 where
    hidden : {s : Span} {name : List ℕ} (rule : Rule) (t : ℕ) (terminal : Terminal) → Contains g.rules rule → WritesCall rule s name →
        IsTerminal g name t terminal → (terminal.is_hidden ≡ true) ⊎ (terminal.is_fragment ≡ true) → BadCall rule.file s name
    crossed_hidden : {s : Span} {name : List ℕ} (rule : Rule) (t : ℕ) (terminal : Terminal) → Contains g.rules rule → CrossesBy rule s name →
        IsTerminal g name t terminal → (terminal.is_hidden ≡ true) ⊎ (terminal.is_fragment ≡ true) → BadCall rule.file s name
    of_rule : {s : Span} {name : List ℕ} (terminal : Terminal) (r : ℕ) (rule : Rule) → Contains g.terminals terminal → Contains (term_calls terminal.body) (name, s) →
        IsRule g name r rule → BadCall terminal.file s name
    range : {s : Span} (terminal : Terminal) (first last : List ℕ) → Contains g.terminals terminal → Contains (term_ranges terminal.body) (first, last, s) →
        ¬ IsInOrder first last → BadCall terminal.file s terminal.name
    crossed : {s : Span} {name : List ℕ} (rule : Rule) (r : ℕ) (by : Rule) → Contains g.rules rule → CrossesBy rule s name → IsRule g name r by →
        ¬ IsDataType g by → BadCall rule.file s name

  -- `?=` with a rule that makes nodes, or any assignment of a fragment
  pub data BadAssignment : ℕ → Span → List ℕ → Type 0 where
    flag : (rule : Rule) (p : List ℕ) (v : Value0) (s t : Span) (name : List ℕ) (r : ℕ) (called : Rule) → Contains g.rules rule →
        Contains (leaves rule.body) (Assign p Flag v s) → Contains (value_leaves v) (Calls name t) → IsRule g name r called → MakesNodes g called →
        BadAssignment rule.file s p
    fragment_ : (rule : Rule) (p : List ℕ) (op : Op) (v : Value0) (s t : Span) (name : List ℕ) (r : ℕ) (called : Rule) → Contains g.rules rule →
        Contains (leaves rule.body) (Assign p op v s) → Contains (value_leaves v) (Calls name t) → IsRule g name r called → called.is_fragment ≡ true →
        BadAssignment rule.file s p
