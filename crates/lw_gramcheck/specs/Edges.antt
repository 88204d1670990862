-- The calls of fragments by fragments and of terminals by terminals, as edges between numbers, in words of the code.
use Rattle.std.specs.Prelude.{ℕ, ◌≡◌, ◌<◌, List, Bool, Contains, true}
use Rattle.lw_base.specs.declared.token.Span.{Span}
use Rattle.lw_grammar.specs.declared.fault.GrammarFault.{GrammarFault}
use Rattle.lw_grammar.specs.declared.grammar.Grammar.{Grammar}
use Rattle.lw_grammar.specs.declared.rule.Rule.{Rule}
use Rattle.lw_grammar.specs.declared.terminal.Terminal.{Terminal}
use Rattle.lw_grammar.specs.Named.{IsRule, IsTerminal}
use Rattle.lw_grammar.specs.Written.{term_calls}
use Rattle.lw_faults.specs.Circles.{FragmentCalls, TerminalCalls}
use Rattle.lw_graph.specs.Walks.{HasNode}
use Rattle.lw_faults.specs.Finding.{OfSome, AtSome, OneIf}
use Rattle.lw_gramcheck.specs.Parts.{at_rule, at_terminal}
use Rattle.lw_gramcheck.specs.Sites.{Site, HasSite}

abbrev pub Edge : Type 0
Edge = ℕ × ℕ

-- both ends are below this number
abbrev pub StayBelow : ℕ → List Edge → Type 0
StayBelow n edges = (e : Edge) → Contains edges e → (e.0 < n) × (e.1 < n)

module _ (g : Grammar) where
  abbrev pub MeansFragment : List ℕ → ℕ → Type 0
  MeansFragment name r = (rule : Rule) × IsRule g name r rule × (rule.is_fragment ≡ true)

  abbrev pub MeansTerminal : List ℕ → ℕ → Type 0
  MeansTerminal name t = (terminal : Terminal) × IsTerminal g name t terminal

  abbrev pub CallsFragment : ℕ → Site → Edge → Type 0
  CallsFragment q call edge = (r : ℕ) × MeansFragment call.name r × (edge ≡ (q, r))

  abbrev pub CallsFragments : ℕ → Rule → Edge → Type 0
  CallsFragments q rule edge = (rule.is_fragment ≡ true) × ((call : Site) × HasSite g rule call × CallsFragment q call edge)

  abbrev pub IsFragmentEdge : Edge → Type 0
  IsFragmentEdge = AtSome CallsFragments g.rules

  abbrev pub CallsTerminal : ℕ → List ℕ × Span → Edge → Type 0
  CallsTerminal t call edge = (u : ℕ) × MeansTerminal call.0 u × (edge ≡ (t, u))

  abbrev pub CallsTerminals : ℕ → Terminal → Edge → Type 0
  CallsTerminals t terminal = OfSome (CallsTerminal t) (term_calls terminal.body)

  abbrev pub IsTerminalEdge : Edge → Type 0
  IsTerminalEdge = AtSome CallsTerminals g.terminals

  -- the fragment calls itself, or the terminal
  abbrev pub CircularFragment : ℕ → Rule → GrammarFault → Type 0
  CircularFragment r rule = OneIf (FragmentCalls g r r) (at_rule 20 rule)

  abbrev pub CircularTerminal : ℕ → Terminal → GrammarFault → Type 0
  CircularTerminal t terminal = OneIf (TerminalCalls g t t) (at_terminal 20 terminal)

-- its number is in the set
abbrev pub RuleIn : List Bool → ℕ → Rule → GrammarFault → Type 0
RuleIn round r rule = OneIf (HasNode round r) (at_rule 20 rule)

abbrev pub TerminalIn : List Bool → ℕ → Terminal → GrammarFault → Type 0
TerminalIn round t terminal = OneIf (HasNode round t) (at_terminal 20 terminal)
