-- Calls that are put in: the pattern that was found of the terminal, in a group of its own.
use Rattle.std.proofs.Common.{◌≡◌, ℕ, ◌<◌, List, ◌∷◌, [], ◌++◌, length, get_or, sym, subst, arith}
use Rattle.std.specs.Prelude.{codes}
use Rattle.std.specs.Str.{chars}
use Rattle.std.proofs.lemmas.List.{get_or_read}
use Rattle.lw_base.specs.declared.token.Span.{Span}
use Rattle.lw_grammar.specs.declared.grammar.Grammar.{Grammar}
use Rattle.lw_grammar.specs.declared.terminal.Terminal.{Terminal}
use Rattle.lw_grammar.specs.declared.terminal.TermElement.TheOpen as layer
use Rattle.lw_grammar.specs.Named.{IsTerminal}
use Rattle.lw_numbers.specs.Tables.{Tables}
use Rattle.lw_tokens.specs.Patterns as pattern
use Rattle.lw_tokens.specs.Patterns.{LayerPattern, TerminalPattern, by_number, grouped, unescaped}
use Rattle.lw_terminals.specs.declared.patterns.draft.Draft.{Draft}
use Rattle.lw_terminals.specs.declared.patterns.written.Written.{Written}
use Rattle.lw_terminals.specs.declared.patterns.written.Written.TheVariants.{Unwritten}
use Rattle.lw_terminals.specs.Drafts.{PutsText, Writes}
use Rattle.lw_terminals.specs.Readiness.{HasEnds, CallsKnown}
use Rattle.lw_terminals.specs.Writing.{IsFoundAt, said_at, SaysPatternOf, ArePatternsKnown}
use Rattle.lw_terminals.specs.WrittenPatterns.{Says}
use Rattle.lw_terminals.proofs.DraftLemmas.{PutsText-then, PutsText-same}
use Rattle.lw_terminals.proofs.EndLemmas.{order_of_ends}
use Rattle.lw_terminals.proofs.MeaningLemmas.{known_at, terminal_within}

-- a text in a group of its own
pub PutsText-grouped : (p : List ℕ) (old one two new : Draft) → PutsText (codes "(?:") old one → PutsText p one two → PutsText (codes ")") two new → PutsText (grouped p) old new
PutsText-grouped p old one two new opens puts closes =
    PutsText-then (codes "(?:" ++ p) (codes ")") old two new (PutsText-then (codes "(?:") p old one two opens puts) closes

module _ (g : Grammar) (tables : Tables) (written : List Written) (known : ArePatternsKnown g tables written) (name : List ℕ) (s : Span) (place : ℕ)
    (means : (x : Terminal) × IsTerminal g name place x) (ready : CallsKnown g (IsFoundAt written) name) where
  found : SaysPatternOf g means.0 (said_at written place)
  found = known.sound place means.0 means.1.first.there (known_at g name (IsFoundAt written) place means ready)

  pub call_put : (w : Written) → w ≡ get_or written place w → (old one two new : Draft) → PutsText (codes "(?:") old one → ((p : List ℕ) → Says (get_or written place w) p → PutsText p one two) →
      PutsText (codes ")") two new → Writes (LayerPattern g (layer.Call name s)) old new
  call_put w is old one two new opens puts closes =
      let inside : place < length written = omega (arith, terminal_within g name place means, known.count) in
      let said : w ≡ said_at written place = get_or_read written place w inside is Unwritten in
      let says : SaysPatternOf g means.0 w = subst (SaysPatternOf g means.0) (sym said) found in
      (grouped says.0, pattern.call place means.0 means.1 says.1, PutsText-grouped says.0 old one two new opens (puts says.0 (subst (λ x. Says x says.0) is says.2)) closes)

-- a range between two characters
pub range_put : (g : Grammar) (s : Span) (from to text : List ℕ) (first last : ℕ) (old new : Draft) → chars from ≡ first ∷ [] → chars to ≡ last ∷ [] → HasEnds from to →
    text ≡ codes "[" ++ by_number first ++ codes "-" ++ by_number last ++ codes "]" → PutsText text old new → Writes (LayerPattern g (layer.Range from to s)) old new
range_put g s from to text first last old new from_is to_is ends is puts = (
  codes "[" ++ by_number first ++ codes "-" ++ by_number last ++ codes "]",
  pattern.range first last from_is to_is (order_of_ends from to first last from_is to_is ends),
  PutsText-same text _ old new is puts,
)
