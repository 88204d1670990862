-- A terminal stands in the text of its file, and is told by its number.
use Rattle.std.proofs.Common.{◌≡◌, ℕ, ◌-◌, List, [], ◌∷◌, Some, length, slice_get, refl, arith}
use Rattle.std.proofs.lemmas.List.Elements.{All-contains, All-head, All-nil, All-cons}
use Rattle.lw_base.specs.declared.numbers.RuleId.{RuleId}
use Rattle.lw_grammar.specs.declared.grammar.Grammar.{Grammar}
use Rattle.lw_grammar.specs.declared.terminal.Terminal.{Terminal}
use Rattle.lw_gramread.specs.PlacesWithin.{IsWithin, terminal_spans, term_spans}
use Rattle.lw_load.specs.Standing.{Stands, AreIn}
use Rattle.lw_lang.specs.ToldTerms.{IsTerminalNumber, IsPlacedAs, IsTerminalToldAs}
use Rattle.lw_lang.specs.declared.told_term.FilePlace.{FilePlace}
use Rattle.lw_lang.proofs.Lists.{at_place}

module _ (g : Grammar) (texts : List (List ℕ)) (number : ℕ) (terminal : Terminal) (there : slice_get g.terminals number ≡ Some terminal) where
  pub terminal_stands : Stands texts g → AreIn texts terminal.file (terminal.span ∷ [])
  terminal_stands stands =
      let are : AreIn texts terminal.file (terminal_spans terminal) =
      All-contains (λ t. AreIn texts t.file (terminal_spans t)) g.terminals terminal stands.terminals (at_place g.terminals number there) in
      let first = All-head (IsWithin are.text) terminal.span (term_spans terminal.body) are.within in
      record { text = are.text; there = are.there; within = All-cons (IsWithin are.text) terminal.span [] first (All-nil (IsWithin are.text)) }

  pub terminal_told : (rule : RuleId) → IsTerminalNumber g texts rule → number ≡ rule.0 - length g.rules → (place : FilePlace) → IsPlacedAs g texts terminal.file terminal.span place →
      IsTerminalToldAs g texts rule (record { rule = rule; name = terminal.name; place = place })
  terminal_told rule numbered same place placed = record {
    same = refl;
    number = number;
    behind = omega (arith, numbered.2, same);
    terminal = terminal;
    there = there;
    named = refl;
    placed = placed;
  }
