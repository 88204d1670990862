-- What has a pattern is ready, where each terminal is known whose body is ready.
use Rattle.std.proofs.Common.{◌≡◌, ℕ, ◌<◌, List, Some, length, slice_get, sym, subst, arith}
use Rattle.std.proofs.lemmas.Option.{none-some, same_Some}
use Rattle.lw_grammar.specs.declared.grammar.Grammar.{Grammar}
use Rattle.lw_grammar.specs.declared.terminal.Terminal.{Terminal}
use Rattle.lw_grammar.specs.declared.terminal.TermElement.{TermElement, out-TermElement}
use Rattle.lw_grammar.specs.declared.terminal.TermElement.TheOpen as layer
use Rattle.lw_grammar.specs.declared.terminal.TermElement.TheOpen.{TermElement-F}
use Rattle.lw_tokens.specs.Patterns as pattern
use Rattle.lw_tokens.specs.Patterns.{TerminalPattern, ElementPattern, LayerPattern, RowPattern, ChoicePattern, AlternativePattern, as_pattern, as_row, as_choice}
use Rattle.lw_terminals.specs.Readiness.{ElementIsReady, LayerIsReady, AreReady}
use Rattle.lw_terminals.specs.Readiness as ready

module _ (g : Grammar) (IsKnown : ℕ → Type 0) where
  -- ---- layers by what they are seen as
  pub pattern_layer : (f : TermElement-F TermElement) (text : List ℕ) → as_pattern f ≡ Some text → LayerIsReady g IsKnown f
  pattern_layer (layer.Pattern found s) text is = ready.pattern
  pattern_layer (layer.Literal found s) text is = absurd (none-some text is)
  pattern_layer (layer.Range from to s) text is = absurd (none-some text is)
  pattern_layer (layer.Call name s) text is = absurd (none-some text is)
  pattern_layer (layer.Group parts) text is = absurd (none-some text is)
  pattern_layer (layer.Choice parts) text is = absurd (none-some text is)
  pattern_layer (layer.Maybe part) text is = absurd (none-some text is)
  pattern_layer (layer.Many part) text is = absurd (none-some text is)
  pattern_layer (layer.Some1 part) text is = absurd (none-some text is)

  pub row_layer : (f : TermElement-F TermElement) (parts : List TermElement) → as_row f ≡ Some parts → AreReady g IsKnown parts → LayerIsReady g IsKnown f
  row_layer (layer.Group found) parts is are = ready.group (subst (AreReady g IsKnown) (sym (same_Some found parts is)) are)
  row_layer (layer.Literal found s) parts is are = absurd (none-some parts is)
  row_layer (layer.Range from to s) parts is are = absurd (none-some parts is)
  row_layer (layer.Call name s) parts is are = absurd (none-some parts is)
  row_layer (layer.Pattern text s) parts is are = absurd (none-some parts is)
  row_layer (layer.Choice found) parts is are = absurd (none-some parts is)
  row_layer (layer.Maybe part) parts is are = absurd (none-some parts is)
  row_layer (layer.Many part) parts is are = absurd (none-some parts is)
  row_layer (layer.Some1 part) parts is are = absurd (none-some parts is)

  pub choice_layer : (f : TermElement-F TermElement) (parts : List TermElement) → as_choice f ≡ Some parts → 0 < length parts → AreReady g IsKnown parts → LayerIsReady g IsKnown f
  choice_layer (layer.Choice found) parts is some are =
      let P : List TermElement → Type 0 = λ es. LayerIsReady g IsKnown (layer.Choice es) in
      subst P (sym (same_Some found parts is)) (ready.choice some are)
  choice_layer (layer.Literal found s) parts is some are = absurd (none-some parts is)
  choice_layer (layer.Range from to s) parts is some are = absurd (none-some parts is)
  choice_layer (layer.Call name s) parts is some are = absurd (none-some parts is)
  choice_layer (layer.Pattern text s) parts is some are = absurd (none-some parts is)
  choice_layer (layer.Group found) parts is some are = absurd (none-some parts is)
  choice_layer (layer.Maybe part) parts is some are = absurd (none-some parts is)
  choice_layer (layer.Many part) parts is some are = absurd (none-some parts is)
  choice_layer (layer.Some1 part) parts is some are = absurd (none-some parts is)

  has_part : {parts : List TermElement} {p : List ℕ} → ChoicePattern g parts p → 0 < length parts
  has_part (pattern.last_choice _) = omega arith
  has_part (pattern.next_choice _ _) = omega arith

  module _ (closed : (t : ℕ) (x : Terminal) → slice_get g.terminals t ≡ Some x → ElementIsReady g IsKnown x.body → IsKnown t) where
    mutual
      pub terminal_ready : {t : Terminal} {p : List ℕ} → TerminalPattern g t p → ElementIsReady g IsKnown t.body
      terminal_ready (pattern.bare {t} {text} is) = ready.ready (pattern_layer (out-TermElement t.body) text is)
      terminal_ready (pattern.alternatives {t} parts is has) = ready.ready (choice_layer (out-TermElement t.body) parts is (has_part has) (choice_ready has))
      terminal_ready (pattern.other no_pattern no_choice has) = alternative_ready has

      element_ready : {e : TermElement} {p : List ℕ} → ElementPattern g e p → ElementIsReady g IsKnown e
      element_ready (pattern.element has) = ready.ready (layer_ready has)

      layer_ready : {f : TermElement-F TermElement} {p : List ℕ} → LayerPattern g f p → LayerIsReady g IsKnown f
      layer_ready pattern.literal = ready.literal
      layer_ready (pattern.range first last is to order) = ready.range (record { first = first; last = last; from_is = is; to_is = to; order = order })
      layer_ready pattern.pattern = ready.pattern
      layer_ready (pattern.call t called is has) = ready.call (t, called, is, closed t called is.first.there (terminal_ready has))
      layer_ready (pattern.group has) = ready.group (row_ready has)
      layer_ready (pattern.choice has) = ready.choice (has_part has) (choice_ready has)
      layer_ready (pattern.maybe has) = ready.maybe (element_ready has)
      layer_ready (pattern.many has) = ready.many (element_ready has)
      layer_ready (pattern.some1 has) = ready.some1 (element_ready has)

      row_ready : {parts : List TermElement} {p : List ℕ} → RowPattern g parts p → AreReady g IsKnown parts
      row_ready pattern.empty_row = ready.no_part
      row_ready (pattern.row_part first others) = ready.next_part (element_ready first) (row_ready others)

      choice_ready : {parts : List TermElement} {p : List ℕ} → ChoicePattern g parts p → AreReady g IsKnown parts
      choice_ready (pattern.last_choice last) = ready.next_part (alternative_ready last) ready.no_part
      choice_ready (pattern.next_choice first others) = ready.next_part (alternative_ready first) (choice_ready others)

      alternative_ready : {e : TermElement} {p : List ℕ} → AlternativePattern g e p → ElementIsReady g IsKnown e
      alternative_ready (pattern.row {e} parts is has) = ready.ready (row_layer (out-TermElement e) parts is (row_ready has))
      alternative_ready (pattern.single none has) = element_ready has
