-- What is ready has a pattern, where each terminal that is known has one.
use Rattle.std.proofs.Common.{◌≡◌, ℕ, ◌<◌, List, [], ◌∷◌, ◌++◌, Option, Some, None, length, refl, subst, arith}
use Rattle.std.proofs.lemmas.Option.{none-some, same_Some}
use Rattle.std.specs.Prelude.{codes}
use Rattle.lw_grammar.specs.declared.grammar.Grammar.{Grammar}
use Rattle.lw_grammar.specs.declared.terminal.Terminal.{Terminal}
use Rattle.lw_grammar.specs.declared.terminal.TermElement.{TermElement, out-TermElement}
use Rattle.lw_grammar.specs.declared.terminal.TermElement.TheOpen as layer
use Rattle.lw_grammar.specs.declared.terminal.TermElement.TheOpen.{TermElement-F}
use Rattle.lw_grammar.specs.Named.{IsTerminal}
use Rattle.lw_tokens.specs.Patterns as pattern
use Rattle.lw_tokens.specs.Patterns.{TerminalPattern, ElementPattern, LayerPattern, RowPattern, ChoicePattern, AlternativePattern, as_pattern, as_row, as_choice, by_number, escaped, grouped, unescaped}
use Rattle.lw_terminals.specs.Readiness.{HasEnds, ElementIsReady, LayerIsReady, AreReady}
use Rattle.lw_terminals.specs.Readiness as ready

module _ (g : Grammar) (IsKnown : ℕ → Type 0)
    (known : (name : List ℕ) (t : ℕ) (called : Terminal) → IsTerminal g name t called → IsKnown t → (p : List ℕ) × TerminalPattern g called p) where
  abbrev Has : (List ℕ → Type 0) → Type 0
  Has P = (p : List ℕ) × P p

  range_has : {from to : List ℕ} {s : _} → HasEnds from to → Has (LayerPattern g (layer.Range from to s))
  range_has ends =
      (codes "[" ++ by_number ends.first ++ codes "-" ++ by_number ends.last ++ codes "]", pattern.range ends.first ends.last ends.from_is ends.to_is ends.order)

  -- an alternative, from what it is seen as
  alternative_of : (e : TermElement) → Has (ElementPattern g e) → ((parts : List TermElement) → as_row (out-TermElement e) ≡ Some parts → Has (RowPattern g parts)) →
      (seen : Option (List TermElement)) → as_row (out-TermElement e) ≡ seen → Has (AlternativePattern g e)
  alternative_of e (p, whole) rows None is = (p, pattern.single is whole)
  alternative_of e whole rows (Some parts) is = let has = rows parts is in (has.0, pattern.row parts is has.1)

  mutual
    pub element_has : {e : TermElement} → ElementIsReady g IsKnown e → Has (ElementPattern g e)
    element_has (ready.ready is) = let has = layer_has is in (has.0, pattern.element has.1)

    layer_has : {f : TermElement-F TermElement} → LayerIsReady g IsKnown f → Has (LayerPattern g f)
    layer_has (ready.literal {text} {s}) = (escaped text, pattern.literal)
    layer_has (ready.range ends) = range_has ends
    layer_has (ready.pattern {text} {s}) = (grouped (unescaped text), pattern.pattern)
    layer_has (ready.call {name} (t, called, is, so)) = let has = known name t called is so in (grouped has.0, pattern.call t called is has.1)
    layer_has (ready.group are) = let has = row_has are in (grouped has.0, pattern.group has.1)
    layer_has (ready.choice some are) = let has = choice_has some are in (grouped has.0, pattern.choice has.1)
    layer_has (ready.maybe is) = let has = element_has is in (grouped has.0 ++ codes "?", pattern.maybe has.1)
    layer_has (ready.many is) = let has = element_has is in (grouped has.0 ++ codes "*", pattern.many has.1)
    layer_has (ready.some1 is) = let has = element_has is in (grouped has.0 ++ codes "+", pattern.some1 has.1)

    row_has : {parts : List TermElement} → AreReady g IsKnown parts → Has (RowPattern g parts)
    row_has ready.no_part = ([], pattern.empty_row)
    row_has (ready.next_part is are) = let first = element_has is in let others = row_has are in (first.0 ++ others.0, pattern.row_part first.1 others.1)

    choice_has : {parts : List TermElement} → 0 < length parts → AreReady g IsKnown parts → Has (ChoicePattern g parts)
    choice_has some ready.no_part = absurd (omega arith)
    choice_has some (ready.next_part is are) = choice_after (alternative_has is) are

    choice_after : {part : TermElement} {parts : List TermElement} → Has (AlternativePattern g part) → AreReady g IsKnown parts → Has (ChoicePattern g (part ∷ parts))
    choice_after (p, last) ready.no_part = (p, pattern.last_choice last)
    choice_after (p, first) (ready.next_part is are) =
        let others = choice_after (alternative_has is) are in (p ++ codes "|" ++ others.0, pattern.next_choice first others.1)

    alternative_has : {e : TermElement} → ElementIsReady g IsKnown e → Has (AlternativePattern g e)
    alternative_has (ready.ready {e} is) =
        let has = layer_has is in
        alternative_of e (has.0, pattern.element has.1) (λ parts seen. rows_of (out-TermElement e) is parts seen) (as_row (out-TermElement e)) refl

    rows_of : (f : TermElement-F TermElement) → LayerIsReady g IsKnown f → (parts : List TermElement) → as_row f ≡ Some parts → Has (RowPattern g parts)
    rows_of f (ready.group {parts = found} are) parts is = subst (λ es. Has (RowPattern g es)) (same_Some found parts is) (row_has are)
    rows_of f ready.literal parts is = absurd (none-some parts is)
    rows_of f (ready.range ends) parts is = absurd (none-some parts is)
    rows_of f ready.pattern parts is = absurd (none-some parts is)
    rows_of f (ready.call calls) parts is = absurd (none-some parts is)
    rows_of f (ready.choice some are) parts is = absurd (none-some parts is)
    rows_of f (ready.maybe one) parts is = absurd (none-some parts is)
    rows_of f (ready.many one) parts is = absurd (none-some parts is)
    rows_of f (ready.some1 one) parts is = absurd (none-some parts is)

  choices_of : (f : TermElement-F TermElement) → LayerIsReady g IsKnown f → (parts : List TermElement) → as_choice f ≡ Some parts → Has (ChoicePattern g parts)
  choices_of f (ready.choice {parts = found} some are) parts is = subst (λ es. Has (ChoicePattern g es)) (same_Some found parts is) (choice_has some are)
  choices_of f ready.literal parts is = absurd (none-some parts is)
  choices_of f (ready.range ends) parts is = absurd (none-some parts is)
  choices_of f ready.pattern parts is = absurd (none-some parts is)
  choices_of f (ready.call calls) parts is = absurd (none-some parts is)
  choices_of f (ready.group are) parts is = absurd (none-some parts is)
  choices_of f (ready.maybe one) parts is = absurd (none-some parts is)
  choices_of f (ready.many one) parts is = absurd (none-some parts is)
  choices_of f (ready.some1 one) parts is = absurd (none-some parts is)

  layer_of : {e : TermElement} → ElementIsReady g IsKnown e → LayerIsReady g IsKnown (out-TermElement e)
  layer_of (ready.ready is) = is

  -- a terminal, from what its body is seen as
  pub terminal_has : (t : Terminal) → ElementIsReady g IsKnown t.body → Has (TerminalPattern g t)
  terminal_has t is = by (as_pattern (out-TermElement t.body)) (as_choice (out-TermElement t.body)) refl refl
    where
      by : (text : Option (List ℕ)) (parts : Option (List TermElement)) → as_pattern (out-TermElement t.body) ≡ text → as_choice (out-TermElement t.body) ≡ parts →
          Has (TerminalPattern g t)
      by (Some text) parts seen _ = (unescaped text, pattern.bare seen)
      by None (Some parts) _ seen = let has = choices_of (out-TermElement t.body) (layer_of is) parts seen in (has.0, pattern.alternatives parts seen has.1)
      by None None no_text no_parts = let has = alternative_has is in (has.0, pattern.other no_text no_parts has.1)
