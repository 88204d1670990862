-- A body is ready whose calls are of what is known, whose ranges have ends and whose choices have parts.
use Rattle.std.proofs.Common.{ℕ, ◌<◌, List, [], ◌∷◌, length, map, Contains, refl, sym, subst, arith}
use Rattle.std.specs.List.{flat_map}
use Rattle.std.proofs.lemmas.List.Elements.{Contains-append_left, Contains-append_right}
use Rattle.lw_base.specs.declared.token.Span.{Span}
use Rattle.lw_grammar.specs.declared.grammar.Grammar.{Grammar}
use Rattle.lw_grammar.specs.declared.terminal.TermElement.{TermElement, out-roll-TermElement}
use Rattle.lw_grammar.specs.declared.terminal.TermElement.TheFolds.{map-TermElement, ind-TermElement, fold-roll-TermElement}
use Rattle.lw_grammar.specs.declared.terminal.TermElement.TheOpen as layer
use Rattle.lw_grammar.specs.declared.terminal.TermElement.TheOpen.{TermElement-F}
use Rattle.lw_grammar.specs.Written.{Range, term_calls, term_layer_calls, term_ranges, term_layer_ranges}
use Rattle.lw_terminals.specs.Readiness.{HasEnds, CallsKnown, ElementIsReady, LayerIsReady, AreReady}
use Rattle.lw_terminals.specs.Readiness as ready
use Rattle.lw_grammar.specs.WellFormed.{choices, layer_choices}

module _ (g : Grammar) (IsKnown : ℕ → Type 0) where
  abbrev KnownCalls : List (List ℕ × Span) → Type 0
  KnownCalls found = (name : List ℕ) (s : Span) → Contains found (name, s) → CallsKnown g IsKnown name

  abbrev EndedRanges : List Range → Type 0
  EndedRanges found = (from to : List ℕ) (s : Span) → Contains found (from, to, s) → HasEnds from to

  abbrev NoneEmpty : List ℕ → Type 0
  NoneEmpty sizes = ¬ Contains sizes 0

  abbrev ReadyIf : TermElement → Type 0
  ReadyIf e = KnownCalls (term_calls e) → EndedRanges (term_ranges e) → NoneEmpty (choices e) → ElementIsReady g IsKnown e

  abbrev Good : Type 0
  Good = (e : TermElement) × ReadyIf e

  abbrev bare : Good → TermElement
  bare e = e.0

  parts_ready : (es : List Good) → KnownCalls (flat_map (λ ls. ls) (map term_calls (map bare es))) → EndedRanges (flat_map (λ ls. ls) (map term_ranges (map bare es))) →
      NoneEmpty (flat_map (λ ls. ls) (map choices (map bare es))) → AreReady g IsKnown (map bare es)
  parts_ready [] known ended some = ready.no_part
  parts_ready (e ∷ es) known ended some =
      let calls = flat_map (λ (ls : List (List ℕ × Span)). ls) (map term_calls (map bare es)) in
      let ranges = flat_map (λ (ls : List Range). ls) (map term_ranges (map bare es)) in
      let sizes = flat_map (λ (ls : List ℕ). ls) (map choices (map bare es)) in
      ready.next_part
      (e.1 (λ name s has. known name s (Contains-append_left (term_calls e.0) calls (name, s) has))
      (λ from to s has. ended from to s (Contains-append_left (term_ranges e.0) ranges (from, to, s) has)) (λ has. some (Contains-append_left (choices e.0) sizes 0 has)))
      (parts_ready es (λ name s has. known name s (Contains-append_right (term_calls e.0) calls (name, s) has))
      (λ from to s has. ended from to s (Contains-append_right (term_ranges e.0) ranges (from, to, s) has)) (λ has. some (Contains-append_right (choices e.0) sizes 0 has)))

  -- the front of a list
  at_front : {X : Type 0} (x : X) (xs : List X) → Contains (x ∷ xs) x
  at_front x xs = (0, omega arith, refl)

  behind : {X : Type 0} (x : X) (xs : List X) (y : X) → Contains xs y → Contains (x ∷ xs) y
  behind x xs y has = Contains-append_right (x ∷ []) xs y has

  has_parts : (es : List Good) → NoneEmpty (length (map choices (map bare es)) ∷ flat_map (λ ls. ls) (map choices (map bare es))) → 0 < length (map bare es)
  has_parts [] some = absurd (some (at_front 0 []))
  has_parts (e ∷ es) some = omega arith

  layer_ready : (y : TermElement-F Good) →
      KnownCalls (term_layer_calls (map-TermElement TermElement (List (List ℕ × Span)) term_calls (map-TermElement Good TermElement bare y))) →
      EndedRanges (term_layer_ranges (map-TermElement TermElement (List Range) term_ranges (map-TermElement Good TermElement bare y))) →
      NoneEmpty (layer_choices (map-TermElement TermElement (List ℕ) choices (map-TermElement Good TermElement bare y))) →
      LayerIsReady g IsKnown (map-TermElement Good TermElement bare y)
  layer_ready (layer.Literal text s) known ended some = ready.literal
  layer_ready (layer.Range from to s) known ended some = ready.range (ended from to s (at_front (from, to, s) []))
  layer_ready (layer.Pattern text s) known ended some = ready.pattern
  layer_ready (layer.Call name s) known ended some = ready.call (known name s (at_front (name, s) []))
  layer_ready (layer.Group es) known ended some = ready.group (parts_ready es known ended some)
  layer_ready (layer.Choice es) known ended some =
      ready.choice (has_parts es some)
      (parts_ready es known ended (λ has. some (behind (length (map choices (map bare es))) (flat_map (λ ls. ls) (map choices (map bare es))) 0 has)))
  layer_ready (layer.Maybe e) known ended some = ready.maybe (e.1 known ended some)
  layer_ready (layer.Many e) known ended some = ready.many (e.1 known ended some)
  layer_ready (layer.Some1 e) known ended some = ready.some1 (e.1 known ended some)

  abbrev LayerReadyIf : TermElement-F TermElement → Type 0
  LayerReadyIf f =
      KnownCalls (term_layer_calls (map-TermElement TermElement (List (List ℕ × Span)) term_calls f)) →
      EndedRanges (term_layer_ranges (map-TermElement TermElement (List Range) term_ranges f)) →
      NoneEmpty (layer_choices (map-TermElement TermElement (List ℕ) choices f)) → LayerIsReady g IsKnown f

  pub ready_body : (e : TermElement) → ReadyIf e
  ready_body = ind-TermElement ReadyIf (λ x y is. λ known ended some.
      let layers : LayerReadyIf x = subst LayerReadyIf is (layer_ready y) in
      ready.ready (subst (LayerIsReady g IsKnown) (sym (out-roll-TermElement x)) (layers
      (subst KnownCalls (fold-roll-TermElement (List (List ℕ × Span)) term_layer_calls x) known)
      (subst EndedRanges (fold-roll-TermElement (List Range) term_layer_ranges x) ended)
      (subst NoneEmpty (fold-roll-TermElement (List ℕ) layer_choices x) some))))
