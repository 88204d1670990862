-- What is ready, by its form, and one part of a row after the other.
use Rattle.std.proofs.Common.{◌≡◌, ℕ, zero, suc, ◌+◌, ◌<◌, ◌≤◌, ◌↔◌, List, [], ◌∷◌, length, get_or, drop, Contains, Some, refl, sym, ap, ◌∙◌, subst, arith, add-one, drop-cons}
use Rattle.std.proofs.lemmas.List.{drop_all}
use Rattle.std.proofs.lemmas.Option.{none-some, same_Some}
use Rattle.lw_grammar.specs.declared.grammar.Grammar.{Grammar}
use Rattle.lw_grammar.specs.declared.terminal.TermElement.{TermElement, out-TermElement}
use Rattle.lw_grammar.specs.declared.terminal.TermElement.TheOpen as layer
use Rattle.lw_grammar.specs.declared.terminal.TermElement.TheOpen.{TermElement-F}
use Rattle.lw_tokens.specs.Patterns.{as_choice}
use Rattle.lw_terminals.specs.Readiness.{HasEnds, CallsKnown, ElementIsReady, LayerIsReady, AreReady}
use Rattle.lw_terminals.specs.Readiness as ready

-- what is read at a place stands there
pub read_there : {X : Type 0} (xs : List X) (i : ℕ) (x : X) → i < length xs → x ≡ get_or xs i x → Contains xs x
read_there xs i x inside is = (i, inside, sym is)

pub some_parts : {X : Type 0} (xs : List X) → ¬ (xs ≡ []) → 0 < length xs
some_parts [] not = absurd (not refl)
some_parts (x ∷ xs) not = omega arith

-- what is left at a place, if anything is
left_here : {X : Type 0} (xs : List X) (i : ℕ) (x : X) → i < length xs → x ≡ get_or xs i x → drop i xs ≡ x ∷ drop (i + 1) xs
left_here xs i x inside is = drop-cons xs i x inside ∙ ap (λ y. y ∷ drop (suc i) xs) (sym is) ∙ ap (λ n. x ∷ drop n xs) (sym (add-one i))

module _ (g : Grammar) (IsKnown : ℕ → Type 0) where
  abbrev pub ReadyBy : TermElement-F TermElement → Type 0
  ReadyBy (layer.Literal text s) = Unit {0}
  ReadyBy (layer.Range from to s) = HasEnds from to
  ReadyBy (layer.Pattern text s) = Unit {0}
  ReadyBy (layer.Call name s) = CallsKnown g IsKnown name
  ReadyBy (layer.Group parts) = AreReady g IsKnown parts
  ReadyBy (layer.Choice parts) = (0 < length parts) × AreReady g IsKnown parts
  ReadyBy (layer.Maybe part) = ElementIsReady g IsKnown part
  ReadyBy (layer.Many part) = ElementIsReady g IsKnown part
  ReadyBy (layer.Some1 part) = ElementIsReady g IsKnown part

  by_layer : {f : TermElement-F TermElement} → LayerIsReady g IsKnown f → ReadyBy f
  by_layer ready.literal = tt
  by_layer (ready.range ends) = ends
  by_layer ready.pattern = tt
  by_layer (ready.call calls) = calls
  by_layer (ready.group are) = are
  by_layer (ready.choice some are) = (some, are)
  by_layer (ready.maybe is) = is
  by_layer (ready.many is) = is
  by_layer (ready.some1 is) = is

  to_layer : (f : TermElement-F TermElement) → ReadyBy f → LayerIsReady g IsKnown f
  to_layer (layer.Literal text s) _ = ready.literal
  to_layer (layer.Range from to s) ends = ready.range ends
  to_layer (layer.Pattern text s) _ = ready.pattern
  to_layer (layer.Call name s) calls = ready.call calls
  to_layer (layer.Group parts) are = ready.group are
  to_layer (layer.Choice parts) (some, are) = ready.choice some are
  to_layer (layer.Maybe part) is = ready.maybe is
  to_layer (layer.Many part) is = ready.many is
  to_layer (layer.Some1 part) is = ready.some1 is

  out_ready : {e : TermElement} → ElementIsReady g IsKnown e → LayerIsReady g IsKnown (out-TermElement e)
  out_ready (ready.ready is) = is

  pub ready_form : {e form : TermElement} {f : TermElement-F TermElement} → e ≡ form → out-TermElement form ≡ f → ElementIsReady g IsKnown e → ReadyBy f
  ready_form is out e = by_layer (subst (LayerIsReady g IsKnown) (ap out-TermElement is ∙ out) (out_ready e))

  pub ready_of : {e form : TermElement} {f : TermElement-F TermElement} → e ≡ form → out-TermElement form ≡ f → ReadyBy f → ElementIsReady g IsKnown e
  ready_of {f = f} is out by = ready.ready (subst (LayerIsReady g IsKnown) (sym (ap out-TermElement is ∙ out)) (to_layer f by))

  pub ready_by : {P : Type 0} {e form : TermElement} {f : TermElement-F TermElement} → e ≡ form → out-TermElement form ≡ f → P ↔ ReadyBy f → P ↔ ElementIsReady g IsKnown e
  ready_by is out same = (λ p. ready_of is out (same.0 p), λ e. same.1 (ready_form is out e))

  -- ---- what is seen as a choice
  abbrev HasReadyParts : List TermElement → Type 0
  HasReadyParts parts = (0 < length parts) × AreReady g IsKnown parts

  choice_of : {f : TermElement-F TermElement} → LayerIsReady g IsKnown f → (parts : List TermElement) → as_choice f ≡ Some parts → HasReadyParts parts
  choice_of (ready.choice {parts = found} some are) parts is = subst HasReadyParts (same_Some found parts is) (some, are)
  choice_of ready.literal parts is = absurd (none-some parts is)
  choice_of (ready.range ends) parts is = absurd (none-some parts is)
  choice_of ready.pattern parts is = absurd (none-some parts is)
  choice_of (ready.call calls) parts is = absurd (none-some parts is)
  choice_of (ready.group are) parts is = absurd (none-some parts is)
  choice_of (ready.maybe one) parts is = absurd (none-some parts is)
  choice_of (ready.many one) parts is = absurd (none-some parts is)
  choice_of (ready.some1 one) parts is = absurd (none-some parts is)

  pub ready_choice_at : (e : TermElement) (parts : List TermElement) → Some parts ≡ as_choice (out-TermElement e) → ElementIsReady g IsKnown e → HasReadyParts parts
  ready_choice_at e parts is e_is = choice_of (out_ready e_is) parts (sym is)

  -- ---- rows
  pub all_of : (parts : List TermElement) (part : TermElement) → AreReady g IsKnown parts → Contains parts part → ElementIsReady g IsKnown part
  all_of [] part all (k, inside, is) = absurd (omega arith)
  all_of (x ∷ parts) part (ready.next_part first others) (zero, inside, is) = subst (ElementIsReady g IsKnown) is first
  all_of (x ∷ parts) part (ready.next_part first others) (suc k, inside, is) = all_of parts part others (k, omega arith, is)

  module _ (parts : List TermElement) (i : ℕ) where
    pub next_ready : (part : TermElement) → i < length parts → part ≡ get_or parts i part → ElementIsReady g IsKnown part → AreReady g IsKnown (drop (i + 1) parts) →
        AreReady g IsKnown (drop i parts)
    next_ready part inside is first others = subst (AreReady g IsKnown) (sym (left_here parts i part inside is)) (ready.next_part first others)

    pub over_ready : length parts ≤ i → AreReady g IsKnown (drop i parts)
    over_ready past = subst (AreReady g IsKnown) (sym (drop_all i parts past)) ready.no_part
