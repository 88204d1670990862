-- The parts of an element, by its form.
use Rattle.std.proofs.Common.{◌≡◌, ◌⊎◌, inl, inr, Contains, refl, subst}
use Rattle.lw_grammar.specs.declared.rule.Element.{Element, out-Element}
use Rattle.lw_grammar.specs.declared.rule.Element.TheOpen as layer
use Rattle.lw_grammar.specs.declared.rule.Element.TheOpen.{Element-F}
use Rattle.lw_faults.specs.Derivations.{HoldsDirectly, in_group, in_choice, in_maybe, in_many, in_some, HasPart, itself, inside}

abbrev pub HoldsBy : Element-F Element → Element → Type 0
HoldsBy (layer.Group es s) part = Contains es part
HoldsBy (layer.Choice es s) part = Contains es part
HoldsBy (layer.Maybe e s) part = e ≡ part
HoldsBy (layer.Many e s) part = e ≡ part
HoldsBy (layer.Some1 e s) part = e ≡ part
HoldsBy _ part = ⊥

by_layer : {f : Element-F Element} {part : Element} → HoldsDirectly f part → HoldsBy f part
by_layer (in_group has) = has
by_layer (in_choice has) = has
by_layer in_maybe = refl
by_layer in_many = refl
by_layer in_some = refl

-- the element itself, or a part of what it holds
pub what_part : {e : Element} {f : Element-F Element} {deeper : Element} → out-Element e ≡ f → HasPart e deeper →
    (e ≡ deeper) ⊎ ((part : Element) × HoldsBy f part × HasPart part deeper)
what_part is itself = inl refl
what_part is (inside {part} holds has) = inr (part, by_layer (subst (λ f. HoldsDirectly f part) is holds), has)
