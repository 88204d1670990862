-- What repeats nothing in an element, by its form.
use Rattle.std.proofs.Common.{◌≡◌, ◌↔◌, ◌⊎◌, inl, inr, refl, sym, ap, ◌∙◌, subst}
use Rattle.lw_base.specs.declared.token.Span.{Span}
use Rattle.lw_grammar.specs.declared.fault.GrammarFault.{GrammarFault}
use Rattle.lw_grammar.specs.declared.grammar.Grammar.{Grammar}
use Rattle.lw_grammar.specs.declared.rule.Rule.{Rule}
use Rattle.lw_grammar.specs.declared.rule.Element.{Element, out-Element}
use Rattle.lw_grammar.specs.declared.rule.Element.TheOpen as layer
use Rattle.lw_grammar.specs.declared.rule.Element.TheOpen.{Element-F}
use Rattle.lw_faults.specs.Derivations.{HoldsDirectly, in_group, in_choice, in_maybe, in_many, in_some, HasPart, itself, inside}
use Rattle.lw_faults.specs.Faults.{fault}
use Rattle.lw_faults.specs.Reads.{MayRead}
use Rattle.lw_faults.proofs.PartLemmas.{HoldsBy, what_part}
use Rattle.lw_kinds.specs.Telling.{RepeatsAt, TellsRepeats}

module _ (g : Grammar) where
  -- the element itself is marked so
  abbrev MarkedBy : Element-F Element → Span → Type 0
  MarkedBy (layer.Many body t) s = MayRead g body 0 × (t ≡ s)
  MarkedBy (layer.Some1 body t) s = MayRead g body 0 × (t ≡ s)
  MarkedBy _ s = ⊥

  abbrev pub RepeatsBy : Element-F Element → Span → Type 0
  RepeatsBy f s = MarkedBy f s ⊎ ((part : Element) × HoldsBy f part × RepeatsAt g part s)

  marked_many : (f : Element-F Element) (body : Element) (s : Span) → f ≡ layer.Many body s → MayRead g body 0 → MarkedBy f s
  marked_many f body s is none = subst (λ x. MarkedBy x s) (sym is) (none, refl)

  marked_some : (f : Element-F Element) (body : Element) (s : Span) → f ≡ layer.Some1 body s → MayRead g body 0 → MarkedBy f s
  marked_some f body s is none = subst (λ x. MarkedBy x s) (sym is) (none, refl)

  of_marked : (f : Element-F Element) (s : Span) → MarkedBy f s → (body : Element) × ((f ≡ layer.Many body s) ⊎ (f ≡ layer.Some1 body s)) × MayRead g body 0
  of_marked (layer.Many body t) s (none, same) = (body, inl (ap (layer.Many body) same), none)
  of_marked (layer.Some1 body t) s (none, same) = (body, inr (ap (layer.Some1 body) same), none)
  of_marked (layer.Keyword text t) s is = absurd is
  of_marked (layer.Call name t) s is = absurd is
  of_marked (layer.Assign p op v t) s is = absurd is
  of_marked (layer.Act a) s is = absurd is
  of_marked (layer.Group es t) s is = absurd is
  of_marked (layer.Choice es t) s is = absurd is
  of_marked (layer.Maybe e t) s is = absurd is

  holds_directly : (f : Element-F Element) (part : Element) → HoldsBy f part → HoldsDirectly f part
  holds_directly (layer.Group es t) part has = in_group has
  holds_directly (layer.Choice es t) part has = in_choice has
  holds_directly (layer.Maybe e t) part same = subst (HoldsDirectly (layer.Maybe e t)) same in_maybe
  holds_directly (layer.Many e t) part same = subst (HoldsDirectly (layer.Many e t)) same in_many
  holds_directly (layer.Some1 e t) part same = subst (HoldsDirectly (layer.Some1 e t)) same in_some
  holds_directly (layer.Keyword text t) part none = absurd none
  holds_directly (layer.Call name t) part none = absurd none
  holds_directly (layer.Assign p op v t) part none = absurd none
  holds_directly (layer.Act a) part none = absurd none

  module _ (e : Element) (f : Element-F Element) (is : out-Element e ≡ f) (s : Span) where
    repeats_to : RepeatsAt g e s → RepeatsBy f s
    repeats_to (part, body, held, marked, none) = by (what_part is held)
      where
        by : (e ≡ part) ⊎ ((inner : Element) × HoldsBy f inner × HasPart inner part) → RepeatsBy f s
        by (inl same) =
            let out : f ≡ out-Element part = sym is ∙ ap out-Element same in
            inl (elim marked [ inl many ↦ marked_many f body s (out ∙ many) none | inr some ↦ marked_some f body s (out ∙ some) none ])
        by (inr (inner, holds, deeper)) = inr (inner, holds, (part, body, deeper, marked, none))

    repeats_from : RepeatsBy f s → RepeatsAt g e s
    repeats_from (inl here) =
        let found = of_marked f s here in
        (e, found.0, itself, elim found.1 [ inl many ↦ inl (is ∙ many) | inr some ↦ inr (is ∙ some) ], found.2)
    repeats_from (inr (inner, holds, (part, body, deeper, marked, none))) =
        (part, body, inside (subst (λ x. HoldsDirectly x inner) (sym is) (holds_directly f inner holds)) deeper, marked, none)

  -- ---- as faults of a rule
  module _ (rule : Rule) where
    abbrev At : Span → GrammarFault → Type 0
    At s f = f ≡ fault 9 rule.file s rule.name

    module _ {e form : Element} {x : Element-F Element} (is : e ≡ form) (out : out-Element form ≡ x) (f : GrammarFault) where
      layers : out-Element e ≡ x
      layers = ap out-Element is ∙ out

      abbrev TellsBy : Type 0
      TellsBy = (s : Span) × RepeatsBy x s × At s f

      tells_by : TellsBy ↔ TellsRepeats g rule e f
      tells_by = (λ (s, by, at). (s, repeats_from e x layers s by, at), λ (s, does, at). (s, repeats_to e x layers s does, at))

    -- a form that holds nothing
    pub tells_none : {e form : Element} {x : Element-F Element} → e ≡ form → out-Element form ≡ x → ((s : Span) → MarkedBy x s → ⊥) → ((part : Element) → HoldsBy x part → ⊥) →
        (f : GrammarFault) → TellsRepeats g rule e f → ⊥
    tells_none is out unmarked empty f tells = by ((tells_by is out f).1 tells)
      where
        by : TellsBy is out f → ⊥
        by (s, inl marked, at) = unmarked s marked
        by (s, inr (part, holds, deeper), at) = empty part holds

    -- a form that holds parts and is not marked
    pub tells_parts : {e form : Element} {x : Element-F Element} → e ≡ form → out-Element form ≡ x → ((s : Span) → MarkedBy x s → ⊥) →
        (f : GrammarFault) → ((part : Element) × HoldsBy x part × TellsRepeats g rule part f) ↔ TellsRepeats g rule e f
    tells_parts {x = x} is out unmarked f = (
      λ (part, holds, (s, does, at)). (tells_by is out f).0 (s, inr (part, holds, does), at),
      λ tells. by ((tells_by is out f).1 tells),
    )
      where
        by : TellsBy is out f → (part : Element) × HoldsBy x part × TellsRepeats g rule part f
        by (s, inl marked, at) = absurd (unmarked s marked)
        by (s, inr (part, holds, does), at) = (part, holds, (s, does, at))

    -- a form that holds one part and is not marked
    pub tells_part : {e form part : Element} {x : Element-F Element} → e ≡ form → out-Element form ≡ x → ((s : Span) → MarkedBy x s → ⊥) →
        ((inner : Element) → HoldsBy x inner ↔ (part ≡ inner)) → (f : GrammarFault) → TellsRepeats g rule part f ↔ TellsRepeats g rule e f
    tells_part {part = part} is out unmarked holds f = (
      λ tells. (tells_parts is out unmarked f).0 (part, (holds part).1 refl, tells),
      λ tells.
          let found = (tells_parts is out unmarked f).1 tells in subst (λ e. TellsRepeats g rule e f) (sym ((holds found.0).0 found.1)) found.2,
    )

    -- a form that repeats a part
    pub tells_marked : {e form part : Element} {t : Span} {x : Element-F Element} → e ≡ form → out-Element form ≡ x → ((s : Span) → MarkedBy x s ↔ (MayRead g part 0 × (t ≡ s))) →
        ((inner : Element) → HoldsBy x inner ↔ (part ≡ inner)) → (f : GrammarFault) → TellsRepeats g rule e f ↔ ((MayRead g part 0 × At t f) ⊎ TellsRepeats g rule part f)
    tells_marked {e = e} {part = part} {t = t} {x = x} is out marks holds f = (λ tells. forth ((tells_by is out f).1 tells), back)
      where
        forth : TellsBy is out f → (MayRead g part 0 × At t f) ⊎ TellsRepeats g rule part f
        forth (s, inl marked, at) = let found = (marks s).0 marked in inl (found.0, subst (λ u. At u f) (sym found.1) at)
        forth (s, inr (inner, held, does), at) = inr (s, subst (λ e. RepeatsAt g e s) (sym ((holds inner).0 held)) does, at)

        back : (MayRead g part 0 × At t f) ⊎ TellsRepeats g rule part f → TellsRepeats g rule e f
        back (inl (none, at)) = (tells_by is out f).0 (t, inl ((marks t).1 (none, refl)), at)
        back (inr (s, does, at)) = (tells_by is out f).0 (s, inr (part, (holds part).1 refl, does), at)
