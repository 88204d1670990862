use Rattle.std.proofs.Common.{◌≡◌, ◌+◌, length, inl, inr, refl, sym, ap, ◌∙◌, subst, true≢false}
use Rattle.std.proofs.lemmas.Option.{same_Some, slice_get_read}
use Rattle.lw_grammar.specs.declared.terminal.Terminal.{Terminal}
use Rattle.lw_kinds.specs.Gathering.{ArePlacesBelow, IsKindBy}
use Rattle.lw_kinds.proofs.PlaceSteps.{places_none, places_more, places_same}
use Rattle.lw_kinds.proofs.terminals.kind_places.Goals as goal
use Rattle.lw_kinds.proofs.terminals.kind_places.Goals.{then-is_kind+in_ok-push, else-is_kind}

pub loop-place-init : goal.loop-place-init
loop-place-init c =
    let called = c.args.called.now in
    let terminals = c.args.terminals.now in
    subst (ArePlacesBelow (IsKindBy called terminals) terminals 0) (sym c.new-places.ensures.items) (places_none (IsKindBy called terminals) terminals)

pub loop-place-preserved : goal.loop-place-preserved
loop-place-preserved c =
    let called = c.args.called.now in
    let terminals = c.args.terminals.now in
    let i = c.loop-place.place in
    let terminal = c.index-terminals-place.result in
    let there = slice_get_read terminals (length terminals) i terminal refl c.loop-place-test.true c.index-terminals-place.is in
    let is = c.is_kind.ensures in
    let places = c.loop-place.places.items in
    elim c.if-is_kind.branch [
      | then-is_kind+in_ok-push w ↦
          subst (λ new. ArePlacesBelow (IsKindBy called terminals) terminals (i + 1) new.items) (sym w.places-is)
          (subst (ArePlacesBelow (IsKindBy called terminals) terminals (i + 1)) (sym w.in_ok-push.ensures.items)
          (places_more (IsKindBy called terminals) terminals i terminal there places c.loop-place.invariant (let fact = is.0 w.if-is_kind.true in (terminal, there, fact.0, fact.1))))
      | else-is_kind w ↦
          subst (λ new. ArePlacesBelow (IsKindBy called terminals) terminals (i + 1) new.items) (sym w.places-is)
          (places_same (IsKindBy called terminals) terminals i terminal there places c.loop-place.invariant (λ (other, at, whole, either).
          let same : other ≡ terminal = same_Some other terminal (sym at ∙ there) in
          true≢false
          (sym (is.1 (ap (λ (x : Terminal). x.is_fragment) (sym same) ∙ whole, elim either [ inl hidden ↦ inl (ap (λ (x : Terminal). x.is_hidden) (sym same) ∙ hidden) | inr marked ↦ inr marked ]))
          ∙ w.if-is_kind.false)))
    ]
