use Rattle.std.proofs.Common.{ℕ, ◌≤◌, ◌+◌, ◌-◌, ◌<◌, ◌↔◌, List, Contains, length, ap, sym, subst, true≢false, ◌∙◌, arith}
use Rattle.std.proofs.lemmas.Option.{slice_get-get_or}
use Rattle.lw_base.specs.declared.numbers.NodeId.{NodeId}
use Rattle.lw_symbols.specs.Runs.{StandsBehindAlike}
use Rattle.lw_symbols.proofs.Alike.{all_behind, none_behind, none_more_behind, one_behind}
use Rattle.lw_symbols.proofs.runs.behind_alike.Goals as goal
use Rattle.lw_symbols.proofs.runs.behind_alike.Goals.{then-is_alike+in_ok-push, else-is_alike}

pub loop-place-init : goal.loop-place-init
loop-place-init c = none_behind c.args.symbols.now c.new-nodes.result.items c.new-nodes.ensures.items

pub loop-place-preserved : goal.loop-place-preserved
loop-place-preserved c =
    let symbols = c.args.symbols.now in
    let i : ℕ = c.loop-place.place in
    let inside : i < length symbols = omega (arith, c.loop-place-test.true) in
    let before : i - 1 < length symbols = omega (arith, inside) in
    let some : 1 ≤ i = omega (arith, c.loop-place.auto.place) in
    let P : List NodeId → Type 0 = λ nodes. (n : NodeId) → Contains nodes n ↔ StandsBehindAlike (i + 1) symbols n in
    elim c.if-is_alike.branch [
      | then-is_alike+in_ok-push w ↦
          subst P (sym (ap (λ (v : _). v.items) w.nodes-is ∙ w.in_ok-push.ensures.items))
          (one_behind symbols i some _ _ (slice_get-get_or symbols (i - 1) _ before) (slice_get-get_or symbols i _ inside) c.loop-place.nodes.items
          (c.is_alike.ensures.0 w.if-is_alike.true) c.loop-place.invariant)
      | else-is_alike w ↦
          subst P (sym (ap (λ (v : _). v.items) w.nodes-is))
          (none_more_behind symbols i some _ _ (slice_get-get_or symbols (i - 1) _ before) (slice_get-get_or symbols i _ inside) c.loop-place.nodes.items
          (λ alike. true≢false (sym (c.is_alike.ensures.1 alike) ∙ w.if-is_alike.false)) c.loop-place.invariant)
    ]

pub returns : goal.returns
returns c = all_behind c.args.symbols.now c.loop-place.nodes.items c.loop-place.place (omega (arith, c.loop-place-test.false)) c.loop-place.invariant
