use Rattle.std.proofs.Common.{◌≡◌, ℕ, List, cond, Some, subst, ap, refl, ◌∙◌}
use Rattle.std.specs.Option.{IsSome}
use Rattle.std.specs.Ordering.{eq_by_cmp}
use Rattle.std.specs.BTreeMap as tree
use Rattle.std.proofs.lemmas.Result.{on_ok_weaker, on_err_weaker}
use Rattle.lw_index.specs.Slots.{name_cmp}
use Rattle.lw_index.specs.Turns.{reserved}
use Rattle.lw_index.proofs.NameTurn.{turns_through, stays_through, turns_fresh}
use Rattle.lw_index.proofs.names.reserve.Goals as goal

pub returns-in-Some-clause-made : goal.returns-in-Some-clause-made
returns-in-Some-clause-made c =
    let after = c.reserve.new.exporters in
    on_ok_weaker c.reserve.result (λ turns. turns_through (reserved c.args.doc) c.args.name.now c.args.place.now c.args.names.now (c.get_mut.follows.lender after) c.in-Some.exporters.now after c.in-Some.ensures.value turns
    ((c.get_mut.follows.holds after).3 (subst IsSome c.in-Some.ensures.value refl)).0) c.reserve.ensures.made

pub returns-in-Some-clause-refused : goal.returns-in-Some-clause-refused
returns-in-Some-clause-refused c =
    let after = c.reserve.new.exporters in
    on_err_weaker c.reserve.result (λ same. stays_through c.args.name.now c.args.names.now (c.get_mut.follows.lender after) c.in-Some.exporters.now after c.in-Some.ensures.value same
    ((c.get_mut.follows.holds after).3 (subst IsSome c.in-Some.ensures.value refl)).0) c.reserve.ensures.refused

pub returns-clause-made : goal.returns-clause-made
returns-clause-made c =
    let after = c.reserve-2.new.exporters in
    let names = c.args.names.now in
    turns_fresh (reserved c.args.doc) c.args.name.now c.args.place.now names c.insert.new.self c.new-exporters.result after c.in_default.ensures.value c.new-exporters.ensures.empty c.in_ok-reserve.ensures.made
    (λ q. subst (λ (k : List ℕ). tree.get name_cmp c.insert.new.self q ≡ cond (eq_by_cmp name_cmp k q) (Some after) (tree.get name_cmp names q)) c.in_ok-copy.ensures (c.in_ok-insert.ensures.updates.0 q ∙ ap (λ m. cond (eq_by_cmp name_cmp c.in_ok-copy.field-0 q) (Some after) (tree.get name_cmp m q)) c.get_mut.follows.holds-at-none))
