use Rattle.std.proofs.Common.{subst, sym, ap, refl, ◌∙◌}
use Rattle.std.specs.Option.{IsSome}
use Rattle.std.proofs.lemmas.Bool.{false≢true}
use Rattle.std.specs.BTreeMap as tree
use Rattle.lw_index.specs.Slots.{slot_at, name_cmp}
use Rattle.lw_index.specs.Turns.{swept}
use Rattle.lw_index.proofs.NameTurn.{turns_through, turns_unnamed, turns_emptied, no_entries}
use Rattle.lw_index.proofs.names.sweep.Goals as goal
use Rattle.lw_index.proofs.names.sweep.Goals.{in-Some, in-None}

pub returns-then-empty : goal.returns-then-empty
returns-then-empty c =
    let names = c.args.names.now in
    elim c.match-get_mut.branch [
      | in-Some w ↦ (
          let after = w.sweep.new.exporters in
          turns_emptied swept c.args.name.now c.args.place.now names c.match-get_mut.names c.remove.new.self w.in-Some.exporters.now after w.in-Some.ensures.value w.sweep.ensures
          (λ q. ap (λ m. tree.get name_cmp m q) w.names-is ∙ ((c.get_mut.follows.holds after).3 (subst IsSome w.in-Some.ensures.value refl)).0 q)
          (no_entries after.entries (w.is_empty-empty.ensures.0 (sym w.empty-is ∙ c.if-empty.true))) c.remove.ensures.updates.0)
      | in-None w ↦ absurd (false≢true (sym w.empty-is ∙ c.if-empty.true))
    ]

pub returns-else-empty : goal.returns-else-empty
returns-else-empty c =
    let names = c.args.names.now in
    elim c.match-get_mut.branch [
      | in-Some w ↦ (
          let after = w.sweep.new.exporters in
          turns_through swept c.args.name.now c.args.place.now names c.match-get_mut.names w.in-Some.exporters.now after w.in-Some.ensures.value w.sweep.ensures
          (λ q. ap (λ m. tree.get name_cmp m q) w.names-is ∙ ((c.get_mut.follows.holds after).3 (subst IsSome w.in-Some.ensures.value refl)).0 q))
      | in-None w ↦
          turns_unnamed swept c.args.name.now c.args.place.now names c.match-get_mut.names refl (sym w.in-None.ensures.value) (λ m p. ap (λ ns. slot_at ns m p) (w.names-is ∙ c.get_mut.follows.holds-at-none))
    ]
