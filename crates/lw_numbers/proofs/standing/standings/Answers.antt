use Rattle.std.proofs.Common.{ap, ◌∙◌, sym, subst, arith}
use Rattle.std.specs.Option.{option_copied}
use Rattle.lw_numbers.specs.Standing.{Meets}
use Rattle.lw_numbers.proofs.StandingSteps.{Continues, stand_next}
use Rattle.lw_numbers.proofs.standing.standings.Goals as goal
use Rattle.lw_numbers.proofs.standing.standings.Goals.{in-Some, in-None}

pub loop-item-preserved : goal.loop-item-preserved
loop-item-preserved g c =
    let loop = c.loop-item in
    let place = c.place-place.result in
    let new = c.match-get.standing in (
      omega (arith, loop.invariant.0),
      stand_next g.T.Declared.declaration c.args.first c.args.declared.now loop.item-index c.item-item.result c.loop-item-test.true c.item-item.is
          loop.standings.by_name.entries c.insert.new.self.entries new loop.number place c.name.result.now c.in_ok-copy.field-0 (option_copied c.get.result)
          loop.invariant.1 loop.invariant.0 c.place-place.ensures c.name.ensures (c.in_ok-copy.ensures ∙ c.name-in-loop-item.ensures) c.get.ensures.value
          (elim c.match-get.branch [
            | in-Some w ↦ subst (λ r. Continues place loop.number (option_copied r) new) (sym w.in-Some.is)
                (subst (Meets place w.in-Some.standing.now) (sym w.standing-is) w.met_at-standing.ensures)
            | in-None w ↦ subst (λ r. Continues place loop.number (option_copied r) new) (sym w.in-None.is)
                (ap (λ s. s.number) w.standing-is, ap (λ s. s.place) w.standing-is, ap (λ s. s.earliest) w.standing-is)
          ])
          c.in_ok-insert.ensures.updates.0,
    )
