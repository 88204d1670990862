use Rattle.std.proofs.Common.{refl, ap, ◌∙◌}
use Rattle.std.specs.FinMap as map
use Rattle.lw_index.specs.Turns.{emptied, swept, TurnsAll}
use Rattle.lw_index.proofs.Entering.{entered_without}
use Rattle.lw_index.proofs.View.{shown_remove}
use Rattle.lw_index.proofs.Asked.{gone_is, was_there}
use Rattle.lw_index.proofs.Exchanged.{turns_known, emptied_and_swept}
use Rattle.lw_index.proofs.index.Index.remove.Goals as goal

pub invariant_of-self : goal.invariant_of-self
invariant_of-self c =
    let old = c.or_nothing-uri.result in
    let names = c.self.inside.names in
    let out : TurnsAll (λ _. emptied) old.uri old.exports names c.withdraw_all.new.names = turns_known (λ _. emptied) old.uri old.uri c.as_slice.result.now old.exports names c.withdraw_all.new.names refl c.as_slice.ensures c.withdraw_all.ensures.turned in
    let away : TurnsAll (λ _. swept) old.uri old.exports c.withdraw_all.new.names c.sweep_all.new.names =
    turns_known (λ _. swept) c.withdraw_all.new.place.1 old.uri c.as_slice-2.result.now old.exports c.withdraw_all.new.names c.sweep_all.new.names c.withdraw_all.ensures.uri c.as_slice-2.ensures c.sweep_all.ensures.turned in
    entered_without c.self.inside.documents names c.self.invariant c.args.doc.0 old.uri old.exports (was_there _ _ old c.remove-old.ensures.value c.or_nothing-uri.ensures) c.remove-old.new.self c.sweep_all.new.names
    c.remove-old.ensures.updates.0 (emptied_and_swept old.uri old.exports names c.withdraw_all.new.names c.sweep_all.new.names out away)

pub returns-clause-after : goal.returns-clause-after
returns-clause-after c = shown_remove c.self.inside.documents c.remove-old.new.self c.args.doc.0 c.remove-old.ensures.updates.0 ∙ ap (λ v. map.remove v c.args.doc.0) c.self.view_is

pub returns-clause-gone : goal.returns-clause-gone
returns-clause-gone c = (refl, gone_is c.self.inside.documents c.args.self.now c.args.doc.0 _ c.or_nothing-uri.result c.self.view_is c.remove-old.ensures.value c.or_nothing-uri.ensures)
