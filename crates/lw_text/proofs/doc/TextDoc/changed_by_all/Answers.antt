use Rattle.std.proofs.Common.{◌≡◌, ◌⊎◌, Err, inl, inr, ⊎_elim, arith}
use Rattle.std.proofs.lemmas.Result.{err_from_is_err_and}
use Rattle.lw_text.specs.Changes.{Changes, none}
use Rattle.lw_text.specs.declared.change.EditFault.TheVariants.{NoMemory}
use Rattle.lw_text.proofs.Making.{AreMade-more, latest_text, refused_at}
use Rattle.lw_text.proofs.doc.TextDoc.changed_by_all.Goals as goal

pub loop-number-init : goal.loop-number-init
loop-number-init c = none

pub loop-number-preserved : goal.loop-number-preserved
loop-number-preserved c =
    let so_far = c.loop-number in
    let here = latest_text so_far.latest c.as_ref.result c.args.self c.unwrap_or-text.result c.unwrap_or-text.ensures c.as_ref.ensures.value in
    AreMade-more c.args.enc c.args.self.now _ _ _ c.args.changes.now so_far.number c.index-changes-number.result (omega arith) c.index-changes-number.is here so_far.invariant c.in_ok-changed.ensures

pub returns-in_err-changed-clause-fault : goal.returns-in_err-changed-clause-fault
returns-in_err-changed-clause-fault c =
    let so_far = c.loop-number in
    let here = latest_text so_far.latest c.as_ref.result c.args.self c.unwrap_or-text.result c.unwrap_or-text.ensures c.as_ref.ensures.value in
    let fault = c.in_err-changed.field-0.0 in
    let p = err_from_is_err_and c.from_residual.result c.from_residual.ensures.1 in
    let outcome : (fault ≡ NoMemory) ⊎ Changes c.args.enc c.args.self.now c.args.changes.now (Err fault) = ⊎_elim (λ no. inl no)
    (λ r. inr (refused_at c.args.enc c.args.self.now _ _ c.args.changes.now so_far.number c.index-changes-number.result fault (omega arith) c.index-changes-number.is here so_far.invariant r))
    c.in_err-changed.ensures in
    rw (p.1, p.2) outcome
