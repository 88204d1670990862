use Rattle.std.proofs.Common.{OnOk, length, refl, subst}
use Rattle.std.proofs.lemmas.Option.{slice_get_past, slice_get_read}
use Rattle.std.proofs.lemmas.Result.{on_ok_weaker}
use Rattle.lw_first.specs.Sets.{AddsHeads}
use Rattle.lw_first.proofs.HeadLemmas.{adds_as, adds_none}
use Rattle.lw_first.specs.Forms.{FollowedBefore}
use Rattle.lw_first.proofs.CallForms.{rule_before, no_rule_before}
use Rattle.lw_first.proofs.first.First.rule.Goals as goal

pub returns-in-Some : goal.returns-in-Some
returns-in-Some c =
    let first = c.args.self.now in
    let lookup = c.in-Some.ensures.lookup in
    on_ok_weaker c.all_followed.result (adds_as c.args.into.now c.all_followed.new.into
    (rule_before first.k first.heads.now c.args.number c.args.after.now c.in-Some.heads.now
    (slice_get_read first.heads.now (length first.heads.now) c.args.number c.in-Some.heads.now refl lookup.3.0 lookup.1)))
    (subst (λ heads. OnOk c.all_followed.result (AddsHeads (FollowedBefore first.k heads c.args.after.now) c.args.into.now c.all_followed.new.into)) c.as_slice.ensures c.all_followed.ensures)

pub returns-in-None : goal.returns-in-None
returns-in-None c =
    let first = c.args.self.now in
    adds_none c.args.into.now (no_rule_before first.k first.heads.now c.args.number c.args.after.now (slice_get_past first.heads.now c.args.number c.in-None.ensures.lookup.3))
