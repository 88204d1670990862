use Rattle.std.proofs.Common.{◌≡◌, Some, map, slice_get, sym, ap, ◌∙◌, arith}
use Rattle.std.proofs.lemmas.List.{length-map}
use Rattle.lw_rename.specs.Leads.{link_among}
use Rattle.lw_rename.proofs.Listing.{mapped_read, not_both, one_below_more, same_by_places}
use Rattle.lw_rename.proofs.leading.first_other.Goals as goal

pub returns-then-not-lead_alike : goal.returns-then-not-lead_alike
returns-then-not-lead_alike c =
    let link = link_among c.args.views.now in (
      _,
      _,
      record {
        led = mapped_read link c.args.before.now c.comparing.i _ (omega arith);
        leads = mapped_read link c.args.after.now c.comparing.i _ (omega arith);
        differ = λ same. not_both (c.lead_alike.ensures.1 same) c.if-not-lead_alike.true;
        same_before = c.comparing.invariant;
      },
    )

pub comparing-preserved : goal.comparing-preserved
comparing-preserved c k below =
    let link = link_among c.args.views.now in
    one_below_more {P = λ k. slice_get (map link c.args.before.now) k ≡ slice_get (map link c.args.after.now) k} c.comparing.i k c.comparing.invariant
    (mapped_read link c.args.before.now c.comparing.i _ (omega arith) ∙ ap Some (c.lead_alike.ensures.0 c.if-not-lead_alike.false)
    ∙ sym (mapped_read link c.args.after.now c.comparing.i _ (omega arith))) below

pub returns : goal.returns
returns c =
    let link = link_among c.args.views.now in
    let one = length-map c.args.before.now link in
    let other = length-map c.args.after.now link in
    same_by_places (map link c.args.before.now) (map link c.args.after.now) (omega (arith, one, other)) (λ k below. c.comparing.invariant k (omega (arith, one, below)))
