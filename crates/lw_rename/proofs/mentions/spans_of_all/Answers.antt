use Rattle.std.proofs.Common.{length, take, refl, sym, subst₂}
use Rattle.std.specs.List.{AllZip}
use Rattle.std.proofs.lemmas.Option.{slice_get_read}
use Rattle.std.proofs.lemmas.Slice.Zip.{all_zipped_more}
use Rattle.lw_rename.specs.SpansOf.{AreSpansOf}
use Rattle.lw_rename.proofs.Listing.{take_at}
use Rattle.lw_rename.proofs.mentions.spans_of_all.Goals as goal

pub gathering-preserved : goal.gathering-preserved
gathering-preserved c =
    let views = c.args.views.now in
    let i = c.gathering.view-index in
    let v = c.view-item.result in
    let at = slice_get_read views (length views) i v refl c.gathering-test.true c.view-item.is in
    subst₂ (AllZip (AreSpansOf c.args.target)) (sym (take_at views i v at)) (sym c.in_ok-push.ensures.items)
    (all_zipped_more (AreSpansOf c.args.target) (take i views) c.gathering.spans.items v c.in_ok-spans_in.field-0 c.gathering.invariant c.in_ok-spans_in.ensures)
