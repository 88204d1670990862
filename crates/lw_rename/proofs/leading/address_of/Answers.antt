use Rattle.std.proofs.Common.{length, sym, refl, ◌∙◌, arith}
use Rattle.std.proofs.lemmas.Option.{slice_get_read, slice_get_within}
use Rattle.lw_rename.proofs.Addresses.{first_address, is_doc, is_other_doc, no_address, not_below_more}
use Rattle.lw_rename.proofs.leading.address_of.Goals as goal

pub returns-then-eq : goal.returns-then-eq
returns-then-eq c =
    let views = c.args.views.now in
    let at = slice_get_read views (length views) c.finding.view-index c.view-item.result refl c.finding-test.true c.view-item.is in
    c.bytes.ensures.bytes ∙ sym (first_address views c.args.doc.0 c.finding.view-index c.view-item.result at (is_doc c.if-eq.ensures) c.finding.invariant)

pub finding-preserved : goal.finding-preserved
finding-preserved c =
    let views = c.args.views.now in
    let at = slice_get_read views (length views) c.finding.view-index c.view-item.result refl c.finding-test.true c.view-item.is in
    not_below_more views c.args.doc.0 c.finding.view-index c.view-item.result at (is_other_doc c.if-eq.ensures) c.finding.invariant

pub returns : goal.returns
returns c =
    let views = c.args.views.now in
    sym (no_address views c.args.doc.0 (λ k v at. c.finding.invariant k v (let inside = slice_get_within views k v at in omega (arith, inside)) at))
