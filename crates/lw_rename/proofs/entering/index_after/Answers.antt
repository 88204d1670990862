use Rattle.std.proofs.Common.{Option, length, refl, sym, subst, arith}
use Rattle.std.proofs.lemmas.Option.{slice_get_read}
use Rattle.lw_link.specs.Indexed.{AreEntriesAt}
use Rattle.lw_tree.specs.Parts.{Parts}
use Rattle.lw_rename.specs.Entries.{HasRoot}
use Rattle.lw_rename.proofs.Putting.{entered_more, free, nothing_entered}
use Rattle.lw_rename.proofs.entering.index_after.Goals as goal

pub entering-init : goal.entering-init
entering-init c = nothing_entered c.args.views.now c.requires.apart c.args.trees.now c.new-index.result c.new-index.ensures

pub exports_of-requires : goal.exports_of-requires
exports_of-requires c =
    let views = c.args.views.now in
    let trees = c.args.trees.now in
    let at = slice_get_read views (length views) c.entering.i c.index-views-i.result refl c.entering-test.true c.index-views-i.is in
    let there = slice_get_read trees (length trees) c.entering.i c.index-trees-i.result refl (omega (arith, c.entering-test.true, c.requires.long)) c.index-trees-i.is in
    subst HasRoot (sym c.tree_after.ensures) (c.requires.rooted c.entering.i c.index-views-i.result c.index-trees-i.result (record { view = at; new = there }))

pub set-requires : goal.set-requires
set-requires c =
    let views = c.args.views.now in
    let trees = c.args.trees.now in
    let at = slice_get_read views (length views) c.entering.i c.index-views-i.result refl c.entering-test.true c.index-views-i.is in
    let there = slice_get_read trees (length trees) c.entering.i c.index-trees-i.result refl (omega (arith, c.entering-test.true, c.requires.long)) c.index-trees-i.is in
    free views c.requires.apart trees c.entering.i c.index-views-i.result c.index-trees-i.result (record { view = at; new = there }) c.entering.index c.entering.invariant

pub entering-preserved : goal.entering-preserved
entering-preserved c =
    let views = c.args.views.now in
    let trees = c.args.trees.now in
    let at = slice_get_read views (length views) c.entering.i c.index-views-i.result refl c.entering-test.true c.index-views-i.is in
    let there = slice_get_read trees (length trees) c.entering.i c.index-trees-i.result refl (omega (arith, c.entering-test.true, c.requires.long)) c.index-trees-i.is in
    entered_more views c.requires.apart trees c.entering.i c.index-views-i.result c.index-trees-i.result (record { view = at; new = there }) c.entering.index c.entering.invariant
    c.in_ok-exports.exports.items (subst (λ (o : Option Parts). AreEntriesAt o c.in_ok-exports.exports.items) c.tree_after.ensures c.in_ok-exports.ensures) _ c.in_ok-set.ensures.ok
