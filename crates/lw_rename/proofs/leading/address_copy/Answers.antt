use Rattle.std.proofs.Common.{◌≡◌, ℕ, IfOk, List, length, sym, refl, ◌∙◌, subst, arith}
use Rattle.std.proofs.lemmas.Option.{slice_get_read, slice_get_within}
use Rattle.lw_rename.proofs.Addresses.{first_address, is_doc, is_other_doc, no_address, not_below_more}
use Rattle.lw_rename.proofs.leading.address_copy.Goals as goal

pub returns-then-eq : goal.returns-then-eq
returns-then-eq c =
    let views = c.args.views.now in
    let at = slice_get_read views (length views) c.copying.view-index c.view-item.result refl c.copying-test.true c.view-item.is in
    let same = first_address views c.args.doc.0 c.copying.view-index c.view-item.result at (is_doc c.if-eq.ensures) c.copying.invariant in
    subst (λ (a : List ℕ). IfOk c.copy.result (λ name. name ≡ a)) (sym same) c.copy.ensures

pub copying-preserved : goal.copying-preserved
copying-preserved c =
    let views = c.args.views.now in
    let at = slice_get_read views (length views) c.copying.view-index c.view-item.result refl c.copying-test.true c.view-item.is in
    not_below_more views c.args.doc.0 c.copying.view-index c.view-item.result at (is_other_doc c.if-eq.ensures) c.copying.invariant

pub returns : goal.returns
returns c =
    let views = c.args.views.now in
    c.from_string.ensures ∙ c.new.ensures.bytes
    ∙ sym (no_address views c.args.doc.0 (λ k v at. c.copying.invariant k v (let inside = slice_get_within views k v at in omega (arith, inside)) at))
