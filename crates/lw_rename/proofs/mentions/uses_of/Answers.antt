use Rattle.std.proofs.Common.{◌+◌, List, length, slice_get, refl, sym, ap, ◌∙◌, subst, arith}
use Rattle.std.proofs.lemmas.Option.{slice_get_read}
use Rattle.lw_rename.specs.SpansOf.{keyed_span}
use Rattle.lw_rename.specs.declared.mentions.SpanKey.{SpanKey}
use Rattle.lw_rename.proofs.Lent.{got}
use Rattle.lw_rename.proofs.Listing.{not_both}
use Rattle.lw_rename.proofs.Uses.{AreUsesBelow, all_uses, no_use_more, one_use_more}
use Rattle.lw_tree.specs.declared.node.Reference.{Reference}
use Rattle.lw_rename.proofs.mentions.uses_of.Goals as goal
use Rattle.lw_rename.proofs.mentions.uses_of.Goals.{then-leads_to+in_ok-push, else-leads_to}

pub uses-preserved : goal.uses-preserved
uses-preserved c =
    let tree = c.args.tree.now in
    let answers = c.args.answers.now in
    let i = c.uses.i in
    let items = c.refs-reference-items.result.now in
    let found = got answers i c.get.result c.get.ensures.lookup in
    let at = ap (λ (xs : List Reference). slice_get xs i) (sym c.refs-reference-items.ensures)
    ∙ slice_get_read items (length items) i c.reference-item.result refl c.uses-test.true c.reference-item.is in
    elim c.if-leads_to.branch [
      | then-leads_to+in_ok-push w ↦
          subst (λ (keys : List SpanKey). AreUsesBelow tree answers c.args.target (i + 1) keys) (sym (ap (λ v. v.items) w.keys-is ∙ w.in_ok-push.ensures.items))
          (one_use_more tree answers c.args.target i c.uses.keys.items c.reference-item.result w.key_of.result c.uses.invariant at
          (sym found ∙ c.leads_to.ensures.0 w.if-leads_to.true) (ap keyed_span w.key_of.ensures))
      | else-leads_to w ↦
          subst (λ (keys : List SpanKey). AreUsesBelow tree answers c.args.target (i + 1) keys) (sym (ap (λ v. v.items) w.keys-is))
          (no_use_more tree answers c.args.target i c.uses.keys.items c.uses.invariant (λ lead. not_both (c.leads_to.ensures.1 (found ∙ lead)) w.if-leads_to.false))
    ]

pub returns : goal.returns
returns c = all_uses c.args.tree.now c.args.answers.now c.args.target c.uses.i c.uses.keys.items c.uses.invariant
    (omega (arith, ap length c.refs-reference-items.ensures, c.uses-test.false))
