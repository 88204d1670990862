use Rattle.std.proofs.Common.{◌+◌, [], ◌∷◌, ◌++◌, take, bytes_eq, refl, sym, ap, ◌∙◌, subst, arith}
use Rattle.std.specs.Map.{lookup}
use Rattle.std.proofs.lemmas.List.{append_assoc, take_more}
use Rattle.lw_properties.specs.Search.{AreFirsts}
use Rattle.lw_properties.proofs.Knowing.{none_there, one_there, firsts_put, firsts_kept}
use Rattle.lw_properties.proofs.attributes.put_attributes.Goals as goal
use Rattle.lw_properties.proofs.attributes.put_attributes.Goals.{then-not-contains_key+in_ok-name+in_ok-insert, else-not-contains_key}

pub loop-attribute-preserved : goal.loop-attribute-preserved
loop-attribute-preserved c before are =
    let known = c.loop-attribute.invariant before are in
    let i = c.loop-attribute.attribute-index in
    let all = c.args.attributes.now in
    let x = c.attribute-item.result in
    let had = c.loop-attribute.firsts.by_name.entries in
    let longer = append_assoc before (take i all) (x ∷ [])
    ∙ ap (λ ys. before ++ ys) (ap (λ y. take i all ++ y ∷ []) c.attribute-item.is ∙ sym (take_more all i x (omega arith))) in
    elim c.if-not-contains_key.branch [
      | then-not-contains_key+in_ok-name+in_ok-insert w ↦
          let fresh = none_there (lookup (bytes_eq x.name) had) (sym c.contains_key.ensures ∙ w.if-not-contains_key.true) in
          let put = firsts_put (before ++ take i all) had x known w.insert.new.self.entries _ w.in_ok-name.name refl w.in_ok-name.ensures fresh w.in_ok-insert.ensures.updates.0 in
          subst (λ m. AreFirsts (before ++ take (i + 1) all) m.by_name.entries) (sym w.firsts-is) (subst (λ ys. AreFirsts ys w.insert.new.self.entries) longer put)
      | else-not-contains_key w ↦
          let there = one_there (lookup (bytes_eq x.name) had) (sym c.contains_key.ensures ∙ w.if-not-contains_key.false) in
          let kept = firsts_kept (before ++ take i all) had x known there.0 there.1 in
          subst (λ m. AreFirsts (before ++ take (i + 1) all) m.by_name.entries) (sym w.firsts-is) (subst (λ ys. AreFirsts ys had) longer kept)
    ]
