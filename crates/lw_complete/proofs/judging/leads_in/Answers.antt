use Rattle.std.proofs.Common.{◌≡◌, ◌+◌, ◌<◌, ◌≤◌, ◌++◌, ◌∷◌, [], List, length, take, sym, ap, subst, ◌∙◌, arith}
use Rattle.std.proofs.lemmas.List.{take_all, take_more}
use Rattle.lw_tree.specs.declared.node.Reference.{Reference}
use Rattle.lw_complete.specs.Judged.{IsToldOf}
use Rattle.lw_complete.proofs.judging.leads_in.Goals as goal

pub references-preserved : goal.references-preserved
references-preserved c trees address among =
    let items = c.refs-reference-items.result.now in
    let i = c.references.reference-index in
    let r = c.reference-item.result in
    let inside : i < length items = omega arith in
    let more : take (i + 1) items ≡ take i items ++ r ∷ [] =
    take_more items i r inside ∙ ap (λ (x : Reference). take i items ++ x ∷ []) (sym c.reference-item.is) in
    subst (λ (refs : List Reference). IsToldOf c.args.typing.now trees address c.args.tree.now c.args.start c.args.end refs c.told-found.result) (sym more)
    (c.told-found.ensures trees address (take i items) among (c.references.invariant trees address among))

pub returns : goal.returns
returns c trees address among =
    let items = c.refs-reference-items.result.now in
    let past : length items ≤ c.references.reference-index = omega arith in
    subst (λ (refs : List Reference). IsToldOf c.args.typing.now trees address c.args.tree.now c.args.start c.args.end refs c.references.found)
    (take_all c.references.reference-index items past ∙ c.refs-reference-items.ensures) (c.references.invariant trees address among)
