use Rattle.std.proofs.Common.{◌∷◌, [], take, sym, ap, ◌∙◌}
use Rattle.std.proofs.lemmas.List.{take-append-le}
use Rattle.lw_first.specs.Heads.{kinds_in}
use Rattle.lw_first.proofs.heads.head.Head.behind.Goals as goal

pub returns-in-Three : goal.returns-in-Three
returns-in-Three c =
    let a = c.in-Three.a in
    let b = c.in-Three.b in
    c.of_three-in-Three.ensures
    ∙ sym (take-append-le c.args.k (c.args.kind.0 ∷ a.0 ∷ b.0 ∷ []) (c.in-Three.field-2.0 ∷ []) c.requires)
    ∙ ap (λ head. take c.args.k (c.args.kind.0 ∷ kinds_in head)) (sym c.in-Three.is)
