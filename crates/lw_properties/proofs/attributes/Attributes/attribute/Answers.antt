use Rattle.std.proofs.Common.{MatchOption, sym, ap, ◌∙◌, subst}
use Rattle.lw_faults.specs.Attributes.{HasAttribute, HasNoAttribute}
use Rattle.lw_properties.specs.Known.{known_attribute}
use Rattle.lw_properties.proofs.Knowing.{known_none, known_some}
use Rattle.lw_properties.proofs.attributes.Attributes.attribute.Goals as goal

pub returns-in_err-get : goal.returns-in_err-get
returns-in_err-get c g are =
    let name = c.args.type_name.now in
    let p = c.args.p.now in
    subst (λ found. MatchOption found (HasNoAttribute g name p) (λ a. HasAttribute g name p a.now))
    (ap (λ known. known_attribute known name p) (sym c.self.view_is) ∙ known_none g (λ m. m.by_name.entries) c.self.inside.known.entries name p c.in_err-get.ensures.value ∙ sym c.from_residual.ensures)
    (are name p)

pub returns : goal.returns
returns c g are =
    let name = c.args.type_name.now in
    let p = c.args.p.now in
    subst (λ found. MatchOption found (HasNoAttribute g name p) (λ a. HasAttribute g name p a.now))
    (ap (λ known. known_attribute known name p) (sym c.self.view_is)
    ∙ known_some g (λ m. m.by_name.entries) c.self.inside.known.entries name p c.in_ok-get.field-0.now c.in_ok-get.ensures.value ∙ sym c.get-2.ensures.value ∙ sym c.copied.ensures)
    (are name p)
