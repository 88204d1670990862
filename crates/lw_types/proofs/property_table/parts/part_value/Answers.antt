use Rattle.std.proofs.Common.{refl, sym, subst}
use Rattle.std.proofs.lemmas.Option.{none-some}
use Rattle.lw_numbers.specs.Parts.{value_leaf_of}
use Rattle.lw_properties.specs.Kinds.{kind_of_value}
use Rattle.lw_types.specs.Seeing.{list_of}
use Rattle.lw_types.specs.Values.{PartGives, value, nothing}
use Rattle.lw_types.proofs.property_table.parts.part_value.Goals as goal

pub returns-in_err-told : goal.returns-in_err-told
returns-in_err-told c =
    let g = c.args.source.now.g.now in
    let part = value_leaf_of c.args.part in
    subst (λ o. PartGives g part (list_of o)) (sym c.from_residual.ensures) (nothing (λ kind is. none-some kind ((c.in_err-told.ensures kind).0 is)))

pub returns : goal.returns
returns c =
    let g = c.args.source.now.g.now in
    let kind = kind_of_value c.in_ok-told.told in
    subst (PartGives g (value_leaf_of c.args.part)) (sym (c.value_of.ensures g c.requires.numbers)) (value kind ((c.in_ok-told.ensures kind).1 refl))
