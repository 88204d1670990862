use Rattle.std.proofs.Common.{refl, sym, subst}
use Rattle.lw_faults.specs.Properties.{MisfitsAttribute}
use Rattle.lw_faults.specs.Properties as property
use Rattle.lw_properties.proofs.Asking.{told_again, flag_misfits, one_misfits, add_misfits, misfits_one, misfits_add}
use Rattle.lw_properties.proofs.questions.misfits_attribute.Goals as goal

pub returns-in-Flag : goal.returns-in-Flag
returns-in-Flag c =
    let g = c.args.known.now.g.now in let a = c.args.attribute.now in let v = c.args.value.now in
    told_again c.refuses.result c.refuses.ensures
    (λ is. subst (MisfitsAttribute g a v) (sym c.in-Flag.is) (property.no_flag is), λ is. flag_misfits g a v (subst (MisfitsAttribute g a v) c.in-Flag.is is))

pub returns-in-One : goal.returns-in-One
returns-in-One c =
    let g = c.args.known.now.g.now in let a = c.args.attribute.now in let v = c.args.value.now in
    (λ _. subst (MisfitsAttribute g a v) (sym c.in-One.is) (property.list c.if-attribute.true), λ _. refl)

pub returns-in-One-2 : goal.returns-in-One-2
returns-in-One-2 c =
    let g = c.args.known.now.g.now in let a = c.args.attribute.now in let v = c.args.value.now in
    told_again c.refuses_part.result c.refuses_part.ensures
    (λ is. subst (MisfitsAttribute g a v) (sym c.in-One-2.is) (misfits_one g a v is), λ is. one_misfits g a v c.if-attribute.false (subst (MisfitsAttribute g a v) c.in-One-2.is is))

pub returns-in-Add : goal.returns-in-Add
returns-in-Add c =
    let g = c.args.known.now.g.now in let a = c.args.attribute.now in let v = c.args.value.now in
    told_again c.refuses_part-in-Add.result c.refuses_part-in-Add.ensures
    (λ is. subst (MisfitsAttribute g a v) (sym c.in-Add.is) (misfits_add g a v is), λ is. add_misfits g a v c.if-attribute-2.true (subst (MisfitsAttribute g a v) c.in-Add.is is))

pub returns-in-Add-2 : goal.returns-in-Add-2
returns-in-Add-2 c =
    let g = c.args.known.now.g.now in let a = c.args.attribute.now in let v = c.args.value.now in
    (λ _. subst (MisfitsAttribute g a v) (sym c.in-Add-2.is) (property.no_list c.if-attribute-2.false), λ _. refl)
