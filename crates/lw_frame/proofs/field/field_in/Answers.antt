use Rattle.std.proofs.Common.{◌∙◌, sym, arith}
use Rattle.std.proofs.lemmas.Grind.{common_steps}
use Rattle.lw_frame.proofs.Fields.{field_by_place, no_field}
use Rattle.lw_frame.proofs.field.field_in.Goals as goal

pub returns-in_default : goal.returns-in_default
returns-in_default c = no_field c.args.line.now (sym c.colon_in.ensures ∙ c.in_default.is)

pub returns-then-not-is_length_name : goal.returns-then-not-is_length_name
returns-then-not-is_length_name c =
    let told = field_by_place c.args.line.now c.in-Some.colon (sym c.in-Some.ensures) c.if-colon-eq0.false in
    grind (arith, common_steps)

pub returns-in-Some-number_in : goal.returns-in-Some-number_in
returns-in-Some-number_in c =
    let told = field_by_place c.args.line.now c.in-Some.colon (sym c.in-Some.ensures) c.if-colon-eq0.false in
    grind (arith, common_steps)

pub returns-in-None : goal.returns-in-None
returns-in-None c =
    let told = field_by_place c.args.line.now c.in-Some.colon (sym c.in-Some.ensures) c.if-colon-eq0.false in
    grind (arith, common_steps)
