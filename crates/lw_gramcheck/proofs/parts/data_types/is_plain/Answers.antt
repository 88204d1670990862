use Rattle.std.proofs.Common.{refl, sym, subst}
use Rattle.lw_faults.specs.DataTypes.{IsPlainMember, plain, literal}
use Rattle.lw_gramcheck.proofs.parts.data_types.is_plain.Goals as goal

pub returns-in-Plain : goal.returns-in-Plain
returns-in-Plain c = (λ is. subst IsPlainMember (sym c.in-Plain.is) plain, λ is. refl)

pub returns-in-Literal : goal.returns-in-Literal
returns-in-Literal c = (λ is. subst IsPlainMember (sym c.in-Literal.is) literal, λ is. refl)
