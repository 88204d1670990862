use mir.Syntax.{w64}
use Rattle.std.proofs.Common.{◌∙◌, sym, subst, true≢false, FitsSigned}
use Rattle.std.proofs.lemmas.Int.{to_z-of_z}
use Rattle.lw_builder.proofs.Numerals.{becomes_number, becomes_huge, becomes_raw}
use Rattle.lw_builder.proofs.contents.number.Goals as goal

pub returns-in-Ok : goal.returns-in-Ok
returns-in-Ok c =
    let h = c.in-Ok.ensures.value.0 in
    becomes_number c.args.text c.text-3.result.now c.args.span _ c.text-3.ensures.text h.0.0 h.0.1
    (to_z-of_z w64 c.in-Ok.n (subst (λ n. FitsSigned w64 n) (sym h.1) h.0.1) ∙ h.1)

pub returns-in-Err : goal.returns-in-Err
returns-in-Err c =
    becomes_huge c.args.text c.text-3.result.now c.text-2.result.now c.args.span c.text-3.ensures.text c.text-2.ensures.text c.in-Err.ensures.value.0
    (c.is_numeral-numeral.ensures.0 c.if-numeral.true)

pub returns-in-Err-2 : goal.returns-in-Err-2
returns-in-Err-2 c =
    becomes_raw c.args.text c.text-2.result.now c.args.span c.text-2.ensures.text
    (λ n. true≢false (sym (c.is_numeral-numeral.ensures.1 n) ∙ c.if-numeral.false))
