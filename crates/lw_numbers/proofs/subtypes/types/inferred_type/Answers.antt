use Rattle.std.proofs.Common.{sym, ◌∙◌, true≢false}
use Rattle.lw_grammar.specs.Subtypes.{HasType, InfersType}
use Rattle.lw_numbers.proofs.Typing.{answers_alike, SameTypes, inferred_own, inferred_returned, not_inferred}
use Rattle.lw_numbers.proofs.subtypes.types.inferred_type.Goals as goal
use Rattle.lw_numbers.proofs.subtypes.types.inferred_type.Goals.{in_default-via-in-Returns+else-is_declared, in_default-via-in_default}

pub returns-in-Returns : goal.returns-in-Returns
returns-in-Returns c =
    not_inferred c.args.g.now c.args.rule.now c.in-Returns.name c.in-Returns.field-1 c.in-Returns.is (c.is_declared.ensures.0 c.if-is_declared.true)

pub returns-in_default : goal.returns-in_default
returns-in_default c =
    let g = c.args.g.now in
    let rule = c.args.rule.now in
    let same : SameTypes g rule = elim c.in_default.branch [
      | in_default-via-in-Returns+else-is_declared w ↦ inferred_returned g rule w.in-Returns.name w.in-Returns.field-1 w.in-Returns.is (λ is. true≢false (sym (w.is_declared.ensures.1 is) ∙ w.if-is_declared.false))
      | in_default-via-in_default w ↦ inferred_own g rule w.in_default.not-Returns
    ] in
    answers_alike (λ own. own.now) (HasType g rule) (InfersType g rule) same c.type_of.result (c.type_of.ensures g)
