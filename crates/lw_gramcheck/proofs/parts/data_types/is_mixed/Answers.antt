use Rattle.std.proofs.Common.{◌↔◌, IsTrue, not, sym, subst}
use Rattle.lw_grammar.specs.declared.rule.RuleResult.{RuleResult}
use Rattle.lw_gramcheck.specs.Parts.{IsMixed}
use Rattle.lw_gramcheck.proofs.DataTypeLemmas.{turned}
use Rattle.lw_gramcheck.proofs.parts.data_types.is_mixed.Goals as goal

pub returns-in-Gives : goal.returns-in-Gives
returns-in-Gives c =
    let P : RuleResult → Type 0 = λ says. IsTrue (not c.is_data_type.result) ↔ IsMixed c.args.checker.now.g.now c.args.rule.now says in
    subst P (sym c.in-Gives.is) (turned c.is_data_type.result c.is_data_type.ensures)
