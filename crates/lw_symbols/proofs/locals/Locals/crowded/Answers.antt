use Rattle.std.proofs.Common.{sym, subst}
use Rattle.std.proofs.lemmas.Result.{IfOk-weaker}
use Rattle.lw_symbols.specs.Symbols.{AreSymbolsOf}
use Rattle.lw_symbols.proofs.Alike.{double_behind, node_inside}
use Rattle.lw_symbols.proofs.locals.Locals.crowded.Goals as goal

pub returns-clause-inside : goal.returns-clause-inside
returns-clause-inside c tree are =
    let symbols = subst (AreSymbolsOf tree) (sym c.as_slice.ensures.value) are.symbols in
    IfOk-weaker c.behind_alike.result _ _ (λ nodes behind n has. node_inside tree c.as_slice.result.now symbols n ((behind n).0 has)) c.behind_alike.ensures

pub returns-clause-doubles : goal.returns-clause-doubles
returns-clause-doubles c tree are =
    let symbols = subst (AreSymbolsOf tree) (sym c.as_slice.ensures.value) are.symbols in
    IfOk-weaker c.behind_alike.result _ _
    (λ nodes behind n name type named double. (behind n).1 (double_behind tree c.as_slice.result.now symbols n name type named double)) c.behind_alike.ensures
