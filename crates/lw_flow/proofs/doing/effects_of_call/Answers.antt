use Rattle.std.proofs.Common.{length, refl, sym}
use Rattle.std.proofs.lemmas.Option.{slice_get_read}
use Rattle.std.proofs.lemmas.Result.{IfOk-weaker}
use Rattle.lw_flow.specs.declared.callee.Callee.TheVariants.{Fragment, Step}
use Rattle.lw_flow.proofs.DoingLemmas.{copied_row, fragment_within}
use Rattle.lw_flow.proofs.doing.effects_of_call.Goals as goal

pub bounds-table-number : goal.bounds-table-number
bounds-table-number c = fragment_within c.args.source.now.grammar.now c.in-Fragment.ensures (sym c.requires.sized)

pub returns-in-Fragment : goal.returns-in-Fragment
returns-in-Fragment c =
    let table = c.args.table.now in
    let row = c.index-table-number.result in
    let inside = fragment_within c.args.source.now.grammar.now c.in-Fragment.ensures (sym c.requires.sized) in
    let at = slice_get_read table (length table) c.in-Fragment.number row refl inside c.index-table-number.is in
    IfOk-weaker c.copied.result _ _ (λ set keys. record {
      callee = Fragment c.in-Fragment.number;
      is = c.in-Fragment.ensures;
      exact = copied_row table c.in-Fragment.number row at set.keys c.as_slice.result.now c.as_slice.ensures.keys keys;
    }) c.copied.ensures

pub returns-in-Step : goal.returns-in-Step
returns-in-Step c =
    IfOk-weaker c.alone.result _ _ (λ set keys. record { callee = Step c.in-Step.effect; is = c.in-Step.ensures; exact = keys }) c.alone.ensures
