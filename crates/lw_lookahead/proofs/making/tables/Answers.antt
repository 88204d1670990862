use Rattle.std.proofs.Common.{refl, subst}
use Rattle.std.specs.List.{AllZip}
use Rattle.lw_lookahead.specs.Conflicts.{CausesNoTables}
use Rattle.lw_lookahead.proofs.ChoiceSteps.{AreOf}
use Rattle.lw_lookahead.proofs.FirstConflict.{each_entries, is_ll, same_count, zip_known}
use Rattle.lw_lookahead.proofs.TableFaults.{choices_fault, entries_fault}
use Rattle.lw_lookahead.proofs.FoundChoices.{err_causes}
use Rattle.lw_lookahead.proofs.making.tables.Goals as goal

pub returns-in_err-choices-clause-fault : goal.returns-in_err-choices-clause-fault
returns-in_err-choices-clause-fault c kinds of =
    let g = c.args.lexicon.g.now in
    let fault = c.in_err-choices.field-0.0 in
    err_causes c.from_residual.result fault (CausesNoTables g kinds c.args.k) c.from_residual.ensures.1 (choices_fault g kinds c.args.k fault (c.in_err-choices.ensures.fault kinds of))

pub returns-in_err-points-clause-fault : goal.returns-in_err-points-clause-fault
returns-in_err-points-clause-fault c kinds of =
    let g = c.args.lexicon.g.now in
    let fault = c.in_err-points.field-0.0 in
    let found = c.in_ok-choices.ensures in
    err_causes c.from_residual-in_err-points.result fault (CausesNoTables g kinds c.args.k) c.from_residual-in_err-points.ensures.1
    (entries_fault g kinds c.args.k c.in_ok-choices.choices.items c.as_slice.result.now c.as_slice.ensures.value (found.choices kinds of) found.short (found.few kinds of) fault (c.in_err-points.ensures.fault kinds of))

pub invariant_of-result : goal.invariant_of-result
invariant_of-result c = record { most = c.requires.most; entries = zip_known c.args.k c.as_slice.result.now c.in_ok-points.points.items c.in_ok-points.ensures.entries }

pub returns-clause-tables : goal.returns-clause-tables
returns-clause-tables c kinds of =
    let g = c.args.lexicon.g.now in
    let k = c.args.k in
    let found = c.in_ok-choices.ensures in
    let points = c.in_ok-choices.choices.items in
    let all = c.in_ok-points.points.items in
    let zip = subst (λ points. AllZip (AreOf k) points all) c.as_slice.ensures.value c.in_ok-points.ensures.entries in
    record {
      depth = refl;
      all = same_count g kinds k points (found.choices kinds of) found.short all zip;
      each = each_entries g kinds k points (found.choices kinds of) found.short all zip;
    }

pub returns-clause-ll : goal.returns-clause-ll
returns-clause-ll c kinds of =
    let g = c.args.lexicon.g.now in
    let k = c.args.k in
    let found = c.in_ok-choices.ensures in
    let points = c.in_ok-choices.choices.items in
    let all = c.in_ok-points.points.items in
    let zip = subst (λ points. AllZip (AreOf k) points all) c.as_slice.ensures.value c.in_ok-points.ensures.entries in
    is_ll g kinds k points (found.choices kinds of) found.short all zip
