use Rattle.std.proofs.Common.{take, ◌+◌, sym, subst}
use Rattle.std.specs.List.{AllZip}
use Rattle.lw_grammar.specs.KindTexts.{texts_of}
use Rattle.lw_lookahead.proofs.ChoiceSteps.{AreOf, no_entries, zip_more}
use Rattle.lw_lookahead.proofs.making.all_entries.Goals as goal

pub returns-in-Err-clause-fault : goal.returns-in-Err-clause-fault
returns-in-Err-clause-fault c kinds of =
    no_entries (texts_of kinds) c.args.k c.args.choices.now c.loop-choice.choice-index c.loop-choice.all.items c.choice-item.result c.loop-choice-test.true
    c.loop-choice.invariant c.choice-item.is c.in-Err.fault (c.in-Err.ensures.fault kinds of)

pub loop-choice-preserved : goal.loop-choice-preserved
loop-choice-preserved c =
    subst (AllZip (AreOf c.args.k) (take (c.loop-choice.choice-index + 1) c.args.choices.now)) (sym c.in_ok-put_behind-in-Ok.ensures)
    (zip_more (AreOf c.args.k) c.args.choices.now c.loop-choice.all.items c.loop-choice.choice-index c.choice-item.result c.in-Ok.own c.loop-choice-test.true
    c.choice-item.is c.loop-choice.invariant c.in-Ok.ensures.entries)
