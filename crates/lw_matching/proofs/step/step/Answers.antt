use Rattle.std.proofs.Common.{◌∙◌, sym}
use Rattle.lw_matching.proofs.StepLemmas.{pair_below, over_split, over_save, over_look, over_no_look, over_match, over_fail}
use Rattle.lw_matching.proofs.step.step.Goals as goal

pub returns-in-Split : goal.returns-in-Split
returns-in-Split c = (
  pair_below c.args.nfa.now c.args.text.now _ c.args.id c.args.at c.in-Split.ensures.sound.0 c.requires.at,
  pair_below c.args.nfa.now c.args.text.now _ c.args.id c.args.at c.in-Split.ensures.sound.1 c.requires.at,
  λ more. over_split c.args.nfa.now c.args.text.now more c.args.id c.args.at _ _ (sym c.in-Split.ensures.is),
)

pub returns-in-Save : goal.returns-in-Save
returns-in-Save c = (
  pair_below c.args.nfa.now c.args.text.now _ c.args.id c.args.at c.in-Save.ensures.sound.1 c.requires.at,
  λ more. over_save c.args.nfa.now c.args.text.now more c.args.id c.args.at _ _ (sym c.in-Save.ensures.is),
)

pub returns-in-Some-true : goal.returns-in-Some-true
returns-in-Some-true c = (
  pair_below c.args.nfa.now c.args.text.now _ c.args.id c.args.at c.in-Look.ensures.sound c.requires.at,
  λ more. over_look c.args.nfa.now c.args.text.now more c.args.id c.args.at _ _ (sym c.in-Look.ensures.is) (c.in-Some-true.ensures more ∙ c.in-Some-true.field-0-test),
)

pub returns-in-Some-false : goal.returns-in-Some-false
returns-in-Some-false c more =
    over_no_look c.args.nfa.now c.args.text.now more c.args.id c.args.at _ _ (sym c.in-Look.ensures.is) (c.in-Some-false.ensures more ∙ c.in-Some-false.field-0-test)

pub returns-in-Match : goal.returns-in-Match
returns-in-Match c more = over_match c.args.nfa.now c.args.text.now more c.args.id c.args.at (sym c.in-Match.ensures.is)

pub returns-in-Fail : goal.returns-in-Fail
returns-in-Fail c more = over_fail c.args.nfa.now c.args.text.now more c.args.id c.args.at (sym c.in-Fail.ensures.is)
