-- Along the path to a site, and over the parts of a rule.
use Rattle.lw_look.proofs.ChoiceSites.{all_listed, no_others_listed, listed_once}
use Rattle.lw_look.proofs.laws.choices_are_numbered.Goals as goal

pub returns : goal.returns
returns c = record {
  all = all_listed;
  no_others = λ g s have has. no_others_listed g have s has;
  once = listed_once;
}
