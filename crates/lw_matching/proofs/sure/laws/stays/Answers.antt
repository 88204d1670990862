-- What stays, and how a cut is parted.
use Rattle.lw_matching.proofs.PartedLemmas.{cut_within, cut_joins, whole_cut, cut_parted}
use Rattle.lw_matching.proofs.StaysLemmas.{next_stays, cut_stays}
use Rattle.lw_matching.proofs.sure.laws.stays.Goals as goal

pub returns : goal.returns
returns c = record {
  next = next_stays;
  cut = cut_stays;
  within = cut_within;
  join = λ lexicon text to n tokens others front. cut_joins lexicon text to tokens front n others;
  whole = λ lexicon text to tokens others front. whole_cut lexicon text to tokens front others;
  split = cut_parted;
}
