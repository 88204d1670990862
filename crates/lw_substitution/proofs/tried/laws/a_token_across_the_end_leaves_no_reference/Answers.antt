use Rattle.lw_substitution.proofs.Crossing.{none_crossed}
use Rattle.lw_substitution.proofs.ReadSo.{told_apart}
use Rattle.lw_substitution.proofs.tried.laws.a_token_across_the_end_leaves_no_reference.Goals as goal

pub returns : goal.returns
returns c = record {
  crossed = λ g of lexicon front name rest at ts found one_way are is_lexicon first before is over tree r stands.
      none_crossed g of lexicon (told_apart g of lexicon one_way are is_lexicon) are is_lexicon front name rest at ts found first before is over tree r stands;
}
