use Rattle.lw_substitution.proofs.NoReference.{no_sentence, none_spans}
use Rattle.lw_substitution.proofs.ReadSo.{told_apart}
use Rattle.lw_substitution.proofs.tried.laws.what_no_sentence_reads_is_no_reference.Goals as goal

pub returns : goal.returns
returns c = record {
  none = λ g of lexicon front name rest tokens added others one_way are is_lexicon around some no tree r stands.
      no_sentence g of lexicon (told_apart g of lexicon one_way are is_lexicon) are is_lexicon front name rest tokens added others around tree r stands some no;
  hidden = λ g of lexicon front name rest tokens added others one_way are is_lexicon around apart_from tree r stands.
      none_spans g of lexicon (told_apart g of lexicon one_way are is_lexicon) are is_lexicon front name rest tokens added others around tree r stands apart_from;
}
