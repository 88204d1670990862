-- Along what follows, up to the entry.
use Rattle.lw_look.proofs.Productive.{productive}
use Rattle.lw_look.proofs.Sentences.{follows_in_sentence}
use Rattle.lw_look.proofs.laws.what_follows_is_in_a_sentence.Goals as goal

pub returns : goal.returns
returns c = record {
  yields = λ g kinds s x supplied from at. let some = productive g kinds supplied s x from at in (some.marks, some.yields);
  follows = λ g kinds s ks x m supplied decided after at yields. follows_in_sentence g kinds decided (productive g kinds supplied) after x m at yields;
}
