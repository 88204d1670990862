use Rattle.lw_reading.proofs.Rootable.{is_rootable}
use Rattle.lw_reading.proofs.Sentence.{whole_tree, begun_tree}
use Rattle.lw_reading.proofs.rooted.laws.each_sentence_has_a_tree.Goals as goal

pub returns : goal.returns
returns c = record {
  whole = λ g kinds text m ts no_type_fault no_check_fault is reads. whole_tree g kinds text (is_rootable g no_type_fault no_check_fault) m ts is reads;
  begun = λ g kinds text m others ts no_type_fault no_check_fault is not reads.
      begun_tree g kinds text (is_rootable g no_type_fault no_check_fault) m others ts is not reads;
}
