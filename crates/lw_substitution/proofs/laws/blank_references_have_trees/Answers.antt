use Rattle.lw_reading.proofs.Rootable.{is_rootable}
use Rattle.lw_substitution.proofs.Blank.{begun_blank, whole_blank}
use Rattle.lw_substitution.proofs.laws.blank_references_have_trees.Goals as goal

pub returns : goal.returns
returns c = record {
  whole = λ g of text next some_kinds after front rest tokens name no_type_fault no_check_fault named makes is reads reads_rest.
      whole_blank g of text (is_rootable g no_type_fault no_check_fault) next some_kinds after front makes is reads rest tokens name named reads_rest;
  begun = λ g of text next some_kinds after front tokens name no_type_fault no_check_fault named makes is reads.
      begun_blank g of text (is_rootable g no_type_fault no_check_fault) next some_kinds after front makes is reads tokens name named;
}
