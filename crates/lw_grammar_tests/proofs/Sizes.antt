-- How large the forms are that the tests build.
use Rattle.lw_grammar.proofs.LeafLemmas.{size-Assign, size-value_Call, size-Group, size-Pattern}
use Rattle.lw_numbers.proofs.Sizes.{size-Act}

pub ruleset sizes_of_forms = (size-Assign, size-value_Call, size-Act, size-Group, size-Pattern)
