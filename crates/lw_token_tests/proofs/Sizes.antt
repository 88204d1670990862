-- How large the forms are that the tests build.
use Rattle.lw_terminals.proofs.Sizes.{size-Literal, size-Range, size-Pattern, size-Call, size-Group, size-Choice, size-Maybe, size-Many, size-Some1}

pub ruleset sizes_of_terms = (size-Literal, size-Range, size-Pattern, size-Call, size-Group, size-Choice, size-Maybe, size-Many, size-Some1)
