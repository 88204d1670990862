-- The end of the one build is current, and what is news in it is the same for the other documents.
use Rattle.lw_machine.proofs.SameEnds.{same_end, clean_end, end_again}
use Rattle.lw_machine.proofs.outcomes.laws.clean_builds.Goals as goal

pub returns : goal.returns
returns c = record { same = same_end; cleared = clean_end; again = end_again }
