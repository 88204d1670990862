use Rattle.std.proofs.Common.{refl, take}
use Rattle.std.specs.Fmt.{digits}
use Rattle.lw_make.specs.Made.{four_digits, made_text, state_line, state_lines}
use Rattle.lw_make.proofs.laws.documents_written_out.Goals as goal

pub returns-clause-address : goal.returns-clause-address
unfolding digits four_digits
returns-clause-address c = refl

pub returns-clause-first : goal.returns-clause-first
unfolding digits state_line state_lines
returns-clause-first c = (_, refl)

pub returns-clause-last : goal.returns-clause-last
unfolding digits state_line state_lines
returns-clause-last c = (take 626 (made_text 1 2), refl)

pub returns-clause-edit : goal.returns-clause-edit
unfolding digits
returns-clause-edit c = refl
