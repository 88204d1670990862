use Rattle.lw_command_line.proofs.OneCommand.{not_check_and_make, not_check_and_serve, not_serve_and_make, one_check, one_make, one_serve}
use Rattle.lw_command_line.proofs.laws.one_command.Goals as goal

pub returns : goal.returns
returns c = record {
  check = λ words path other j k. one_check;
  serve = λ words path other files others j k. one_serve;
  make = λ words path other m n j k. one_make;
  check_or_serve = λ words path other files j k. not_check_and_serve;
  check_or_make = λ words path other count j k. not_check_and_make;
  serve_or_make = λ words path other files count j k. not_serve_and_make;
}
