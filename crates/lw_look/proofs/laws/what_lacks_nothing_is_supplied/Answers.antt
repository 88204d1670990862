-- The kinds hold what reached rules call, and a body that may read some tokens yields marks.
use Rattle.lw_look.proofs.Supplying.{keyword_kind, terminal_kind, supplied}
use Rattle.lw_look.proofs.laws.what_lacks_nothing_is_supplied.Goals as goal

pub returns : goal.returns
returns c = record {
  keyword = λ g kinds s x text are from at reads. keyword_kind g kinds are s x text from at reads;
  terminal = λ g kinds r rule name t terminal are from does is plain. terminal_kind g kinds are r rule name t terminal from does is plain;
  supplied = λ g kinds are complete decided. supplied g kinds are decided complete;
}
