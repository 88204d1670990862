-- The first k kinds of a list joined are those of the joined first k kinds.
use Rattle.std.proofs.Common.{Contains}
use Rattle.lw_look.proofs.HeadsCover.{look_can, one_head}
use Rattle.lw_look.proofs.HeadsTrue.{look_true}
use Rattle.lw_look.proofs.laws.heads_are_windows.Goals as goal

pub returns : goal.returns
returns c = record {
  all = λ g kinds k way s w read follow heads afters shows. look_can g kinds k (λ r h. Contains (read r) h) heads (λ r h. Contains (follow r) h) afters shows;
  no_others = λ g kinds k way s h read follow heads afters can. look_true g kinds k (λ r h. Contains (read r) h) heads (λ r h. Contains (follow r) h) afters can;
  one_head = one_head;
}
