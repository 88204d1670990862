use Rattle.std.proofs.Common.{refl}
use Rattle.lw_parse.proofs.Found.{its_kinds, only_begun}
use Rattle.lw_parse.proofs.opened.laws.readings_have_their_kinds.Goals as goal

pub returns : goal.returns
returns c = record {
  none = λ g of entry m is. only_begun g of entry refl is;
  kinds = λ g of entry ks m is. its_kinds g of entry is;
}
