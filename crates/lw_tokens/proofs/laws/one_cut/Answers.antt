-- At each place at most one token is next, and it has a byte.
use Rattle.lw_tokens.proofs.OneCut.{one_cut, one_place, no_cut}
use Rattle.lw_tokens.proofs.laws.one_cut.Goals as goal

pub returns : goal.returns
returns c = record { tokens = one_cut; place = one_place; never_both = no_cut }
