-- Its keywords are not blank, and the next kinds tell the ways of its choices apart.
use Rattle.lw_lang.proofs.OneWay.{one_way}
use Rattle.lw_lang.proofs.laws.compiled_grammars_are_read_in_one_way.Goals as goal

pub returns : goal.returns
returns c = one_way
