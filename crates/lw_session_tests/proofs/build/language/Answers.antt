use Rattle.lw_lang.proofs.OneWay.{one_way}
use Rattle.lw_session_tests.proofs.build.language.Goals as goal

pub returns : goal.returns
returns g c = one_way c.in-Ok.language.grammar 2 c.in-Ok.ensures.clear
