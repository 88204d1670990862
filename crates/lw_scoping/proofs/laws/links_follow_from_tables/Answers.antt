use Rattle.lw_scoping.specs.Links.{ByTest}
use Rattle.lw_scoping.proofs.Tables.{same_links}
use Rattle.lw_scoping.proofs.laws.links_follow_from_tables.Goals as goal

pub returns : goal.returns
returns c = λ is_below trees others all address links are. same_links (ByTest is_below) all address links are
