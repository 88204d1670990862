-- What is meant has one list of mentions, and of two ways in which they could spoil or rebind something first there is one.
use Rattle.lw_places.proofs.OneRename.{one_outcome}
use Rattle.lw_places.proofs.renaming.laws.one_rename.Goals as goal

pub returns : goal.returns
returns c = one_outcome
