use Rattle.std.proofs.Common.{ap}
use Rattle.std.specs.Option.{option_map}
use Rattle.lw_rename.specs.Targets.{nothing, something, treeless}
use Rattle.lw_rename.proofs.meaning.meant_in.Goals as goal

pub returns-in_default : goal.returns-in_default
returns-in_default c = treeless (ap (option_map (λ t. t.now)) c.in_default.is)

pub returns-in-Some-place_at : goal.returns-in-Some-place_at
returns-in-Some-place_at c = something (ap (option_map (λ t. t.now)) c.in-Some.is) c.in-Some-place_at.ensures c.target_at.ensures

pub returns-in-None : goal.returns-in-None
returns-in-None c = nothing (ap (option_map (λ t. t.now)) c.in-Some.is) c.in-None.ensures
