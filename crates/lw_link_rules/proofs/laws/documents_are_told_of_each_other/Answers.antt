-- The two at a and b export a part x, and nobody exports a z.
use Rattle.lw_link_rules.proofs.Exporting.{at_a_is_told, at_b_is_told, least_is_told, z_is_told}
use Rattle.lw_link_rules.proofs.laws.documents_are_told_of_each_other.Goals as goal

pub returns : goal.returns
returns c = record { first = at_a_is_told; second = at_b_is_told; least = least_is_told; third = z_is_told }
