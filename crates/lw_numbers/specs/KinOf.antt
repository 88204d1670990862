-- The nodes that the code names by what it holds.
use Rattle.lw_numbers.specs.declared.subtypes.kin.Kin.{Kin}
use Rattle.lw_numbers.specs.declared.subtypes.kin.Kin.TheVariants as of
use Rattle.lw_numbers.specs.Kin as node

abbrev pub kin_of : Kin → node.Kin
kin_of (of.Type name) = node.OfType name.now
kin_of (of.Body rule) = node.OfBody rule
