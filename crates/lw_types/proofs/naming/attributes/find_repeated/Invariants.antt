use Rattle.std.proofs.Common.{[], take}
use Rattle.lw_faults.specs.Finding.{Finds, OfSome, AtSomeBelow}
use Rattle.lw_types.specs.Attributes.{IsAttributeNamed, RepeatsName}
use Rattle.lw_types.proofs.naming.attributes.find_repeated.Given as goal

abbrev pub invariant-loop-attribute : goal.invariant-loop-attribute
invariant-loop-attribute l = record {
  met : Finds (OfSome IsAttributeNamed (take l.attribute-index l.interface.attributes)) [] l.names.keys;
  told : Finds (AtSomeBelow (RepeatsName l.interface) l.attribute-index l.interface.attributes) l.fn.found l.found;
}
