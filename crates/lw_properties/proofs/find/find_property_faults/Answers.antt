use Rattle.std.proofs.Common.{sym, subst}
use Rattle.lw_properties.specs.Typed.{AreTextTypes}
use Rattle.lw_properties.proofs.find.find_property_faults.Goals as goal

pub find_at-requires-clause-known : goal.find_at-requires-clause-known
find_at-requires-clause-known c = record {
  numbers = c.requires.numbers;
  nodes = c.requires.nodes;
  subtypes = c.requires.subtypes;
  texts = subst (AreTextTypes c.args.g.now) (sym c.as_slice.ensures.value) c.in_ok-texts.ensures;
  attributes = c.in_ok-attributes.ensures;
}
