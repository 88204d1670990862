use Rattle.std.proofs.Common.{List, ◌++◌, take}
use Rattle.lw_grammar.specs.declared.declared_types.Attribute.{Attribute}
use Rattle.lw_properties.specs.Search.{AreFirsts}
use Rattle.lw_properties.proofs.attributes.put_attributes.Given as goal

abbrev pub invariant-loop-attribute : goal.invariant-loop-attribute
invariant-loop-attribute l =
    (before : List Attribute) → AreFirsts before l.initial.firsts.by_name.entries → AreFirsts (before ++ take l.attribute-index l.attributes) l.firsts.by_name.entries
