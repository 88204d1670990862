use Rattle.std.proofs.Common.{List, [], ◌++◌, take}
use Rattle.lw_grammar.specs.declared.declared_types.Attribute.{Attribute}
use Rattle.lw_types.specs.Having.{AreDeclaredIn}
use Rattle.lw_types.proofs.property_table.declared.put_attributes.Given as goal

abbrev pub invariant-loop-attribute : goal.invariant-loop-attribute
invariant-loop-attribute l = (before : List Attribute) → AreDeclaredIn l.source.g.now before [] l.initial.gathering →
    AreDeclaredIn l.source.g.now (before ++ take l.attribute-index l.attributes) [] l.gathering
