-- Attributes that have the name of one before them in their interface, by their places, in words of the code.
use Rattle.std.specs.Prelude.{ℕ, ◌≡◌, List, take}
use Rattle.lw_grammar.specs.declared.fault.GrammarFault.{GrammarFault}
use Rattle.lw_grammar.specs.declared.declared_types.Interface.{Interface}
use Rattle.lw_grammar.specs.declared.declared_types.Attribute.{Attribute}
use Rattle.lw_faults.specs.Faults.{fault}
use Rattle.lw_faults.specs.Finding.{OfSome, AtSome, OneIf}

-- the attribute has this name
abbrev pub IsAttributeNamed : Attribute → List ℕ → Type 0
IsAttributeNamed attribute name = name ≡ attribute.name

-- the one at this place has the name of one before it
abbrev pub RepeatsName : Interface → ℕ → Attribute → GrammarFault → Type 0
RepeatsName interface j second =
    OneIf (OfSome IsAttributeNamed (take j interface.attributes) second.name) (fault 4 interface.file second.span second.name)

abbrev pub RepeatsAttribute : Interface → GrammarFault → Type 0
RepeatsAttribute interface = AtSome (RepeatsName interface) interface.attributes
