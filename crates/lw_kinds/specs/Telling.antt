-- What is told of rules, in words of the code.
use Rattle.std.specs.Prelude.{ℕ, ◌≡◌, ◌⊎◌}
use Rattle.lw_base.specs.declared.token.Span.{Span}
use Rattle.lw_grammar.specs.declared.fault.GrammarFault.{GrammarFault}
use Rattle.lw_grammar.specs.declared.grammar.Grammar.{Grammar}
use Rattle.lw_grammar.specs.declared.rule.Element.{Element, out-Element}
use Rattle.lw_grammar.specs.declared.rule.Element.TheOpen.{Many, Some1}
use Rattle.lw_grammar.specs.declared.rule.Rule.{Rule}
use Rattle.lw_faults.specs.Derivations.{HasPart}
use Rattle.lw_faults.specs.Faults.{fault}
use Rattle.lw_faults.specs.Reads.{MayRead}

-- a fault of this number that speaks of the rule
abbrev pub SpeaksOf : ℕ → Rule → GrammarFault → Type 0
SpeaksOf number rule f = f ≡ fault number rule.file rule.span rule.name

-- what stands at this place repeats what may read nothing
abbrev pub RepeatsAt : Grammar → Element → Span → Type 0
RepeatsAt g e s = (part : Element) × (body : Element) × HasPart e part × ((out-Element part ≡ Many body s) ⊎ (out-Element part ≡ Some1 body s)) × MayRead g body 0

-- a fault of the rule for what stands in this element
abbrev pub TellsRepeats : Grammar → Rule → Element → GrammarFault → Type 0
TellsRepeats g rule e f = (s : Span) × RepeatsAt g e s × (f ≡ fault 9 rule.file s rule.name)
