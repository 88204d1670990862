-- The values that are assigned and the actions of a grammar, in the order in which its choices are: rule after rule in load order, and in a
-- rule what stands earlier first. A value that is a choice is none, those inside it are. Each is named by its site.
-- Held against the Langium documentation, "Grammar language": assignments and actions.
use Rattle.std.specs.Prelude.{ℕ, ◌+◌, List, [], ◌∷◌, ◌++◌}
use Rattle.lw_grammar.specs.declared.grammar.Grammar.{Grammar}
use Rattle.lw_grammar.specs.declared.rule.Element.{Element, fold-Element}
use Rattle.lw_grammar.specs.declared.rule.Element.TheOpen as layer
use Rattle.lw_grammar.specs.declared.rule.Element.TheOpen.{Element-F}
use Rattle.lw_grammar.specs.declared.rule.Value0.{Value0, fold-Value0}
use Rattle.lw_grammar.specs.declared.rule.Value0.TheOpen as value
use Rattle.lw_grammar.specs.declared.rule.Value0.TheOpen.{Value0-F}
use Rattle.lw_grammar.specs.declared.rule.Rule.{Rule}
use Rattle.lw_look.specs.Sites.{PartSite, body, ◌▸◌}
use Rattle.lw_look.specs.Choices.{inside}

abbrev pub value_layer_puts : Value0-F (PartSite → List PartSite) → PartSite → List PartSite
value_layer_puts (value.Choice parts span) s = inside s 0 parts
value_layer_puts _ s = s ∷ []

-- the values that are no choices in a value that is assigned at a site
abbrev pub value_puts : Value0 → PartSite → List PartSite
value_puts = fold-Value0 (PartSite → List PartSite) value_layer_puts

abbrev pub layer_puts : Element-F (PartSite → List PartSite) → PartSite → List PartSite
layer_puts (layer.Assign p op v span) s = value_puts v (s ▸ 0)
layer_puts (layer.Group parts span) s = inside s 0 parts
layer_puts (layer.Choice parts span) s = inside s 0 parts
layer_puts (layer.Maybe part span) s = part (s ▸ 0)
layer_puts (layer.Many part span) s = part (s ▸ 0)
layer_puts (layer.Some1 part span) s = part (s ▸ 0)
layer_puts _ s = []

-- the values that are assigned in an element that stands at a site
abbrev pub element_puts : Element → PartSite → List PartSite
element_puts = fold-Element (PartSite → List PartSite) layer_puts

abbrev pub layer_acts : Element-F (PartSite → List PartSite) → PartSite → List PartSite
layer_acts (layer.Act a) s = s ∷ []
layer_acts (layer.Group parts span) s = inside s 0 parts
layer_acts (layer.Choice parts span) s = inside s 0 parts
layer_acts (layer.Maybe part span) s = part (s ▸ 0)
layer_acts (layer.Many part span) s = part (s ▸ 0)
layer_acts (layer.Some1 part span) s = part (s ▸ 0)
layer_acts _ s = []

-- the actions in an element that stands at a site
abbrev pub element_acts : Element → PartSite → List PartSite
element_acts = fold-Element (PartSite → List PartSite) layer_acts

-- those of rules, from the rule of this number on
abbrev pub rule_puts : ℕ → List Rule → List PartSite
rule_puts r [] = []
rule_puts r (rule ∷ rules) = element_puts rule.body (body r) ++ rule_puts (r + 1) rules

abbrev pub rule_acts : ℕ → List Rule → List PartSite
rule_acts r [] = []
rule_acts r (rule ∷ rules) = element_acts rule.body (body r) ++ rule_acts (r + 1) rules

-- those of the grammar: the place in this list is the number
abbrev pub put_sites : Grammar → List PartSite
put_sites g = rule_puts 0 g.rules

abbrev pub act_sites : Grammar → List PartSite
act_sites g = rule_acts 0 g.rules
