-- The choices of a grammar in their order: rule after rule in load order, in a rule an outer choice before those inside it, and what stands
-- earlier first. Each `|`, `?`, `*` and `+` is one, also inside the value of an assignment, and is named by its site.
-- Held against the Langium documentation, "Grammar language": alternatives and cardinalities.
use Rattle.std.specs.Prelude.{ℕ, ◌+◌, List, [], ◌∷◌, ◌++◌}
use Rattle.lw_grammar.specs.declared.grammar.Grammar.{Grammar}
use Rattle.lw_grammar.specs.declared.rule.Element.{Element, fold-Element}
use Rattle.lw_grammar.specs.declared.rule.Element.TheOpen as layer
use Rattle.lw_grammar.specs.declared.rule.Element.TheOpen.{Element-F}
use Rattle.lw_grammar.specs.declared.rule.Value0.{Value0, fold-Value0}
use Rattle.lw_grammar.specs.declared.rule.Value0.TheOpen as value
use Rattle.lw_grammar.specs.declared.rule.Value0.TheOpen.{Value0-F}
use Rattle.lw_grammar.specs.declared.rule.Rule.{Rule}
use Rattle.lw_look.specs.Sites.{PartSite, body, ◌▸◌, Part, AlternativeAt, OptionalAt, RepeatedAt}

-- those inside the parts of what stands at a site, from the part of this number on
abbrev pub inside : PartSite → ℕ → List (PartSite → List PartSite) → List PartSite
inside s i [] = []
inside s i (part ∷ parts) = part (s ▸ i) ++ inside s (i + 1) parts

abbrev pub value_layer_choice_sites : Value0-F (PartSite → List PartSite) → PartSite → List PartSite
value_layer_choice_sites (value.Choice parts span) s = s ∷ inside s 0 parts
value_layer_choice_sites _ s = []

-- the choices in a value that is assigned at a site
abbrev pub value_choices : Value0 → PartSite → List PartSite
value_choices = fold-Value0 (PartSite → List PartSite) value_layer_choice_sites

abbrev pub layer_choice_sites : Element-F (PartSite → List PartSite) → PartSite → List PartSite
layer_choice_sites (layer.Assign p op v span) s = value_choices v (s ▸ 0)
layer_choice_sites (layer.Group parts span) s = inside s 0 parts
layer_choice_sites (layer.Choice parts span) s = s ∷ inside s 0 parts
layer_choice_sites (layer.Maybe part span) s = s ∷ part (s ▸ 0)
layer_choice_sites (layer.Many part span) s = s ∷ part (s ▸ 0)
layer_choice_sites (layer.Some1 part span) s = s ∷ part (s ▸ 0)
layer_choice_sites _ s = []

-- the choices in an element that stands at a site
abbrev pub element_choices : Element → PartSite → List PartSite
element_choices = fold-Element (PartSite → List PartSite) layer_choice_sites

-- those of rules, from the rule of this number on
abbrev pub rule_choices : ℕ → List Rule → List PartSite
rule_choices r [] = []
rule_choices r (rule ∷ rules) = element_choices rule.body (body r) ++ rule_choices (r + 1) rules

-- those of the grammar: the place of a choice in this list is its number
abbrev pub choice_sites : Grammar → List PartSite
choice_sites g = rule_choices 0 g.rules

module _ (g : Grammar) where
  -- at the site stands a choice
  pub data IsChoice (s : PartSite) : Type 0 where
    alternatives : (i : ℕ) (x : Part) → AlternativeAt g s i x → IsChoice s
    optional : (e : Element) → OptionalAt g s e → IsChoice s
    repeated : (e : Element) → RepeatedAt g s e → IsChoice s
