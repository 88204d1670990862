-- The choices, values and actions in a part of a rule, and the numbers that they have among those of the grammar.
use Rattle.std.specs.Prelude.{ℕ, ◌≡◌, ◌+◌, List, [], ◌∷◌, ◌++◌, Some, length, slice_get}
use Rattle.lw_grammar.specs.declared.grammar.Grammar.{Grammar}
use Rattle.lw_grammar.specs.declared.rule.Element.{Element}
use Rattle.lw_grammar.specs.declared.rule.Rule.{Rule}
use Rattle.lw_grammar.specs.declared.rule.Value0.{Value0}
use Rattle.lw_look.specs.Sites.{PartSite}
use Rattle.lw_look.specs.Choices.{element_choices, value_choices, choice_sites, rule_choices}
use Rattle.lw_program.specs.declared.counts.Counts.{Counts}
use Rattle.lw_program.specs.Numbered.{element_puts, element_acts, value_puts, put_sites, act_sites, rule_puts, rule_acts}

pub record Sites : Type 0 where
  pub choices : List PartSite
  pub puts : List PartSite
  pub acts : List PartSite

abbrev pub no_sites : Sites
no_sites = record { choices = []; puts = []; acts = [] }

-- one choice, one value or one action
abbrev pub choice_site : PartSite → Sites
choice_site s = record { choices = s ∷ []; puts = []; acts = [] }

abbrev pub put_site : PartSite → Sites
put_site s = record { choices = []; puts = s ∷ []; acts = [] }

abbrev pub act_site : PartSite → Sites
act_site s = record { choices = []; puts = []; acts = s ∷ [] }

-- the one and then the other
abbrev pub joined_sites : Sites → Sites → Sites
joined_sites a b = record { choices = a.choices ++ b.choices; puts = a.puts ++ b.puts; acts = a.acts ++ b.acts }

abbrev pub element_sites : PartSite → Element → Sites
element_sites s e = record { choices = element_choices e s; puts = element_puts e s; acts = element_acts e s }

abbrev pub value_sites : PartSite → Value0 → Sites
value_sites s v = record { choices = value_choices v s; puts = value_puts v s; acts = [] }

-- those of rules, from the rule of this number on
abbrev pub rule_sites : ℕ → List Rule → Sites
rule_sites r rules = record { choices = rule_choices r rules; puts = rule_puts r rules; acts = rule_acts r rules }

-- so many are counted further
pub record AreSitesCounted (sites : Sites) (old new : Counts) : Type 0 where
  pub points : new.points ≡ old.points + length sites.choices
  pub puts : new.puts ≡ old.puts + length sites.puts
  pub acts : new.acts ≡ old.acts + length sites.acts

abbrev pub after_point : Counts → Counts
after_point counts = record { points = counts.points + 1; puts = counts.puts; acts = counts.acts }

abbrev pub after_put : Counts → Counts
after_put counts = record { points = counts.points; puts = counts.puts + 1; acts = counts.acts }

abbrev pub after_act : Counts → Counts
after_act counts = record { points = counts.points; puts = counts.puts; acts = counts.acts + 1 }

-- these stand side by side among all, from this number on
abbrev pub StandInOrder : List PartSite → ℕ → List PartSite → Type 0
StandInOrder all from sites = (i : ℕ) (s : PartSite) → slice_get sites i ≡ Some s → slice_get all (from + i) ≡ Some s

-- these are the next to be counted
pub record AreNext (g : Grammar) (counts : Counts) (sites : Sites) : Type 0 where
  pub choices : StandInOrder (choice_sites g) counts.points sites.choices
  pub puts : StandInOrder (put_sites g) counts.puts sites.puts
  pub acts : StandInOrder (act_sites g) counts.acts sites.acts
