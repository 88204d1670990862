-- What is gathered where parts of rules are gone through.
use Rattle.std.specs.Prelude.{ℕ, ◌≡◌, ◌<◌, ◌⊎◌, ◌++◌, List, [], ◌∷◌, Some, Result, Ok, Err, slice_get}
use Rattle.lw_base.specs.declared.token.Span.{Span}
use Rattle.lw_grammar.specs.declared.grammar.Grammar.{Grammar}
use Rattle.lw_grammar.specs.declared.rule.Element.{Element}
use Rattle.lw_grammar.specs.declared.rule.Element.TheOpen as layer
use Rattle.lw_grammar.specs.declared.rule.Value0.{Value0}
use Rattle.lw_grammar.specs.declared.rule.Value0.TheOpen as value
use Rattle.lw_grammar.specs.declared.rule.Rule.{Rule}
use Rattle.lw_grammar.specs.Kinds.{Kinds, AreKinds}
use Rattle.lw_look.specs.Choices.{element_choices}
use Rattle.lw_look.specs.Sites.{PartSite, ◌▸◌, rule_of, IsPartAt, Body, Value, ElementAt, ValueAt, RowAt}
use Rattle.lw_look.specs.Heads.{CanFollow}
use Rattle.lw_first.specs.declared.heads.head.Head.{Head}
use Rattle.lw_first.specs.Sets.{IsInSet}
use Rattle.lw_first.specs.declared.first.First.{First}
use Rattle.lw_lookahead.specs.declared.points.point.Point.{Point}
use Rattle.lw_lookahead.specs.declared.points.point.TheConstants.{MOST_STRINGS}
use Rattle.lw_lookahead.specs.declared.points.point.PointsFault.{PointsFault}
use Rattle.lw_lookahead.specs.declared.points.point.PointsFault.TheVariants.{TooMany, NoMemory}
use Rattle.lw_lookahead.specs.Points.{ArePoints, strings_in}
use Rattle.lw_lookahead.specs.Ways.{HasExactly}

module _ (g : Grammar) (kinds : Kinds) (k : ℕ) (heads followers : List (List Head)) where
  -- the site lies in a rule of this file, and exactly these heads may follow it
  pub record IsFollowedBy (s : PartSite) (file : ℕ) (after : List Head) : Type 0 where
    pub rule : Rule
    pub at : slice_get g.rules (rule_of s) ≡ Some rule
    pub in_file : rule.file ≡ file
    pub exact : HasExactly (CanFollow g kinds k (IsInSet heads) (IsInSet followers) s) after

  -- the choices at the first of these sites were put behind the others, and those at the last are left
  pub record PutsPoints (sites left : List PartSite) (old new : List Point) : Type 0 where
    pub front : List PartSite
    pub parts : front ++ left ≡ sites
    pub points : List Point
    pub are : ArePoints g kinds k heads followers front points
    pub grown : new ≡ old ++ points

  -- all were put there, or so many that their heads are too many
  abbrev pub GathersPoints : List PartSite → List Point → List Point → Result (Unit {0}) PointsFault → Type 0
  GathersPoints sites old new (Ok _) = PutsPoints sites [] old new
  GathersPoints sites old new (Err TooMany) = (left : List PartSite) × PutsPoints sites left old new × (MOST_STRINGS < strings_in new)
  GathersPoints sites old new (Err NoMemory) = Unit {0}

-- in whichever rule of this file it is so at a site, and these heads may follow, the choices there are gathered
abbrev pub GathersWhere : First → ℕ → (Grammar → PartSite → Type 0) → List Head → (PartSite → List PartSite) → List Point → List Point →
    Result (Unit {0}) PointsFault → Type 0
GathersWhere first file is_so after choices old new result =
    (kinds : Kinds) (followers : List (List Head)) (s : PartSite) → AreKinds first.lexicon.g.now kinds → is_so first.lexicon.g.now s →
    IsFollowedBy first.lexicon.g.now kinds first.k first.heads.now followers s file after →
    GathersPoints first.lexicon.g.now kinds first.k first.heads.now followers (choices s) old new result

-- ---- what stands at a site

abbrev pub IsElementAt : Element → Grammar → PartSite → Type 0
IsElementAt e g s = IsPartAt g s (Body e)

abbrev pub IsValueAt : Value0 → Grammar → PartSite → Type 0
IsValueAt v g s = IsPartAt g s (Value v)

abbrev pub HasRowAt : List Element → Grammar → PartSite → Type 0
HasRowAt es g s = RowAt g s es

abbrev pub HasAlternatives : List Element → Span → Grammar → PartSite → Type 0
HasAlternatives es span g s = ElementAt g s (layer.Choice es span)

abbrev pub HasSomeAlternatives : List Element → Grammar → PartSite → Type 0
HasSomeAlternatives es g s = (span : Span) × HasAlternatives es span g s

abbrev pub HasValueAlternatives : List Value0 → Span → Grammar → PartSite → Type 0
HasValueAlternatives vs span g s = (v : Value0) × ValueAt g s v (value.Choice vs span)

abbrev pub HasSomeValueAlternatives : List Value0 → Grammar → PartSite → Type 0
HasSomeValueAlternatives vs g s = (span : Span) × HasValueAlternatives vs span g s

abbrev pub HasOptional : Element → Span → Grammar → PartSite → Type 0
HasOptional e span g s = ElementAt g s (layer.Maybe e span)

abbrev pub HasRepeated : Element → Span → Grammar → PartSite → Type 0
HasRepeated e span g s = ElementAt g s (layer.Many e span) ⊎ ElementAt g s (layer.Some1 e span)

-- ---- which choices

-- the choice at the site alone
abbrev pub site_alone : PartSite → List PartSite
site_alone s = s ∷ []

-- that choice, and those in its part
abbrev pub with_part : Element → PartSite → List PartSite
with_part e s = s ∷ element_choices e (s ▸ 0)
