-- What may come where each form of a part stands before given heads, in words of the code.
use Rattle.std.specs.Prelude.{ℕ, ◌≡◌, ◌⊎◌, List, [], ◌∷◌, ◌++◌, Option, Contains, take}
use Rattle.lw_grammar.specs.declared.grammar.Grammar.{Grammar}
use Rattle.lw_grammar.specs.declared.rule.Element.{Element}
use Rattle.lw_grammar.specs.declared.rule.Rule.{Rule}
use Rattle.lw_grammar.specs.declared.rule.Value0.{Value0}
use Rattle.lw_grammar.specs.Kinds.{Kinds, IsKeywordKind, IsTerminalKind}
use Rattle.lw_grammar.specs.Named.{IsRule}
use Rattle.lw_look.specs.Sites.{Body, Value}
use Rattle.lw_look.specs.Heads.{Can}
use Rattle.lw_first.specs.declared.heads.head.Head.{Head}
use Rattle.lw_first.specs.Sets.{IsAmongHeads, IsInSet}
use Rattle.lw_kinds.specs.Crossing.{IsReadBy}
use Rattle.lw_first.specs.Before.{CanBefore, ManyCanBefore}

module _ (k : ℕ) where
  -- these kinds before one of the heads
  abbrev pub HeadBefore : List ℕ → List Head → List ℕ → Type 0
  HeadBefore front after h = (a : List ℕ) × IsAmongHeads after a × (h ≡ take k (front ++ a))

  -- one of these heads before one of those
  abbrev pub FollowedBefore : List Head → List Head → List ℕ → Type 0
  FollowedBefore heads after h = (front : List ℕ) × IsAmongHeads heads front × HeadBefore front after h

  -- one of the heads of a rule before one of these
  abbrev pub RuleBefore : List (List Head) → ℕ → List Head → List ℕ → Type 0
  RuleBefore sets r after h = (front : List ℕ) × IsInSet sets r front × HeadBefore front after h

-- the kind of a keyword before one of these heads
abbrev pub KeywordBefore : Kinds → ℕ → List ℕ → List Head → List ℕ → Type 0
KeywordBefore kinds k text after h = (n : ℕ) × IsKeywordKind kinds text n × HeadBefore k (n ∷ []) after h

module _ (g : Grammar) (kinds : Kinds) (k : ℕ) (sets : List (List Head)) where
  -- what a call of this name reads
  abbrev pub CallBefore : List ℕ → List Head → List ℕ → Type 0
  CallBefore name after h =
      ((n : ℕ) × IsTerminalKind g kinds name n × HeadBefore k (n ∷ []) after h) ⊎ ((r : ℕ) × (rule : Rule) × IsRule g name r rule × RuleBefore k sets r after h)

  -- what a cross-reference reads
  abbrev pub CrossBefore : List ℕ → Option (List ℕ) → List Head → List ℕ → Type 0
  CrossBefore wanted written after h = (name : List ℕ) × IsReadBy g wanted written name × CallBefore name after h

  -- one of these values
  abbrev pub ValuesBefore : List Value0 → List Head → List ℕ → Type 0
  ValuesBefore values after h = (value : Value0) × Contains values value × CanBefore g kinds k sets (Value value) after h

  -- one of these elements
  abbrev pub ChosenBefore : List Element → List Head → List ℕ → Type 0
  ChosenBefore parts after h = (part : Element) × Contains parts part × CanBefore g kinds k sets (Body part) after h

  -- the element, or nothing
  abbrev pub MaybeBefore : Element → List Head → List ℕ → Type 0
  MaybeBefore part after h = IsAmongHeads after h ⊎ CanBefore g kinds k sets (Body part) after h

  -- the element, and then any number of it
  abbrev pub OnceBefore : Element → List Head → List ℕ → Type 0
  OnceBefore part after h = (b : List ℕ) × ManyCanBefore g kinds k sets part after b × Can g kinds k (IsInSet sets) (Body part) b h
