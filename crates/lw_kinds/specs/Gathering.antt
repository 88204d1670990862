-- What is gathered from rules, in words of the code: the first uses of keywords, and marks of the terminals that are called.
use Rattle.std.specs.Prelude.{ℕ, ◌≡◌, ◌<◌, ◌⊎◌, ◌↔◌, List, [], ◌∷◌, ◌++◌, Bool, true, false, Some, fold, length, map, take, slice_get, Contains, bytes_eq, if◌then◌else◌}
use Rattle.std.specs.List.{flat_map, list_any}
use Rattle.std.specs.List.Sorted.{IsStrictlyIncreasing}
use Rattle.lw_grammar.specs.declared.grammar.Grammar.{Grammar}
use Rattle.lw_grammar.specs.declared.rule.Rule.{Rule}
use Rattle.lw_grammar.specs.declared.terminal.Terminal.{Terminal}
use Rattle.lw_grammar.specs.Kept.{KeepsPassing}
use Rattle.lw_grammar.specs.Leaves.{Leaf, ValueLeaf}
use Rattle.lw_grammar.specs.Reached.{IsReached}
use Rattle.lw_numbers.specs.Tables.{AreNumbersOf}
use Rattle.lw_numbers.specs.NameTable.{AreNameRulesOf}
use Rattle.lw_graph.specs.Walks.{HasNode}
use Rattle.lw_kinds.specs.Edges.{SomeBelow}
use Rattle.lw_kinds.specs.declared.gathering.Gathered.{Gathered}
use Rattle.lw_kinds.specs.declared.names.Names.{Names}
use Rattle.lw_kinds.specs.Calls.{PartsCallTerminal, LeavesCallTerminal, RuleMarks, Marks}
use Rattle.lw_kinds.specs.Uses.{Use, part_keyword_uses, leaf_keyword_uses, rule_keyword_uses}

-- ---- first uses

-- the use is put behind the others, unless one of them is of the same text
abbrev pub put_use : List Use → Use → List Use
put_use uses word = if list_any (bytes_eq word.0) (map (λ other. other.0) uses) then uses else uses ++ word ∷ []

abbrev pub put_uses : List Use → List Use → List Use
put_uses uses words = fold put_use uses words

-- ---- what is known of names

pub record AreNamesKnown (names : Names) : Type 0 where
  pub numbers : AreNumbersOf names.g.now names.numbers.now
  pub name_rules : AreNameRulesOf names.g.now names.name_rules.now

-- ---- what is gathered

-- there is a mark for each terminal
abbrev pub HasMarks : Grammar → Gathered → Type 0
HasMarks g gathered = length gathered.called.items ≡ length g.terminals

-- these uses were put in, and the terminals that are so were marked
pub record Gathers (words : List Use) (is_so : ℕ → Type 0) (old new : Gathered) : Type 0 where
  pub keywords : new.keywords.entries ≡ put_uses old.keywords.entries words
  pub marks : Marks is_so old.called.items new.called.items

module _ (g : Grammar) where
  -- those of the parts of a value, in this file
  abbrev pub GathersParts : ℕ → List ValueLeaf → Gathered → Gathered → Type 0
  GathersParts file parts = Gathers (flat_map (part_keyword_uses file) parts) (PartsCallTerminal g parts)

  -- those of leaves
  abbrev pub GathersLeaves : ℕ → List Leaf → Gathered → Gathered → Type 0
  GathersLeaves file ls = Gathers (flat_map (leaf_keyword_uses file) ls) (LeavesCallTerminal g ls)

  -- all that is gathered from the rules in front of this place that are reached
  pub record IsGatheredBelow (i : ℕ) (gathered : Gathered) : Type 0 where
    pub rules : List Rule
    pub reached : KeepsPassing (IsReached g) (take i g.rules) rules
    pub keywords : gathered.keywords.entries ≡ put_uses [] (flat_map rule_keyword_uses rules)
    pub size : HasMarks g gathered
    pub called : (t : ℕ) → HasNode gathered.called.items t ↔ SomeBelow (λ r rule. RuleMarks g r rule t) g.rules i

-- ---- places

-- the terminal of this place is a kind, where these are marked that are called
abbrev pub IsKindBy : List Bool → List Terminal → ℕ → Type 0
IsKindBy called terminals t =
    (terminal : Terminal) × (slice_get terminals t ≡ Some terminal) × (terminal.is_fragment ≡ false) × ((terminal.is_hidden ≡ true) ⊎ HasNode called t)

-- exactly the places that pass in front of this one, in ascending order
pub record ArePlacesBelow {X : Type 0} (passes : ℕ → Type 0) (xs : List X) (i : ℕ) (places : List ℕ) : Type 0 where
  pub kept : List X
  pub keeps : KeepsPassing passes (take i xs) kept
  pub items : map (slice_get xs) places ≡ map Some kept
  pub ascending : IsStrictlyIncreasing places
  pub exact : (t : ℕ) → Contains places t ↔ ((t < i) × passes t)
