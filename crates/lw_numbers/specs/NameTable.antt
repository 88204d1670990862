-- What is known of cross-references that write no rule: by the wanted type, the rule or terminal that reads them.
use Rattle.std.specs.Prelude.{ℕ, ◌≡◌, List, Option, Some, MatchOption, Contains, slice_get, bytes_eq}
use Rattle.std.specs.Map.{lookup}
use Rattle.lw_grammar.specs.declared.grammar.Grammar.{Grammar}
use Rattle.lw_grammar.specs.declared.rule.Rule.{Rule}
use Rattle.lw_grammar.specs.Leaves.{Leaf, HasLeaves}
use Rattle.lw_grammar.specs.NameRules.{FirstNames, NamesNodesOf, IsNameRule}

-- these entries have for each type the name that its name rule calls, where there is one
abbrev pub AreNameRulesOf : Grammar → List (List ℕ × List ℕ) → Type 0
AreNameRulesOf g entries = (wanted : List ℕ) → MatchOption (lookup (bytes_eq wanted) entries) ((called : List ℕ) → ¬ IsNameRule g wanted called) (IsNameRule g wanted)

-- the first `name=` of the rule, fragments put in, calls this name
abbrev pub NamesBy : Grammar → Rule → List ℕ → Type 0
NamesBy g rule called = (all : List Leaf) × HasLeaves g rule all × FirstNames all called

-- ---- entries that are put in, where there were none

-- from the entry that a type had to the one that it has, which was put in where the type passes
abbrev pub IsPut : (passes : Type 0) → List ℕ → Option (List ℕ) → Option (List ℕ) → Type 0
IsPut passes called old new = MatchOption old (MatchOption new (¬ passes) (λ now. (now ≡ called) × passes)) (λ was. new ≡ Some was)

-- each type that passes has an entry now, and the new ones are this name
abbrev pub PutsNames : (List ℕ → Type 0) → List ℕ → List (List ℕ × List ℕ) → List (List ℕ × List ℕ) → Type 0
PutsNames passes called old new = (wanted : List ℕ) → IsPut (passes wanted) called (lookup (bytes_eq wanted) old) (lookup (bytes_eq wanted) new)

-- one of these numbers is the type's
abbrev pub IsNumberedIn : (names : List (List ℕ)) → (numbers : List ℕ) → List ℕ → Type 0
IsNumberedIn names numbers wanted = (j : ℕ) × Contains numbers j × (slice_get names j ≡ Some wanted)

-- each type whose nodes this rule names has an entry now, and the new ones are what it names them by
abbrev pub PutsRule : Grammar → Rule → List (List ℕ × List ℕ) → List (List ℕ × List ℕ) → Type 0
PutsRule g rule old new =
    (wanted : List ℕ) →
    MatchOption (lookup (bytes_eq wanted) old)
    (MatchOption (lookup (bytes_eq wanted) new) ((called : List ℕ) → ¬ NamesNodesOf g wanted called rule) (λ called. NamesNodesOf g wanted called rule))
    (λ was. lookup (bytes_eq wanted) new ≡ Some was)
