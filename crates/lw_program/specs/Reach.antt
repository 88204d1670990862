-- What is known of the parts that are made instructions: they stand in rules that can be reached, in a grammar that lacks nothing.
use Rattle.std.specs.Prelude.{ℕ, ◌≡◌, ◌≤◌, List, Some, length, slice_get}
use Rattle.lw_grammar.specs.declared.grammar.Grammar.{Grammar}
use Rattle.lw_grammar.specs.Kinds.{Kinds, AreKinds}
use Rattle.lw_grammar.specs.Reached.{IsReached}
use Rattle.lw_look.specs.Sites.{PartSite, rule_of, Part, IsPartAt}
use Rattle.lw_look.specs.Supplied.{IsSupplied}

-- every keyword and every call of a reached rule is known, and rules have numbers of 16 bits
pub record IsComplete (g : Grammar) : Type 0 where
  pub supplied : (kinds : Kinds) → AreKinds g kinds → IsSupplied g kinds
  pub few : length g.rules ≤ 65535

-- the part stands in a rule that can be reached
abbrev pub IsInReach : Grammar → Part → Type 0
IsInReach g x = (s : PartSite) × IsReached g (rule_of s) × IsPartAt g s x

-- each item is such a part
abbrev pub AreInReach : {X : Type 0} → Grammar → (X → Part) → List X → Type 0
AreInReach {X} g part xs = (i : ℕ) (x : X) → slice_get xs i ≡ Some x → IsInReach g (part x)
