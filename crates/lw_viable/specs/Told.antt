-- What is told of a program: which places may read nothing, which kinds may come next at a call of a rule, and whether it is a node.
use Rattle.std.specs.Prelude.{ℕ, ◌≡◌, ◌↔◌, ◌<◌, List, Some, Bool, true, slice_get}
use Rattle.lw_grammar.specs.declared.grammar.Grammar.{Grammar}
use Rattle.lw_grammar.specs.declared.rule.Rule.{Rule}
use Rattle.lw_grammar.specs.Kinds.{Kinds, kind_count}
use Rattle.lw_program.specs.Says.{Task}
use Rattle.lw_viable.specs.Gives.{OpensNode, MayBeEmpty, MayMeet}

pub record BeginsParts : Type 0 where
  pub empty : List Bool
  pub meets : List (List Bool)
  pub nodes : List Bool

-- the flag of a kind in the row of a rule
abbrev pub IsMet : List (List Bool) → ℕ → ℕ → Type 0
IsMet meets r k = (row : List Bool) × (slice_get meets r ≡ Some row) × (slice_get row k ≡ Some true)

module _ (g : Grammar) (kinds : Kinds) where
  pub record TellsBegins (tasks : List Task) (parts : BeginsParts) : Type 0 where
    pub empty : (p : ℕ) (t : Task) → slice_get tasks p ≡ Some t → MayBeEmpty g kinds t ↔ (slice_get parts.empty p ≡ Some true)
    pub meets : (r k : ℕ) (rule : Rule) → slice_get g.rules r ≡ Some rule → k < kind_count kinds → MayMeet g kinds r rule k ↔ IsMet parts.meets r k
    pub nodes : (r : ℕ) (rule : Rule) → slice_get g.rules r ≡ Some rule → OpensNode g rule ↔ (slice_get parts.nodes r ≡ Some true)
