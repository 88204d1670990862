-- What is found behind the parts of a row, from the last part to the first.
use Rattle.std.specs.Prelude.{ℕ, ◌<◌, ◌-◌, ◌↔◌, List, drop, length}
use Rattle.lw_grammar.specs.declared.grammar.Grammar.{Grammar}
use Rattle.lw_grammar.specs.declared.rule.Element.{Element}
use Rattle.lw_grammar.specs.Kinds.{Kinds}
use Rattle.lw_first.specs.declared.heads.head.Head.{Head}
use Rattle.lw_first.specs.Sets.{IsInSet}
use Rattle.lw_first.specs.Before.{RowCanBefore}

-- the set of this number has the heads behind the part that stands so far from the end
abbrev pub AreFoundBehind : Grammar → Kinds → ℕ → List (List Head) → List Element → List Head → List (List Head) → Type 0
AreFoundBehind g kinds k heads parts after sets = (i : ℕ) (h : List ℕ) → i < length sets →
    IsInSet sets i h ↔ RowCanBefore g kinds k heads (drop (length parts - i) parts) after h
