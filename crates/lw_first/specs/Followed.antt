-- What may stand behind each part of a row, and what is known of the heads of rules where it is asked what follows them.
use Rattle.std.specs.Prelude.{ℕ, ◌≡◌, ◌+◌, ◌<◌, ◌↔◌, List, drop, length}
use Rattle.lw_grammar.specs.declared.rule.Element.{Element}
use Rattle.lw_grammar.specs.declared.grammar.Grammar.{Grammar}
use Rattle.lw_grammar.specs.Kinds.{Kinds, AreKinds}
use Rattle.lw_look.specs.Heads.{AreClosedHeads, AreTrueHeads}
use Rattle.lw_first.specs.declared.heads.head.Head.{Head}
use Rattle.lw_first.specs.Sets.{IsInSet}
use Rattle.lw_first.specs.declared.first.First.{First}
use Rattle.lw_first.specs.Before.{RowCanBefore, IsReady}

-- for each part of the row the heads of what is behind it, up to the heads behind the row
pub record AreBehind (g : Grammar) (kinds : Kinds) (k : ℕ) (sets : List (List Head)) (parts : List Element) (after : List Head) (behind : List (List Head)) :
    Type 0 where
  pub all : length behind ≡ length parts
  pub each : (i : ℕ) (h : List ℕ) → i < length parts → IsInSet behind i h ↔ RowCanBefore g kinds k sets (drop (i + 1) parts) after h

-- the heads of the rules are all that there are and no others
pub record HasRuleHeads (first : First) : Type 0 where
  pub ready : IsReady first
  pub all : length first.heads.now ≡ length first.lexicon.g.now.rules
  pub closed : (kinds : Kinds) → AreKinds first.lexicon.g.now kinds → AreClosedHeads first.lexicon.g.now kinds first.k (IsInSet first.heads.now)
  pub no_others : (kinds : Kinds) → AreKinds first.lexicon.g.now kinds → AreTrueHeads first.lexicon.g.now kinds first.k (IsInSet first.heads.now)
