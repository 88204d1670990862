-- What the ways of one choice have, by the parts that they lead into.
use Rattle.std.specs.Prelude.{ℕ, ◌≡◌, ◌↔◌, List, [], ◌∷◌, Some, length, slice_get}
use Rattle.lw_grammar.specs.declared.grammar.Grammar.{Grammar}
use Rattle.lw_grammar.specs.declared.rule.Element.{Element}
use Rattle.lw_grammar.specs.Kinds.{Kinds}
use Rattle.lw_look.specs.Sites.{Part, Body}
use Rattle.lw_first.specs.declared.heads.head.Head.{Head}
use Rattle.lw_first.specs.Sets.{IsAmongHeads}
use Rattle.lw_first.specs.Before.{CanBefore}

-- the heads that are so, and no others
abbrev pub HasExactly : (List ℕ → Type 0) → List Head → Type 0
HasExactly is_so heads = (h : List ℕ) → IsAmongHeads heads h ↔ is_so h

module _ (g : Grammar) (kinds : Kinds) (k : ℕ) (sets : List (List Head)) where
  -- for each part, in their order, what may come where it stands before these heads
  pub record AreWaysInto (parts : List Part) (after : List Head) (ways : List (List Head)) : Type 0 where
    pub all : length ways ≡ length parts
    pub each : (i : ℕ) (x : Part) (way : List Head) → slice_get parts i ≡ Some x → slice_get ways i ≡ Some way →
        HasExactly (CanBefore g kinds k sets x after) way

  -- what may come where the part stands before some heads, and then other heads as they are
  pub record AreTwoWays (part : Element) (before after : List Head) (ways : List (List Head)) : Type 0 where
    pub one : List Head
    pub two : List Head
    pub are : ways ≡ one ∷ two ∷ []
    pub reads : HasExactly (CanBefore g kinds k sets (Body part) before) one
    pub passes : HasExactly (IsAmongHeads after) two
