-- Which parts of terminals can be written, where it is known of which terminals the patterns are known.
use Rattle.std.specs.Prelude.{ℕ, ◌≡◌, ◌<◌, ◌≤◌, List, [], ◌∷◌, length}
use Rattle.std.specs.Str.{chars}
use Rattle.lw_base.specs.declared.token.Span.{Span}
use Rattle.lw_grammar.specs.declared.grammar.Grammar.{Grammar}
use Rattle.lw_grammar.specs.declared.terminal.Terminal.{Terminal}
use Rattle.lw_grammar.specs.declared.terminal.TermElement.{TermElement, out-TermElement}
use Rattle.lw_grammar.specs.declared.terminal.TermElement.TheOpen.{TermElement-F, Literal, Range, Pattern, Call, Group, Choice, Maybe, Many, Some1}
use Rattle.lw_grammar.specs.Named.{IsTerminal}

-- one character each, the first no later than the second
pub record HasEnds (from to : List ℕ) : Type 0 where
  pub first : ℕ
  pub last : ℕ
  pub from_is : chars from ≡ first ∷ []
  pub to_is : chars to ≡ last ∷ []
  pub order : first ≤ last

module _ (g : Grammar) (IsKnown : ℕ → Type 0) where
  -- the name means a terminal whose pattern is known
  abbrev pub CallsKnown : List ℕ → Type 0
  CallsKnown name = (t : ℕ) × (called : Terminal) × IsTerminal g name t called × IsKnown t

  mutual
    -- the element has a pattern: its ranges have ends, its choices have parts, and it calls what is known
    pub data ElementIsReady : TermElement → Type 0 where
      ready : {e : TermElement} → LayerIsReady (out-TermElement e) → ElementIsReady e

    pub data LayerIsReady : TermElement-F TermElement → Type 0 where
      literal : {text : List ℕ} {s : Span} → LayerIsReady (Literal text s)
      range : {from to : List ℕ} {s : Span} → HasEnds from to → LayerIsReady (Range from to s)
      pattern : {text : List ℕ} {s : Span} → LayerIsReady (Pattern text s)
      call : {name : List ℕ} {s : Span} → CallsKnown name → LayerIsReady (Call name s)
      group : {parts : List TermElement} → AreReady parts → LayerIsReady (Group parts)
      choice : {parts : List TermElement} → 0 < length parts → AreReady parts → LayerIsReady (Choice parts)
      maybe : {part : TermElement} → ElementIsReady part → LayerIsReady (Maybe part)
      many : {part : TermElement} → ElementIsReady part → LayerIsReady (Many part)
      some1 : {part : TermElement} → ElementIsReady part → LayerIsReady (Some1 part)

    pub data AreReady : List TermElement → Type 0 where
      no_part : AreReady []
      next_part : {part : TermElement} {parts : List TermElement} → ElementIsReady part → AreReady parts → AreReady (part ∷ parts)
