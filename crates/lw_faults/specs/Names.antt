-- Faults of names: 4 duplicate, 5 unknown rule, 6 unknown type, 18 no name rule.
use Rattle.std.specs.Prelude.{ℕ, ◌≡◌, ◌<◌, List, Some, None, slice_get, Contains}
use Rattle.lw_base.specs.declared.token.Span.{Span}
use Rattle.lw_grammar.specs.declared.grammar.Grammar.{Grammar}
use Rattle.lw_grammar.specs.declared.rule.Rule.{Rule}
use Rattle.lw_grammar.specs.declared.rule.Op.{Op}
use Rattle.lw_grammar.specs.declared.rule.Value0.{Value0}
use Rattle.lw_grammar.specs.declared.terminal.Terminal.{Terminal}
use Rattle.lw_grammar.specs.declared.declared_types.Interface.{Interface}
use Rattle.lw_grammar.specs.declared.declared_types.Attribute.{Attribute}
use Rattle.lw_grammar.specs.Leaves.{Assign, leaves, Cross, value_leaves}
use Rattle.lw_grammar.specs.Named.{Declaration, StandsBefore, declared_rule, declared_terminal, declared_interface, declared_union}
use Rattle.lw_grammar.specs.NameRules.{IsNameRule}
use Rattle.lw_grammar.specs.Written.{WritesCall, term_calls, IsNoRule, HasDeclaration, NamesType, InfersHere, IsKnownType}

-- The name of an item is declared again: one of its own list that has the name stands before it there, or one of the other list of its space has the
-- name, which it does not stand before. Such an item is never what its name means.
pub data IsDeclaredAgain {X Y : Type 0} (declared_by : X → Declaration) (other_by : Y → Declaration) (xs : List X) (others : List Y) : Declaration → Type 0 where
  in_list : (i j : ℕ) (first second : X) → i < j → slice_get xs i ≡ Some first → slice_get xs j ≡ Some second →
      (declared_by first).name ≡ (declared_by second).name → IsDeclaredAgain declared_by other_by xs others (declared_by second)
  across : (second : X) (other : Y) → Contains xs second → Contains others other → (other_by other).name ≡ (declared_by second).name →
      ¬ StandsBefore (declared_by second) (other_by other) → IsDeclaredAgain declared_by other_by xs others (declared_by second)

module _ (g : Grammar) where
  -- of rules and terminals, which share a space of names, and of interfaces and unions, which share the other
  pub data IsSecondDeclaration : Declaration → Type 0 where
    rule_ : {again : Declaration} → IsDeclaredAgain declared_rule declared_terminal g.rules g.terminals again → IsSecondDeclaration again
    terminal_ : {again : Declaration} → IsDeclaredAgain declared_terminal declared_rule g.terminals g.rules again → IsSecondDeclaration again
    interface_ : {again : Declaration} → IsDeclaredAgain declared_interface declared_union g.interfaces g.unions again → IsSecondDeclaration again
    union_ : {again : Declaration} → IsDeclaredAgain declared_union declared_interface g.unions g.interfaces again → IsSecondDeclaration again

  -- The name of a rule, a terminal, an interface or a union is declared again; a type is inferred that is declared; an interface has a second attribute of
  -- one name.
  pub data Duplicate : ℕ → Span → List ℕ → Type 0 where
    declared : {again : Declaration} → IsSecondDeclaration again → Duplicate again.file again.span again.name
    inferred : {file : ℕ} {s : Span} {name : List ℕ} → InfersHere g file s name → HasDeclaration g name → Duplicate file s name
    attribute : (interface : Interface) (i j : ℕ) (first second : Attribute) → Contains g.interfaces interface → i < j →
        slice_get interface.attributes i ≡ Some first → slice_get interface.attributes j ≡ Some second → first.name ≡ second.name →
        Duplicate interface.file second.span second.name

  -- a call of a rule that is not there
  pub data UnknownRule : ℕ → Span → List ℕ → Type 0 where
    in_rule : {s : Span} {name : List ℕ} (rule : Rule) → Contains g.rules rule → WritesCall rule s name → IsNoRule g name → UnknownRule rule.file s name
    in_terminal : {s : Span} {name : List ℕ} (terminal : Terminal) → Contains g.terminals terminal → Contains (term_calls terminal.body) (name, s) →
        IsNoRule g name → UnknownRule terminal.file s name

  -- a name of a type that is neither declared nor inferred
  pub data UnknownType : ℕ → Span → List ℕ → Type 0 where
    unknown : {file : ℕ} {s : Span} {name : List ℕ} → NamesType g file s name → ¬ IsKnownType g name → UnknownType file s name

  -- a cross-reference to this type that names no rule is read by none: none names the nodes of the type, or what its `name=` calls is not there
  abbrev pub IsNameless : List ℕ → Type 0
  IsNameless wanted = (called : List ℕ) → IsNameRule g wanted called → IsNoRule g called

  -- a cross-reference names no rule, and is read by none
  pub data NoNameRule : ℕ → Span → List ℕ → Type 0 where
    nameless : {s : Span} {wanted : List ℕ} (rule : Rule) (p : List ℕ) (op : Op) (v : Value0) (t : Span) → Contains g.rules rule →
        Contains (leaves rule.body) (Assign p op v t) → Contains (value_leaves v) (Cross wanted None s) → IsNameless wanted →
        NoNameRule rule.file s wanted
