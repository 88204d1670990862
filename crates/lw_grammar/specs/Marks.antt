-- The marks of a derivation: what reading by a grammar does, in its order.
use Rattle.std.specs.Prelude.{ℕ, List, [], ◌∷◌}
use Rattle.lw_grammar.specs.declared.rule.Op.{Op}
use Rattle.lw_grammar.specs.declared.rule.Value0.{Value0}
use Rattle.lw_grammar.specs.declared.rule.Action.{Action}

-- a token of a kind; a rule's node begins, and ends; a value goes into a property by an operator, having read the keyword, rule or
-- cross-reference, and has been read; an action
pub data Mark : Type 0 where
  Token : ℕ → Mark
  Open : ℕ → Mark
  Shut : Mark
  Put : List ℕ → Op → Value0 → Mark
  End : Mark
  Act : Action → Mark

-- the kinds of the tokens, in order
abbrev pub kinds_of : List Mark → List ℕ
kinds_of [] = []
kinds_of (Token k ∷ marks) = k ∷ kinds_of marks
kinds_of (_ ∷ marks) = kinds_of marks
