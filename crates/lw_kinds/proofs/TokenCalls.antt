-- Names that mean no rule.
use Rattle.std.proofs.Common.{◌≡◌, ℕ, List, inl, inr, Contains, arith}
use Rattle.std.proofs.lemmas.Option.{slice_get_within, get_or_from_slice_get}
use Rattle.std.specs.Prelude.{slice_get, Some}
use Rattle.lw_grammar.specs.declared.grammar.Grammar.{Grammar}
use Rattle.lw_grammar.specs.declared.terminal.Terminal.{Terminal}
use Rattle.lw_grammar.specs.Named.{Declaration, StandsBefore, IsTerminal, declared_rule, declared_terminal}
use Rattle.lw_numbers.specs.Numbering.{IsNumbered, rule_}
use Rattle.lw_faults.specs.Reads.{IsTokenCall}

pub got_there : {X : Type 0} (xs : List X) (i : ℕ) (x : X) → slice_get xs i ≡ Some x → Contains xs x
got_there xs i x is = (i, slice_get_within xs i x is, get_or_from_slice_get xs i x x is)

-- of two declarations one stands before the other
apart : (one other : Declaration) → StandsBefore one other → StandsBefore other one → ⊥
apart one other (inl sooner) (inl later) = omega (arith, sooner, later)
apart one other (inl sooner) (inr (same, _)) = omega (arith, sooner, same)
apart one other (inr (same, _)) (inl later) = omega (arith, same, later)
apart one other (inr (_, before)) (inr (_, behind)) = omega (arith, before, behind)

module _ (g : Grammar) (name : List ℕ) where
  pub terminal_is_token : (t : ℕ) (terminal : Terminal) → IsTerminal g name t terminal → IsTokenCall g name
  terminal_is_token t terminal is r rule was =
      apart (declared_rule rule) (declared_terminal terminal) (was.sooner terminal (got_there g.terminals t terminal is.first.there) is.first.does)
      (is.sooner rule (got_there g.rules r rule was.first.there) was.first.does)

  pub nothing_is_token : ((n : ℕ) → ¬ IsNumbered g name n) → IsTokenCall g name
  nothing_is_token none r rule is = none r (rule_ r rule is)
