-- What single calls, ranges and assignments add to the faults, in words of the code.
use Rattle.std.specs.Prelude.{ℕ, ◌≡◌, ◌⊎◌, List, Bool, true, false}
use Rattle.lw_base.specs.declared.token.Span.{Span}
use Rattle.lw_grammar.specs.declared.fault.GrammarFault.{GrammarFault}
use Rattle.lw_grammar.specs.declared.grammar.Grammar.{Grammar}
use Rattle.lw_grammar.specs.declared.rule.Op.{Op}
use Rattle.lw_grammar.specs.declared.rule.Op.TheVariants.{Flag}
use Rattle.lw_grammar.specs.declared.rule.Rule.{Rule}
use Rattle.lw_grammar.specs.declared.terminal.Terminal.{Terminal}
use Rattle.lw_grammar.specs.Named.{IsRule, IsTerminal}
use Rattle.lw_grammar.specs.Nodes.{MakesNodes, IsDataType}
use Rattle.lw_faults.specs.BadCalls.{IsInOrder}
use Rattle.lw_faults.specs.Faults.{fault}
use Rattle.lw_grammar.specs.Written.{Range, term_calls, term_ranges}
use Rattle.lw_faults.specs.Finding.{OfSome, OneIf}
use Rattle.lw_gramcheck.specs.Sites.{How, Assigned, Crossed, ByName, Site, HasSite}

-- a cross-reference reads by the name
abbrev pub is_cross : How → Bool
is_cross Crossed = true
is_cross ByName = true
is_cross _ = false

-- no rule may call it
abbrev pub IsUncallable : Terminal → Type 0
IsUncallable terminal = (terminal.is_hidden ≡ true) ⊎ (terminal.is_fragment ≡ true)

-- a range of a terminal has other ends than two characters in order
abbrev pub BadRange : Terminal → Range → GrammarFault → Type 0
BadRange terminal range = OneIf (¬ IsInOrder range.0 range.1) (fault 21 terminal.file range.2 terminal.name)

module _ (g : Grammar) where
  -- ---- calls of rules

  abbrev pub CallsUncallable : Site → Type 0
  CallsUncallable call = (t : ℕ) × (terminal : Terminal) × IsTerminal g call.name t terminal × IsUncallable terminal

  abbrev pub CrossesWrongly : Site → Type 0
  CrossesWrongly call = (r : ℕ) × (by : Rule) × IsRule g call.name r by × (is_cross call.how ≡ true) × ¬ IsDataType g by

  abbrev pub IsBadSite : Site → Type 0
  IsBadSite call = CallsUncallable call ⊎ CrossesWrongly call

  abbrev pub BadSite : Rule → Site → GrammarFault → Type 0
  BadSite rule call = OneIf (IsBadSite call) (fault 21 rule.file call.place call.name)

  abbrev pub HasBadSite : Rule → GrammarFault → Type 0
  HasBadSite rule f = (call : Site) × HasSite g rule call × BadSite rule call f

  -- ---- calls and ranges of terminals

  abbrev pub IsOfRule : List ℕ → Type 0
  IsOfRule name = (r : ℕ) × (rule : Rule) × IsRule g name r rule

  abbrev pub CallsRule : Terminal → List ℕ × Span → GrammarFault → Type 0
  CallsRule terminal call = OneIf (IsOfRule call.0) (fault 21 terminal.file call.1 call.0)

  abbrev pub HasBadPart : Terminal → GrammarFault → Type 0
  HasBadPart terminal f = OfSome (CallsRule terminal) (term_calls terminal.body) f ⊎ OfSome (BadRange terminal) (term_ranges terminal.body) f

  -- ---- assignments

  abbrev pub IsMisused : Op → Rule → Type 0
  IsMisused op rule = (rule.is_fragment ≡ true) ⊎ ((op ≡ Flag) × MakesNodes g rule)

  abbrev pub PutsBadly : Op → List ℕ → Type 0
  PutsBadly op name = (r : ℕ) × (called : Rule) × IsRule g name r called × IsMisused op called

  abbrev pub BadPutBy : Rule → List ℕ → How → GrammarFault → Type 0
  BadPutBy rule name (Assigned p op s) f = OneIf (PutsBadly op name) (fault 22 rule.file s p) f
  BadPutBy rule name _ f = ⊥

  abbrev pub BadPut : Rule → Site → GrammarFault → Type 0
  BadPut rule call = BadPutBy rule call.name call.how

  abbrev pub HasBadPut : Rule → GrammarFault → Type 0
  HasBadPut rule f = (call : Site) × HasSite g rule call × BadPut rule call f
