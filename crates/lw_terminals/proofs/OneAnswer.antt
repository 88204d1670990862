-- A grammar that has tokens has none of the faults that its kinds and patterns decide.
use Rattle.std.proofs.Common.{ℕ, List, [], Option, All, sym, ◌∙◌, subst, arith}
use Rattle.std.proofs.lemmas.Option.{same_Some, slice_get_within, get_or_from_slice_get}
use Rattle.lw_base.specs.declared.numbers.RuleId.{RuleId}
use Rattle.lw_grammar.specs.declared.grammar.Grammar.{Grammar}
use Rattle.lw_kinds.specs.Rows.{KindRow, AreKindRowOf}
use Rattle.lw_kinds.specs.Uses.{Use}
use Rattle.lw_kinds.proofs.OneRow.{one_row}
use Rattle.lw_terminals.proofs.OneTerminal.{one_terminal}
use Rattle.lw_tokens.specs.Patterns.{TerminalPattern}
use Rattle.lw_terminals.specs.declared.fault.TermFault.{TermFault}
use Rattle.lw_terminals.specs.declared.fault.TermFault.TheVariants.{TooManyKinds, KeywordBlank, PatternLong, PatternRefused, EmptyMatch, NoMemory}
use Rattle.lw_terminals.specs.Limits.{AreFew, AreTooMany, IsBlank}
use Rattle.lw_terminals.specs.Limits as limit
use Rattle.lw_terminals.specs.Taken.{HasTaken, IsTried, IsTaken}
use Rattle.lw_terminals.specs.TokenSets.{HasSoundKinds, HasTokens, IsOfKindsAndPatterns, CausesNoTokens}

not_too_many : (row : KindRow) (n : ℕ) → AreFew row → ¬ AreTooMany row n
not_too_many row n few (limit.kinds over) = omega (arith, few.kinds, over)
not_too_many row n few (limit.terminals under over) = omega (arith, few.terminals, over)

module _ (g : Grammar) (listed : List (List ℕ)) (row : KindRow) (sound : HasSoundKinds row) (taken : All (HasTaken g []) row.terminals) where
  -- a pattern that is tried is one that is taken
  tried_taken : (rule : RuleId) (pattern : List ℕ) → IsTried g listed row rule pattern → IsTaken [] pattern
  tried_taken rule pattern is =
      let has =
      subst (HasTaken g []) (get_or_from_slice_get row.terminals is.number is.place is.place is.kind)
      (taken is.number is.place (slice_get_within row.terminals is.number is.place is.kind)) in
      let same = same_Some has.terminal is.terminal (sym has.there ∙ is.there) in
      let its = subst (λ terminal. TerminalPattern g terminal has.pattern) same has.written in
      subst (IsTaken []) (one_terminal g is.terminal has.pattern pattern its is.written) has.taken

  no_fault : (refused : Option (List ℕ)) (fault : TermFault) → IsOfKindsAndPatterns fault → ¬ CausesNoTokens g listed row refused fault
  no_fault refused (TooManyKinds n) of cause = not_too_many row n sound.few cause
  no_fault refused (KeywordBlank file span) of (few, (number, text, first)) =
      let word : Use = (text, record { file = file; span = span }) in
      sound.not_blank number word (slice_get_within row.keywords number word first.there)
      (subst (λ (other : Use). IsBlank other.0) (sym (get_or_from_slice_get row.keywords number word word first.there)) first.does)
  no_fault refused (PatternLong rule bytes) of (_, pattern, tried, long, are) = omega (arith, long, (tried_taken rule pattern tried).short)
  no_fault refused (PatternRefused rule) of cause = of
  no_fault refused (EmptyMatch rule) of (_, pattern, tried, short, empty, _) = (tried_taken rule pattern tried).usable.not_empty empty
  no_fault refused NoMemory of cause = of

pub one_answer : (g : Grammar) (listed : List (List ℕ)) (row : KindRow) (refused : Option (List ℕ)) (fault : TermFault) → HasTokens g [] → AreKindRowOf g row →
    IsOfKindsAndPatterns fault → ¬ CausesNoTokens g listed row refused fault
one_answer g listed row refused fault has are =
    let same = one_row g has.row row has.are_kinds are in
    no_fault g listed row (subst HasSoundKinds same has.sound) (subst (λ (of : KindRow). All (HasTaken g []) of.terminals) same has.taken) refused fault
