-- What a maker takes that lists some patterns, one takes that lists none.
use Rattle.std.proofs.Common.{ℕ, List, [], Option, take, Contains, arith}
use Rattle.std.proofs.lemmas.List.Elements.{All-weaker}
use Rattle.lw_base.specs.declared.numbers.RuleId.{RuleId}
use Rattle.lw_grammar.specs.declared.grammar.Grammar.{Grammar}
use Rattle.lw_kinds.specs.Rows.{KindRow}
use Rattle.lw_terminals.specs.declared.fault.TermFault.{TermFault}
use Rattle.lw_terminals.specs.declared.fault.TermFault.TheVariants.{TooManyKinds, KeywordBlank, PatternLong, PatternRefused, EmptyMatch, NoMemory}
use Rattle.lw_terminals.specs.Taken.{HasTaken, IsTried}
use Rattle.lw_terminals.specs.TokenSets.{HasTokens, CausesNoTokens}

none_listed : (pattern : List ℕ) → ¬ Contains [] pattern
none_listed pattern (k, inside, is) = omega (arith, inside)

module _ (g : Grammar) (listed : List (List ℕ)) where
  pub taken_unlisted : (place : ℕ) → HasTaken g listed place → HasTaken g [] place
  taken_unlisted place is = record {
    terminal = is.terminal;
    there = is.there;
    pattern = is.pattern;
    written = is.written;
    taken = record { short = is.taken.short; usable = is.taken.usable; unlisted = none_listed is.pattern };
  }

  tried_unlisted : (row : KindRow) (rule : RuleId) (pattern : List ℕ) → IsTried g listed row rule pattern → IsTried g [] row rule pattern
  tried_unlisted row rule pattern is = record {
    number = is.number;
    place = is.place;
    kind = is.kind;
    before = All-weaker (HasTaken g listed) (HasTaken g []) taken_unlisted (take is.number row.terminals) is.before;
    terminal = is.terminal;
    there = is.there;
    written = is.written;
    told = is.told;
  }

  pub tokens_unlisted : HasTokens g listed → HasTokens g []
  tokens_unlisted has = record {
    row = has.row;
    are_kinds = has.are_kinds;
    sound = has.sound;
    taken = All-weaker (HasTaken g listed) (HasTaken g []) taken_unlisted has.row.terminals has.taken;
  }

  pub causes_unlisted : (row : KindRow) (refused : Option (List ℕ)) (fault : TermFault) → CausesNoTokens g listed row refused fault → CausesNoTokens g [] row refused fault
  causes_unlisted row refused (TooManyKinds n) cause = cause
  causes_unlisted row refused (KeywordBlank file span) cause = cause
  causes_unlisted row refused (PatternLong rule bytes) (sound, pattern, tried, long, are) = (sound, pattern, tried_unlisted row rule pattern tried, long, are)
  causes_unlisted row refused (PatternRefused rule) (sound, pattern, tried, short, last) = (sound, pattern, tried_unlisted row rule pattern tried, short, last)
  causes_unlisted row refused (EmptyMatch rule) (sound, pattern, tried, short, empty, _) =
      (sound, pattern, tried_unlisted row rule pattern tried, short, empty, none_listed pattern)
  causes_unlisted row refused NoMemory cause = tt
