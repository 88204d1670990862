-- Why a grammar has no set of tokens, as it is told: the cause, and what becomes of the patterns.
use Rattle.std.proofs.Common.{◌≡◌, ℕ, List, Option, Ok, Err, Result, IfErr, sym, subst}
use Rattle.lw_grammar.specs.declared.grammar.Grammar.{Grammar}
use Rattle.lw_grammar.specs.Kinds.{Kinds, AreKinds}
use Rattle.lw_gramcheck.specs.Judging.{IsFaultless}
use Rattle.lw_kinds.specs.Rows.{KindRow, AreKindRowOf}
use Rattle.lw_terminals.specs.declared.fault.TermFault.{TermFault}
use Rattle.lw_terminals.specs.TokenSets as token
use Rattle.lw_terminals.proofs.Unlisted.{causes_unlisted}
use Rattle.lw_lookahead.specs.Conflicts.{CausesNoTables}
use Rattle.lw_lookahead.specs.declared.fault.LookFault.{LookFault}
use Rattle.lw_lang.specs.Compiled.{GrammarCauses, HasSoundTokens, IsBehindTokens, CountsPatterns, KeepsPatterns}
use Rattle.lw_lang.specs.ToldLooks.{IsLookToldOr}
use Rattle.lw_lang.specs.ToldTerms.{IsToldOr, IsTermToldAs}
use Rattle.lw_lang.specs.ToldTerms as told
use Rattle.lw_lang.specs.declared.told_term.ToldTermFault.{ToldTermFault}
use Rattle.lw_lang.specs.declared.fault.CompileFault.{CompileFault}
use Rattle.lw_lang.specs.declared.fault.CompileFault.TheVariants as fault

-- ---- a fault of keywords and terminals

module _ (g : Grammar) (texts : List (List ℕ)) (why : TermFault) where
  -- its cause is one by the grammar
  pub told_causes : (k : ℕ) (row : KindRow) → AreKindRowOf g row → IsFaultless g → (listed : List (List ℕ)) (refused : Option (List ℕ)) → token.CausesNoTokens g listed row refused why →
      (f : CompileFault) → IsToldOr g texts why f → GrammarCauses g texts k refused f
  told_causes k row are faultless listed refused cause (fault.Term as_told) is = record {
    faultless = faultless;
    row = row;
    are_kinds = are;
    fault = why;
    cause = causes_unlisted g listed row refused why cause;
    as_told = is;
  }
  told_causes k row are faultless listed refused cause fault.NoMemory is = tt
  told_causes k row are faultless listed refused cause (fault.Load found) is = absurd is
  told_causes k row are faultless listed refused cause (fault.Faults found) is = absurd is
  told_causes k row are faultless listed refused cause (fault.Look found) is = absurd is

-- and it counts as it did
module _ (g : Grammar) (texts : List (List ℕ)) (T U : Type 0) where
  term_counts : (before now : ℕ) (why : TermFault) (as_told : ToldTermFault) → IsTermToldAs g texts why as_told → token.CountsRefused {T = T} before now (Err why) →
      CountsPatterns {T = U} before now (Err (fault.Term as_told))
  term_counts before now _ _ told.kinds counts = counts
  term_counts before now _ _ (told.keyword at) counts = counts
  term_counts before now _ _ (told.long at) counts = counts
  term_counts before now _ _ (told.refused at) counts = counts
  term_counts before now _ _ (told.matches_empty at) counts = counts

  pub told_counts : (before now : ℕ) (why : TermFault) (f : CompileFault) → IsToldOr g texts why f → token.CountsRefused {T = T} before now (Err why) →
      CountsPatterns {T = U} before now (Err f)
  told_counts before now why (fault.Term as_told) is counts = term_counts before now why as_told is counts
  told_counts before now why fault.NoMemory is counts = subst (λ w. token.CountsRefused {T = T} before now (Err w)) is counts
  told_counts before now why (fault.Load found) is counts = absurd is
  told_counts before now why (fault.Faults found) is counts = absurd is
  told_counts before now why (fault.Look found) is counts = absurd is

  term_keeps : (before now : Option (List ℕ)) (why : TermFault) (as_told : ToldTermFault) → IsTermToldAs g texts why as_told →
      token.KeepsLastRefused {T = T} before now (Err why) → KeepsPatterns {T = U} before now (Err (fault.Term as_told))
  term_keeps before now _ _ told.kinds keeps = keeps
  term_keeps before now _ _ (told.keyword at) keeps = keeps
  term_keeps before now _ _ (told.long at) keeps = keeps
  term_keeps before now _ _ (told.refused at) keeps = keeps
  term_keeps before now _ _ (told.matches_empty at) keeps = keeps

  pub told_keeps : (before now : Option (List ℕ)) (why : TermFault) (f : CompileFault) → IsToldOr g texts why f → token.KeepsLastRefused {T = T} before now (Err why) →
      KeepsPatterns {T = U} before now (Err f)
  told_keeps before now why (fault.Term as_told) is keeps = term_keeps before now why as_told is keeps
  told_keeps before now why fault.NoMemory is keeps = subst (λ w. token.KeepsLastRefused {T = T} before now (Err w)) is keeps
  told_keeps before now why (fault.Load found) is keeps = absurd is
  told_keeps before now why (fault.Faults found) is keeps = absurd is
  told_keeps before now why (fault.Look found) is keeps = absurd is

-- ---- a grammar without tables, or no memory

module _ (g : Grammar) (texts : List (List ℕ)) (k : ℕ) where
  behind_causes : (refused : Option (List ℕ)) (f : CompileFault) → IsBehindTokens g texts k f → GrammarCauses g texts k refused f
  behind_causes refused (fault.Look found) is = is
  behind_causes refused fault.NoMemory is = tt
  behind_causes refused (fault.Load found) is = absurd is
  behind_causes refused (fault.Faults found) is = absurd is
  behind_causes refused (fault.Term found) is = absurd is

  -- its cause is one by the grammar, as it is told
  pub look_causes : HasSoundTokens g → (kinds : Kinds) → AreKinds g kinds → (why : LookFault) → CausesNoTables g kinds k why → (f : CompileFault) →
      IsLookToldOr g texts k why f → IsBehindTokens g texts k f
  look_causes sound kinds are why cause (fault.Look told) is = record { sound = sound; kinds = kinds; are = are; fault = why; cause = cause; as_told = is }
  look_causes sound kinds are why cause fault.NoMemory is = tt
  look_causes sound kinds are why cause (fault.Load found) is = absurd is
  look_causes sound kinds are why cause (fault.Faults found) is = absurd is
  look_causes sound kinds are why cause (fault.Term found) is = absurd is

  module _ {T : Type 0} where
    pub sound_causes : (refused : Option (List ℕ)) (r : Result T CompileFault) → IfErr r (IsBehindTokens g texts k) → IfErr r (GrammarCauses g texts k refused)
    sound_causes refused (Ok language) is = tt
    sound_causes refused (Err f) is = behind_causes refused f is

    -- that memory is wanting is a cause
    pub language_causes : (r : Result T CompileFault) → IfErr r (λ f. f ≡ fault.NoMemory) → IfErr r (IsBehindTokens g texts k)
    language_causes (Ok language) is = tt
    language_causes (Err f) is = subst (IsBehindTokens g texts k) (sym is) tt

    -- of the patterns nothing has changed
    pub sound_counts : (before now : ℕ) → now ≡ before → (r : Result T CompileFault) → IfErr r (IsBehindTokens g texts k) → CountsPatterns before now r
    sound_counts before now same (Ok language) is = same
    sound_counts before now same (Err (fault.Look found)) is = same
    sound_counts before now same (Err fault.NoMemory) is = same
    sound_counts before now same (Err (fault.Load found)) is = absurd is
    sound_counts before now same (Err (fault.Faults found)) is = absurd is
    sound_counts before now same (Err (fault.Term found)) is = absurd is
