-- Why a grammar has no tables: there are too many look-ahead strings, or else a window comes next at two ways of one choice.
use Rattle.std.specs.Prelude.{⊤, ℕ, ◌≡◌, ◌≢◌, ◌<◌, ◌≤◌, ◌⊎◌, List, Option, Some, slice_get}
use Rattle.std.specs.Cmp.Lexicographic.{slice_cmp}
use Rattle.std.specs.Ordering.{nat_cmp}
use Rattle.std.specs.declared.cmp.Ordering.TheVariants.{Greater}
use Rattle.lw_grammar.specs.declared.grammar.Grammar.{Grammar}
use Rattle.lw_grammar.specs.Kinds.{Kinds}
use Rattle.lw_grammar.specs.KindTexts.{texts_of}
use Rattle.lw_look.specs.Choices.{choice_sites}
use Rattle.lw_look.specs.Looks.{Look, window}
use Rattle.lw_look.specs.Sites.{PartSite}
use Rattle.lw_look.specs.Strings.{HasMoreStrings}
use Rattle.lw_first.specs.Heads.{kinds_in}
use Rattle.lw_lookahead.specs.declared.points.point.TheConstants.{MOST_STRINGS}
use Rattle.lw_lookahead.specs.Written.{IsWrittenAt}
use Rattle.lw_lookahead.specs.declared.fault.Conflict.{Conflict}
use Rattle.lw_lookahead.specs.declared.fault.LookFault.{LookFault}
use Rattle.lw_lookahead.specs.declared.fault.LookFault.TheVariants as fault
use Rattle.lw_lookahead.specs.Printed.{window_text}

module _ (g : Grammar) (kinds : Kinds) (k : ℕ) where
  -- at the choice no window comes next at two ways
  abbrev pub IsClearAt : PartSite → Type 0
  IsClearAt s = (i j : ℕ) (seen : List (Option ℕ)) → Look g kinds k s i seen → Look g kinds k s j seen → i ≡ j

  -- the window comes next at both ways of the choice
  abbrev pub IsShared : PartSite → ℕ → ℕ → List (Option ℕ) → Type 0
  IsShared s i j seen = Look g kinds k s i seen × Look g kinds k s j seen

  -- the first choice at which a window comes next at two ways, the least pair of such ways there, and of the windows that these share the
  -- one that is printed first by its bytes
  pub record IsFirstConflict (conflict : Conflict) : Type 0 where
    pub number : ℕ
    pub site : PartSite
    pub at : slice_get (choice_sites g) number ≡ Some site
    pub clear : (n : ℕ) (s : PartSite) → n < number → slice_get (choice_sites g) n ≡ Some s → IsClearAt s
    pub place : IsWrittenAt g site conflict.file conflict.span
    pub ascending : conflict.first < conflict.second
    pub shared : IsShared site conflict.first conflict.second (window k (kinds_in conflict.shared))
    pub least_pair : (i j : ℕ) (seen : List (Option ℕ)) → i < j → IsShared site i j seen →
        (conflict.first < i) ⊎ ((conflict.first ≡ i) × (conflict.second ≤ j))
    pub text : conflict.text ≡ window_text (texts_of kinds) (window k (kinds_in conflict.shared))
    pub least_text : (seen : List (Option ℕ)) → IsShared site conflict.first conflict.second seen →
        slice_cmp nat_cmp conflict.text (window_text (texts_of kinds) seen) ≢ Greater

  abbrev pub CausesNoTables : LookFault → Type 0
  CausesNoTables (fault.Conflict conflict) = ¬ (HasMoreStrings g kinds k MOST_STRINGS) × IsFirstConflict conflict
  CausesNoTables fault.TooMany = HasMoreStrings g kinds k MOST_STRINGS
  CausesNoTables fault.NoMemory = ⊤
