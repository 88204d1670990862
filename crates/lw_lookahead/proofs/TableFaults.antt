-- Why there are no tables: the choices have too many strings, or one of them has a conflict.
use Rattle.std.proofs.Common.{◌≡◌, ℕ, List, All, subst}
use Rattle.lw_grammar.specs.declared.grammar.Grammar.{Grammar}
use Rattle.lw_grammar.specs.Kinds.{Kinds}
use Rattle.lw_grammar.specs.KindTexts.{texts_of}
use Rattle.lw_look.specs.Strings.{HasMoreStrings}
use Rattle.lw_lookahead.specs.declared.points.point.Point.{Point}
use Rattle.lw_lookahead.specs.declared.points.point.TheConstants.{MOST_STRINGS}
use Rattle.lw_lookahead.specs.declared.fault.LookFault.{LookFault}
use Rattle.lw_lookahead.specs.declared.fault.LookFault.TheVariants as fault
use Rattle.lw_lookahead.specs.Conflicts.{CausesNoTables}
use Rattle.lw_lookahead.specs.Seen.{AreSeen, CausesNoChoices}
use Rattle.lw_lookahead.specs.Shared.{AreFewHeads, CausesNoEntries}
use Rattle.lw_lookahead.proofs.FirstConflict.{first_conflict}

module _ (g : Grammar) (kinds : Kinds) (k : ℕ) where
  pub choices_fault : (f : LookFault) → CausesNoChoices g kinds k f → CausesNoTables g kinds k f
  choices_fault (fault.Conflict conflict) causes = absurd causes
  choices_fault fault.TooMany causes = causes
  choices_fault fault.NoMemory causes = tt

  pub entries_fault : (points own : List Point) → own ≡ points → AreSeen g kinds k points → All (AreFewHeads k) points → ¬ HasMoreStrings g kinds k MOST_STRINGS →
      (f : LookFault) → CausesNoEntries (texts_of kinds) k own f → CausesNoTables g kinds k f
  entries_fault points own same seen few none (fault.Conflict conflict) causes =
      (none, first_conflict g kinds k points seen few conflict (subst (λ points. CausesNoEntries (texts_of kinds) k points (fault.Conflict conflict)) same causes))
  entries_fault points own same seen few none fault.TooMany causes = absurd causes
  entries_fault points own same seen few none fault.NoMemory causes = tt
