-- How it is told that a grammar has no tables: a conflict by the path of the file and the position of the choice there.
-- Positions are those of LSP 3.17, "Position".
use Rattle.std.specs.Prelude.{ℕ, ◌≡◌, List, [], ◌∷◌}
use Rattle.lw_grammar.specs.declared.grammar.Grammar.{Grammar}
use Rattle.lw_load.specs.Standing.{AreIn}
use Rattle.lw_lookahead.specs.declared.fault.Conflict.{Conflict}
use Rattle.lw_lookahead.specs.declared.fault.LookFault.{LookFault}
use Rattle.lw_lookahead.specs.declared.fault.LookFault.TheVariants as look
use Rattle.lw_lang.specs.declared.told_look.ToldConflict.{ToldConflict}
use Rattle.lw_lang.specs.declared.told_look.ToldLookFault.{ToldLookFault}
use Rattle.lw_lang.specs.declared.told_look.ToldLookFault.TheVariants as told
use Rattle.lw_lang.specs.declared.fault.CompileFault.{CompileFault}
use Rattle.lw_lang.specs.declared.fault.CompileFault.TheVariants as compile
use Rattle.lw_lang.specs.ToldTerms.{IsPlacedAs}

-- where the texts of the grammar's files are these
module _ (g : Grammar) (texts : List (List ℕ)) where
  -- where k kinds are looked at
  module _ (k : ℕ) where
    pub record IsConflictToldAs (found : Conflict) (told : ToldConflict) : Type 0 where
      pub placed : IsPlacedAs g texts found.file found.span told.place
      pub depth : told.k ≡ k
      pub first : told.first ≡ found.first
      pub second : told.second ≡ found.second
      pub shared : told.shared ≡ found.text

    pub data IsLookToldAs : LookFault → ToldLookFault → Type 0 where
      many : IsLookToldAs look.TooMany told.TooMany
      conflict : {found : Conflict} {as_told : ToldConflict} → IsConflictToldAs found as_told →
          IsLookToldAs (look.Conflict found) (told.Conflict as_told)

    -- the fault as it is told, or there was no memory before
    abbrev pub IsLookToldOr : LookFault → CompileFault → Type 0
    IsLookToldOr fault (compile.Look told) = IsLookToldAs fault told
    IsLookToldOr fault compile.NoMemory = fault ≡ look.NoMemory
    IsLookToldOr fault _ = ⊥

  -- the fault speaks of a place in the text of its file
  abbrev pub CanLookBeTold : LookFault → Type 0
  CanLookBeTold (look.Conflict found) = AreIn texts found.file (found.span ∷ [])
  CanLookBeTold look.TooMany = Unit {0}
  CanLookBeTold look.NoMemory = Unit {0}
