-- What tables need to know of rules, and what is known of a grammar by them.
use Rattle.std.proofs.Common.{◌≡◌, ℕ, zero, suc, List, [], ◌∷◌, Bool, true, false, Some, inl, inr, ◌⊎◌, slice_get, refl, subst}
use Rattle.lw_grammar.specs.declared.grammar.Grammar.{Grammar}
use Rattle.lw_grammar.specs.Nodes.{MakesNodes}
use Rattle.lw_grammar.specs.Kinds.{Kinds, AreKinds}
use Rattle.lw_look.specs.Looks.{IsLL}
use Rattle.lw_look.specs.Strings.{HasMoreStrings}
use Rattle.lw_look.specs.Supplied.{NodesAreTold}
use Rattle.lw_lookahead.specs.declared.points.point.TheConstants.{MOST_STRINGS}
use Rattle.lw_lookahead.specs.Conflicts.{CausesNoTables}
use Rattle.lw_lookahead.specs.declared.fault.LookFault.{LookFault}
use Rattle.lw_lookahead.specs.declared.kept.Tables.{Tables}
use Rattle.lw_lookahead.specs.Tables.{AreTables}
use Rattle.lw_numbers.specs.Kinship.{AreNodeRules}
use Rattle.lw_lang.specs.Compiled.{HasTables}

-- flags by which rules make nodes tell it of each
pub nodes_told : (g : Grammar) (flags : List Bool) → AreNodeRules g flags → NodesAreTold g
nodes_told g flags are r rule there = by (is_so flags r)
  where
    is_so : (flags : List Bool) (r : ℕ) → (slice_get flags r ≡ Some true) ⊎ ¬ (slice_get flags r ≡ Some true)
    is_so [] r = inr (λ is. cc)
    is_so (true ∷ flags) zero = inl refl
    is_so (false ∷ flags) zero = inr (λ is. cc)
    is_so (flag ∷ flags) (suc r) = is_so flags r

    by : (slice_get flags r ≡ Some true) ⊎ ¬ (slice_get flags r ≡ Some true) → MakesNodes g rule ⊎ ¬ MakesNodes g rule
    by (inl set) = inl ((are.exact r rule there).1 set)
    by (inr unset) = inr (λ makes. unset ((are.exact r rule there).0 makes))

-- ---- what is known of the grammar of a lexicon, is known of the grammar

module _ (g h : Grammar) (is : h ≡ g) (kinds : Kinds) (are : AreKinds g kinds) (k : ℕ) where
  pub has_tables : ((kinds : Kinds) → AreKinds h kinds → IsLL h kinds k) → ((kinds : Kinds) → AreKinds h kinds → ¬ HasMoreStrings h kinds k MOST_STRINGS) → HasTables g k
  has_tables tells few = record {
    kinds = kinds;
    are = are;
    few = subst (λ h. (kinds : Kinds) → AreKinds h kinds → ¬ HasMoreStrings h kinds k MOST_STRINGS) is few kinds are;
    tells = subst (λ h. (kinds : Kinds) → AreKinds h kinds → IsLL h kinds k) is tells kinds are;
  }

  pub has_all_tables : (tables : Tables) → ((kinds : Kinds) → AreKinds h kinds → AreTables h kinds k tables) → (kinds : Kinds) → AreKinds g kinds → AreTables g kinds k tables
  has_all_tables tables all = subst (λ h. (kinds : Kinds) → AreKinds h kinds → AreTables h kinds k tables) is all

  pub has_cause : (fault : LookFault) → ((kinds : Kinds) → AreKinds h kinds → CausesNoTables h kinds k fault) → CausesNoTables g kinds k fault
  has_cause fault cause = subst (λ h. (kinds : Kinds) → AreKinds h kinds → CausesNoTables h kinds k fault) is cause kinds are
