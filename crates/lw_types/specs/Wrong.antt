-- What is known of the names of a grammar, and when a name is wrong where it is written, in words of the code.
use Rattle.std.specs.Prelude.{ℕ, ◌≡◌, ◌↔◌, List, Contains, map}
use Rattle.lw_base.specs.declared.token.Span.{Span}
use Rattle.lw_grammar.specs.declared.grammar.Grammar.{Grammar}
use Rattle.lw_grammar.specs.declared.fault.GrammarFault.{GrammarFault}
use Rattle.lw_numbers.specs.Tables.{AreNumbersOf}
use Rattle.lw_numbers.specs.NameTable.{AreNameRulesOf}
use Rattle.lw_grammar.specs.Written.{IsNoRule, HasDeclaration, IsInferredType, IsKnownType}
use Rattle.lw_faults.specs.Names.{IsNameless}
use Rattle.lw_faults.specs.Faults.{fault}
use Rattle.lw_faults.specs.Finding.{OneIf}
use Rattle.lw_types.specs.declared.naming.mentions.Role.{Role}
use Rattle.lw_types.specs.declared.naming.mentions.Role.TheVariants.{InfersType, CallsRule, NamesType, WantsNameRule}
use Rattle.lw_types.specs.declared.naming.names.KnownNames.{KnownNames}
use Rattle.lw_types.specs.NameUses.{NameUse, use_of, uses}

-- what is kept of the grammar's names is true of it
pub record KnowsNames (names : KnownNames) : Type 0 where
  pub numbered : AreNumbersOf names.g.now names.numbers.now
  pub ruled : AreNameRulesOf names.g.now names.name_rules.now
  pub written : map use_of names.mentions.items ≡ uses names.g.now
  pub inferred : (name : List ℕ) → Contains names.inferred.keys name ↔ IsInferredType names.g.now name

-- the name of a type that is inferred here
abbrev pub InfersName : NameUse → List ℕ → Type 0
InfersName s = OneIf (s.role ≡ InfersType) s.name

module _ (g : Grammar) where
  -- a name that does this here is wrong
  abbrev pub IsWrongAs : Role → ℕ → Span → List ℕ → Type 0
  IsWrongAs InfersType file s name = HasDeclaration g name
  IsWrongAs CallsRule file s name = IsNoRule g name
  IsWrongAs NamesType file s name = ¬ IsKnownType g name
  IsWrongAs WantsNameRule file s name = IsNameless g name

  abbrev pub IsWrong : NameUse → Type 0
  IsWrong s = IsWrongAs s.role s.file s.place s.name

-- the number of the fault
abbrev pub fault_number : Role → ℕ
fault_number InfersType = 4
fault_number CallsRule = 5
fault_number NamesType = 6
fault_number WantsNameRule = 18

abbrev pub TellsWrong : Grammar → NameUse → GrammarFault → Type 0
TellsWrong g s = OneIf (IsWrong g s) (fault (fault_number s.role) s.file s.place s.name)
