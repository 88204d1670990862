-- The number of the rule that a cross-reference is read by: that of the one name that it is read by.
use Rattle.std.proofs.Common.{ℕ, List, Option, Some, None, MatchOption, subst}
use Rattle.lw_base.specs.declared.numbers.RuleId.{RuleId}
use Rattle.lw_grammar.specs.declared.grammar.Grammar.{Grammar}
use Rattle.lw_grammar.specs.NameRules.{IsNameRule}
use Rattle.lw_numbers.specs.Numbering.{IsNumbered}
use Rattle.lw_kinds.proofs.OneName.{one_reads}
use Rattle.lw_kinds.specs.NameRuleNumbers.{IsNameRuleNumber}

module _ (g : Grammar) (wanted : List ℕ) where
  pub none_read : ((name : List ℕ) → ¬ IsNameRule g wanted name) → (n : ℕ) → ¬ IsNameRuleNumber g wanted n
  none_read none n is = none is.name is.reads

  pub read_by : (name : List ℕ) → IsNameRule g wanted name → (found : Option RuleId) →
      MatchOption found ((n : ℕ) → ¬ IsNumbered g name n) (λ id. IsNumbered g name id.0) →
      MatchOption found ((n : ℕ) → ¬ IsNameRuleNumber g wanted n) (λ id. IsNameRuleNumber g wanted id.0)
  read_by name reads None none = λ n is. none n (subst (λ m. IsNumbered g m n) (one_reads g wanted None is.name name is.reads reads) is.number)
  read_by name reads (Some id) number = record { name = name; reads = reads; number = number }
