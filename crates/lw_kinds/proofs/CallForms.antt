-- What calls and cross-references pass, by what their names mean.
use Rattle.std.proofs.Common.{ℕ, ◌↔◌, List, Bool, Option, subst}
use Rattle.std.specs.Prelude.{IsTrue}
use Rattle.lw_grammar.specs.declared.grammar.Grammar.{Grammar}
use Rattle.lw_grammar.specs.declared.rule.Rule.{Rule}
use Rattle.lw_grammar.specs.Named.{IsRule}
use Rattle.lw_grammar.proofs.FirstLemmas.{first_place}
use Rattle.lw_faults.specs.Reads.{IsTokenCall}
use Rattle.lw_graph.specs.Walks.{HasNode}
use Rattle.lw_kinds.specs.Crossing.{IsReadBy}
use Rattle.lw_kinds.specs.Passing.{CallPasses, CrossPasses}
use Rattle.lw_kinds.specs.Passing as pass
use Rattle.lw_kinds.proofs.OneName.{one_reads}

module _ (g : Grammar) (tokens : Bool) (flags : List Bool) where
  module _ {name : List ℕ} where
    rule_set : {r : ℕ} {rule : Rule} → IsRule g name r rule → CallPasses g tokens flags name → HasNode flags r
    rule_set {r} {rule} is (pass.token allowed none) = absurd (none r rule is)
    rule_set is (pass.rule_ q other was set) = subst (HasNode flags) (first_place was.first is.first) set

    pub rule_passes : {P : Type 0} {r : ℕ} → (rule : Rule) × IsRule g name r rule → P ↔ HasNode flags r → P ↔ CallPasses g tokens flags name
    rule_passes {r = r} (rule, is) same = (λ p. pass.rule_ r rule is (same.0 p), λ does. same.1 (rule_set is does))

    token_allowed : IsTokenCall g name → CallPasses g tokens flags name → IsTrue tokens
    token_allowed none (pass.token allowed _) = allowed
    token_allowed none (pass.rule_ r rule is _) = absurd (none r rule is)

    pub token_passes : IsTokenCall g name → IsTrue tokens ↔ CallPasses g tokens flags name
    token_passes none = (λ allowed. pass.token allowed none, λ does. token_allowed none does)

  module _ {wanted : List ℕ} {rule : Option (List ℕ)} where
    named_passes : {name : List ℕ} → IsReadBy g wanted rule name → CrossPasses g tokens flags wanted rule → CallPasses g tokens flags name
    named_passes {name} is (pass.by_name other was does) = subst (CallPasses g tokens flags) (one_reads g wanted rule other name was is) does
    named_passes {name} is (pass.by_none allowed none) = absurd (none name is)

    pub cross_passes : {P : Type 0} {name : List ℕ} → IsReadBy g wanted rule name → P ↔ CallPasses g tokens flags name → P ↔ CrossPasses g tokens flags wanted rule
    cross_passes {name = name} is same = (λ p. pass.by_name name is (same.0 p), λ does. same.1 (named_passes is does))

    cross_allowed : ((name : List ℕ) → ¬ IsReadBy g wanted rule name) → CrossPasses g tokens flags wanted rule → IsTrue tokens
    cross_allowed none (pass.by_name name is does) = absurd (none name is)
    cross_allowed none (pass.by_none allowed _) = allowed

    pub nameless_passes : ((name : List ℕ) → ¬ IsReadBy g wanted rule name) → IsTrue tokens ↔ CrossPasses g tokens flags wanted rule
    nameless_passes none = (λ allowed. pass.by_none allowed none, λ does. cross_allowed none does)
