-- A flag by rule, which is set where the rule has a finite sentence, tells it of each.
use Rattle.std.proofs.Common.{◌≡◌, ℕ, ◌⊎◌, inl, inr, Bool, true, false, Some, slice_get, refl, sym, ◌∙◌}
use Rattle.std.specs.Prelude.{slice_index_or}
use Rattle.lw_grammar.specs.declared.grammar.Grammar.{Grammar}
use Rattle.lw_grammar.specs.declared.rule.Rule.{Rule}
use Rattle.lw_faults.specs.Reads.{MayRead}
use Rattle.lw_kinds.specs.Reading.{RuleFlags, IsReadingOf}

pub ends_told : (g : Grammar) (flags : RuleFlags) → IsReadingOf g flags → (r : ℕ) (rule : Rule) → slice_get g.rules r ≡ Some rule →
    ((n : ℕ) × MayRead g rule.body n) ⊎ ((n : ℕ) → ¬ MayRead g rule.body n)
ends_told g flags are r rule there = by (slice_index_or flags.ends r false) refl
  where
    by : (flag : Bool) → slice_index_or flags.ends r false ≡ flag → ((n : ℕ) × MayRead g rule.body n) ⊎ ((n : ℕ) → ¬ MayRead g rule.body n)
    by true is = inl ((are.ends r rule there).0 is)
    by false is = inr (λ n reads. absurd (let set = (are.ends r rule there).1 (n, reads) in let both : true ≡ false = sym set ∙ is in cc))
