-- A grammar of many rules without actions, and one terminal.
use Rattle.std.proofs.Common.{◌≡◌, ◌<◌, ◌≤◌, ◌*◌, ℕ, List, length, replicate, codes, count_by, refl, sym, ap, ◌∙◌, subst, arith}
use Rattle.std.proofs.lemmas.List.{length-replicate}
use Rattle.std.proofs.lemmas.List.Folds.{sum_by-replicate}
use Rattle.lw_base.specs.declared.token.Span.{Span}
use Rattle.lw_grammar.specs.declared.rule.Rule.{Rule}
use Rattle.lw_grammar.specs.declared.rule.Op.TheVariants.{One}
use Rattle.lw_grammar.specs.declared.rule.Value0.TheVariants as value
use Rattle.lw_grammar.specs.Leaves.{leaves}
use Rattle.lw_grammar.proofs.LeafLemmas.{leaves-Assign}
use Rattle.lw_faults.specs.Entries.{TooManyRules, too_many, is_act, action_count}
use Rattle.lw_faults.specs.Worked.{StandsAlone, StandsNowhere, no_place, a_entry, many_rules}

no_action : count_by is_act (leaves a_entry.body) ≡ 0
no_action = subst (λ ls. count_by is_act ls ≡ 0) (sym (leaves-Assign (codes "x") One (value.Call (codes "ID") no_place) no_place)) refl

module _ (n : ℕ) where
  no_actions : action_count (many_rules n) ≡ 0
  no_actions = sum_by-replicate (λ (rule : Rule). count_by is_act (leaves rule.body)) n a_entry ∙ ap (λ k. n * k) no_action ∙ omega arith

  rules : length (replicate n a_entry) ≡ n
  rules = length-replicate n a_entry

  pub many : 1023 < n → StandsAlone (TooManyRules (many_rules n)) 0 no_place (codes "G")
  many above = (too_many (omega (arith, above, no_actions, rules)), others)
    where
      others : (f : ℕ) (t : Span) (name : List ℕ) → TooManyRules (many_rules n) f t name → (f ≡ 0) × (t ≡ no_place) × (name ≡ codes "G")
      others f t name (too_many _) = (refl, refl, refl)

  pub few : n ≤ 1023 → StandsNowhere (TooManyRules (many_rules n))
  few below f t name (too_many above) = omega (arith, below, above, no_actions, rules)
