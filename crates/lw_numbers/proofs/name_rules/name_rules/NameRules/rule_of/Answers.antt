use Rattle.std.proofs.Common.{ℕ, List, ap, ◌∙◌, bytes_eq}
use Rattle.std.specs.Map.{lookup}
use Rattle.lw_grammar.specs.NameRules.{IsNameRule}
use Rattle.lw_numbers.proofs.Entries.{found_at}
use Rattle.lw_numbers.proofs.name_rules.name_rules.NameRules.rule_of.Goals as goal

pub returns : goal.returns
returns c g are =
    let wanted = c.args.wanted.now in
    found_at ((called : List ℕ) → ¬ IsNameRule g wanted called) (IsNameRule g wanted) c.get.result (lookup (bytes_eq wanted) c.args.self.now)
    (c.get.ensures.value ∙ ap (λ entries. lookup (bytes_eq wanted) entries) c.self.view_is) (are wanted)
