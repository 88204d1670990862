use Rattle.std.proofs.Common.{◌≡◌, rules, subst, sym}
use Rattle.std.specs.List.Sorted.{IsStrictlyIncreasing}
use Rattle.std.proofs.lemmas.Map.Keys.{IsStrictlyIncreasing-from_sorted}
use Rattle.lw_flow.proofs.entries.ascending.Goals as goal

pub returns-clause-ascends : goal.returns-clause-ascends
returns-clause-ascends c =
    let same : c.in_ok-collect.field-0.items ≡ c.args.numbers.now.keys = search rules in
    subst IsStrictlyIncreasing (sym same) (IsStrictlyIncreasing-from_sorted c.args.numbers.now.keys c.iter.ensures.ordered)
