use Rattle.std.proofs.Common.{ℕ, List, MatchOption, sym, subst}
use Rattle.lw_kinds.specs.Crossing.{IsReadBy}
use Rattle.lw_kinds.proofs.names.Names.read_by.Goals as goal

pub returns-in-None : goal.returns-in-None
returns-in-None c =
    subst
    (λ rule. MatchOption c.rule_of.result ((name : List ℕ) → ¬ IsReadBy c.args.self.now.g.now c.args.wanted.now rule name)
    (λ name. IsReadBy c.args.self.now.g.now c.args.wanted.now rule name.now))
    (sym c.in-None.is) (c.rule_of.ensures c.args.self.now.g.now c.requires.name_rules)
