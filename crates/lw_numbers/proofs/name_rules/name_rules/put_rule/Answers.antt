use Rattle.std.proofs.Common.{List, ℕ, MatchOption, subst}
use Rattle.lw_numbers.specs.NameTable.{NamesBy}
use Rattle.lw_numbers.proofs.Entries.{puts_untyped, puts_nameless, puts_named}
use Rattle.lw_numbers.proofs.name_rules.name_rules.put_rule.Goals as goal

pub returns-in_default : goal.returns-in_default
returns-in_default c = puts_untyped c.args.g.now c.args.rule.now c.args.called.now.entries (c.in_default.ensures c.args.g.now)

pub returns-in_default-2 : goal.returns-in_default-2
returns-in_default-2 c =
    let g = c.args.g.now in
    let rule = c.args.rule.now in
    puts_nameless g rule c.args.called.now.entries
    (subst (λ o. MatchOption o ((called : List ℕ) → ¬ NamesBy g rule called) (λ called. NamesBy g rule called.now)) c.in_default-2.is c.in_ok-name.ensures)

pub returns : goal.returns
returns c =
    let g = c.args.g.now in
    let rule = c.args.rule.now in
    puts_named g rule c.in-Some.own.now c.in-Some-2.name.now (c.in-Some.ensures g)
    (subst (λ o. MatchOption o ((called : List ℕ) → ¬ NamesBy g rule called) (λ called. NamesBy g rule called.now)) c.in-Some-2.is c.in_ok-name.ensures)
    c.args.called.now.entries c.put_above.new.called.entries (c.in_ok-put_above.ensures g c.requires.related)
