use Rattle.std.proofs.Common.{◌≡◌, ◌-◌, [], ◌++◌, ◌∙◌, take, Some, None, map, reverse, sym, ap, subst}
use Rattle.lw_numbers.specs.Parts.{leaf_of}
use Rattle.lw_numbers.proofs.Expanding.{has_leaves}
use Rattle.lw_numbers.specs.Searching.{FindsName, ends, names}
use Rattle.lw_numbers.proofs.FirstName.{finds_first}
use Rattle.lw_numbers.proofs.SearchSteps.{next_leaf}
use Rattle.lw_numbers.proofs.name_rules.first_name.first_name.Goals as goal

pub returns-in-Some-name_called : goal.returns-in-Some-name_called
returns-in-Some-name_called c =
    let g = c.args.g.now in
    let rule = c.args.rule.now in
    let called = c.in-Some-name_called.called.now in
    let search = c.loop-leaf.search in
    let all = has_leaves g rule in (
      all.0,
      all.1,
      finds_first g rule all.0 (Some called) all.1 (c.loop-leaf.invariant (Some called)
          (subst (λ ls. FindsName g search.seen.keys ls (Some called)) (sym (next_leaf search.waiting.items c.pop.new.self.items c.in-Some.leaf c.in-Some.ensures.items))
          (names c.in-Some-name_called.ensures))),
    )

pub returns : goal.returns
returns c called (all, has, first) =
    let g = c.args.g.now in
    let rule = c.args.rule.now in
    let search = c.loop-leaf.search in
    let pop = c.in_default.ensures in
    let none : search.waiting.items ≡ [] =
    pop.items ∙ ap (λ rest. rest ++ []) (pop.rest ∙ ap (λ n. take (n - 1) search.waiting.items) pop.cases.0) in
    finds_first g rule all None has (c.loop-leaf.invariant None
    (subst (λ items. FindsName g search.seen.keys (map leaf_of (reverse items)) None) (sym none) ends)) called first
