use Rattle.std.proofs.Common.{arith, ap, length, nat_eq, subst}
use Rattle.std.specs.List.{list_any}
use Rattle.std.proofs.lemmas.List.{length-append}
use Rattle.lw_grammar.specs.Leaves.{leaves}
use Rattle.lw_numbers.specs.Parts.{leaf_of}
use Rattle.lw_numbers.specs.Searching.{FindsName, passes, ahead, unseen_leaves}
use Rattle.lw_numbers.proofs.FirstName.{fragment_there}
use Rattle.lw_numbers.proofs.SearchSteps.{is_new, is_there, length-ahead, finds_inside, finds_behind, fewer_unseen}
use Rattle.lw_numbers.proofs.name_rules.first_name.Search.go_past.Goals as goal

pub returns-in_default-clause-finds : goal.returns-in_default-clause-finds
returns-in_default-clause-finds c found more = passes c.requires.nameless c.in_default.ensures more

pub returns-in_ok-look_into-clause-finds : goal.returns-in_ok-look_into-clause-finds
returns-in_ok-look_into-clause-finds c found more =
    let g = c.args.g.now in
    let old = c.args.self.now in
    let rule = c.in-Some.rule.now in
    let put = c.insert.new.self.keys in
    let seen = c.in_ok-look_into.ensures.seen in
    finds_inside old.seen.keys put c.in-Some.number c.in_ok-insert.ensures.keys g (leaf_of c.args.leaf) rule c.in-Some.ensures (ahead old) found
    (is_new c.in_ok-insert.field-0 (list_any (nat_eq c.in-Some.number) old.seen.keys) c.in_ok-insert.ensures.added c.if-branch.true)
    (subst (λ ls. FindsName g put ls found) c.in_ok-look_into.ensures.ahead (subst (λ keys. FindsName g keys (ahead c.look_into.new.self) found) seen more))

pub returns-in_ok-look_into-clause-nearer : goal.returns-in_ok-look_into-clause-nearer
returns-in_ok-look_into-clause-nearer c =
    let g = c.args.g.now in
    let old = c.args.self.now in
    let new = c.look_into.new.self in
    let rule = c.in-Some.rule.now in
    let put = c.insert.new.self.keys in
    let fewer =
    fewer_unseen old.seen.keys put c.in-Some.number c.in_ok-insert.ensures.keys g.rules rule (fragment_there g (leaf_of c.args.leaf) c.in-Some.number rule c.in-Some.ensures)
    (is_new c.in_ok-insert.field-0 (list_any (nat_eq c.in-Some.number) old.seen.keys) c.in_ok-insert.ensures.added c.if-branch.true) in
    omega (
      arith,
      fewer,
      ap (λ keys. unseen_leaves 0 keys g.rules) c.in_ok-look_into.ensures.seen,
      ap length c.in_ok-look_into.ensures.ahead,
      length-ahead new,
      length-ahead old,
      length-append (leaves rule.body) (ahead old),
    )

pub returns-else-branch-clause-finds : goal.returns-else-branch-clause-finds
returns-else-branch-clause-finds c found more =
    let g = c.args.g.now in
    let old = c.args.self.now in
    finds_behind old.seen.keys c.insert.new.self.keys c.in-Some.number c.in_ok-insert.ensures.keys g (leaf_of c.args.leaf) c.in-Some.rule.now c.in-Some.ensures (ahead old) found
    (is_there c.in_ok-insert.field-0 (list_any (nat_eq c.in-Some.number) old.seen.keys) c.in_ok-insert.ensures.added c.if-branch.false) more
