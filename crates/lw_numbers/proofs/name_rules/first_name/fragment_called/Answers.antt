use Rattle.std.proofs.Common.{sym, subst}
use Rattle.lw_numbers.specs.Parts.{leaf_of}
use Rattle.lw_numbers.specs.Searching.{CallsNoFragment}
use Rattle.lw_numbers.proofs.SearchSteps.{a_terminal, nothing_called}
use Rattle.lw_numbers.proofs.name_rules.first_name.fragment_called.Goals as goal

pub returns-in-Terminal : goal.returns-in-Terminal
returns-in-Terminal c =
    let calls = c.in-Call in
    subst (λ leaf. CallsNoFragment c.args.g.now (leaf_of leaf)) (sym calls.is)
    (a_terminal c.args.g.now calls.name.now calls.field-1 c.in-Terminal.field-0 c.in-Terminal.field-1.now c.in-Terminal.ensures)

pub returns-in-Nothing : goal.returns-in-Nothing
returns-in-Nothing c =
    let calls = c.in-Call in
    subst (λ leaf. CallsNoFragment c.args.g.now (leaf_of leaf)) (sym calls.is) (nothing_called c.args.g.now calls.name.now calls.field-1 c.in-Nothing.ensures)
