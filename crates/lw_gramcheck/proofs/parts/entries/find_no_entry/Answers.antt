use Rattle.std.proofs.Common.{rules, ℕ}
use Rattle.std.proofs.lemmas.Result.{on_ok_weaker}
use Rattle.lw_grammar.specs.declared.rule.Rule.{Rule}
use Rattle.lw_grammar.specs.Named.{IsEntry}
use Rattle.lw_gramcheck.proofs.EntryLemmas.{found_no_entry}
use Rattle.lw_gramcheck.proofs.parts.entries.find_no_entry.Goals as goal

pub returns : goal.returns
returns c =
    let none : (r : ℕ) (rule : Rule) → ¬ IsEntry c.args.g.now r rule = search rules in
    on_ok_weaker c.add.result (found_no_entry c.args.g.now none) c.add.ensures
