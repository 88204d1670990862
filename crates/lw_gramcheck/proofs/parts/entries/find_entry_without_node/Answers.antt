use Rattle.std.proofs.Common.{◌≡◌, ◌⊎◌, inl, inr, true, sym, ◌∙◌}
use Rattle.std.proofs.lemmas.Result.{on_ok_weaker}
use Rattle.lw_grammar.specs.Nodes.{IsDataType}
use Rattle.lw_gramcheck.proofs.EntryLemmas.{found_no_node}
use Rattle.lw_gramcheck.proofs.parts.entries.find_entry_without_node.Goals as goal
use Rattle.lw_gramcheck.proofs.parts.entries.find_entry_without_node.Goals.{then-rule, else-rule}

pub returns-in-Some : goal.returns-in-Some
returns-in-Some c =
    let rule = c.in-Some.rule.now in
    let so : (rule.is_fragment ≡ true) ⊎ IsDataType c.args.checker.now.g.now rule =
    elim c.if-rule.branch [ then-rule w ↦ inl w.if-rule.true | else-rule w ↦ inr (w.is_data_type.ensures.0 (sym w.value-is ∙ c.if-is_data_type.true)) ] in
    on_ok_weaker c.add.result (found_no_node c.args.checker.now.g.now c.in-Some.r c.in-Some.rule.now c.in-Some.ensures so) c.add.ensures
