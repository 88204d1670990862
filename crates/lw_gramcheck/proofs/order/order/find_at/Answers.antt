use Rattle.std.proofs.Common.{OnOk, sym, subst, ◌∙◌}
use Rattle.std.proofs.lemmas.Bool.{false≢true}
use Rattle.std.proofs.lemmas.Result.{on_ok_weaker}
use Rattle.lw_numbers.specs.declared.leaves.body.BodyLeaf.{BodyLeaf}
use Rattle.lw_numbers.specs.Parts.{leaf_of}
use Rattle.lw_faults.specs.Finding.{Finds}
use Rattle.lw_faults.proofs.Joining.{Finds-nothing}
use Rattle.lw_gramcheck.specs.Found.{IsToldAt}
use Rattle.lw_gramcheck.proofs.TellingLemmas.{told_call, none_where_unfilled, none_at_other_call}
use Rattle.lw_gramcheck.proofs.order.order.find_at.Goals as goal
use Rattle.lw_gramcheck.proofs.order.order.find_at.Goals.{else-entry-via-then-entry+else-calls_node, else-entry-via-else-entry}

pub returns-then-calls_node : goal.returns-then-calls_node
returns-then-calls_node c =
    let g = c.args.names.g.now in
    let rule = c.args.rule.now in
    let entry = c.args.entry.now in
    let name = c.in-Call.name.now in
    let s = c.in-Call.span in
    let calls = (c.calls_node.ensures s).0 c.if-calls_node.true in
    let P : BodyLeaf → Type 0 = λ l. OnOk c.add.result (Finds (IsToldAt g rule entry (leaf_of l)) c.args.found.now c.add.new.self) in
    subst P (sym c.in-Call.is) (on_ok_weaker c.add.result (told_call g rule entry name s calls c.if-entry.true) c.add.ensures)

pub returns-else-entry : goal.returns-else-entry
returns-else-entry c =
    let g = c.args.names.g.now in
    let rule = c.args.rule.now in
    let entry = c.args.entry.now in
    let name = c.in-Call.name.now in
    let s = c.in-Call.span in
    let P : BodyLeaf → Type 0 = λ l. Finds (IsToldAt g rule entry (leaf_of l)) c.args.found.now c.args.found.now in
    subst P (sym c.in-Call.is) (elim c.else-entry.branch [
      | else-entry-via-then-entry+else-calls_node w ↦
          Finds-nothing (none_at_other_call g rule entry name s (λ calls. false≢true (sym w.if-calls_node.false ∙ (w.calls_node.ensures s).1 calls)))
      | else-entry-via-else-entry w ↦ Finds-nothing (none_where_unfilled g rule entry name s w.if-entry.false)
    ])
