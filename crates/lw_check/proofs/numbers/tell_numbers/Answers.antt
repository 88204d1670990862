use Rattle.std.proofs.Common.{◌≡◌, List, ap}
use Rattle.lw_faults.specs.Finding.{Finds, OfSome}
use Rattle.lw_faults.proofs.Joining.{Finds-begin, Finds-more, Finds-all, Finds-read}
use Rattle.lw_base.specs.declared.numbers.NodeId.{NodeId}
use Rattle.lw_base.specs.declared.numbers.PropId.{PropId}
use Rattle.lw_link_rules.specs.TreeDiagnostics.{Diagnostic}
use Rattle.lw_tree.specs.declared.node.Value.{Value}
use Rattle.lw_tree.specs.Keyed.{values_of}
use Rattle.lw_check.specs.Sorting.{diagnostics_of}
use Rattle.lw_check.specs.Telling.{TellsValue}
use Rattle.lw_check.proofs.numbers.tell_numbers.Goals as goal

-- the value with this key tells it
abbrev Tells : NodeId × PropId × Value → Diagnostic → Type 0
Tells e = TellsValue e.2

pub loop-entry-init : goal.loop-entry-init
loop-entry-init c = Finds-begin Tells (diagnostics_of c.args.diagnostics.now.items) c.all_values-entry-items.result.now

pub loop-entry-preserved : goal.loop-entry-preserved
loop-entry-preserved c =
    Finds-more Tells c.all_values-entry-items.result.now c.loop-entry.entry-index c.entry-item.result c.loop-entry-test.true c.entry-item.is c.loop-entry.invariant
    c.in_ok-tell_value.ensures

pub returns : goal.returns
returns c =
    Finds-read (λ (e : NodeId × PropId × Value). e.2) TellsValue c.all_values-entry-items.result.now (values_of c.args.tree.now.values)
    (ap values_of c.all_values-entry-items.ensures)
    (Finds-all Tells c.all_values-entry-items.result.now c.loop-entry.entry-index c.loop-entry-test.false c.loop-entry.invariant)
