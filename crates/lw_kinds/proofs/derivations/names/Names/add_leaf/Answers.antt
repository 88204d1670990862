use Rattle.std.proofs.Common.{◌↔◌, sym, subst}
use Rattle.lw_faults.specs.Reads.{ValueLeads}
use Rattle.lw_numbers.specs.Parts.{leaf_of}
use Rattle.lw_kinds.specs.Edges.{CallsAtLeaf}
use Rattle.lw_kinds.proofs.NamedRules.{IsThisName, added_by}
use Rattle.lw_kinds.proofs.derivations.names.Names.add_leaf.Goals as goal

pub returns-in-Call : goal.returns-in-Call
returns-in-Call c =
    let g = c.args.self.now.g.now in
    added_by g c.add_call.result c.args.from (IsThisName g c.in-Call.name.now) (CallsAtLeaf g (leaf_of c.args.leaf.now))
    (λ name. subst (λ l. IsThisName g c.in-Call.name.now name ↔ CallsAtLeaf g (leaf_of l) name) (sym c.in-Call.is) (λ is. is, λ is. is)) c.args.graph.now c.add_call.new.graph c.add_call.ensures

pub returns-in-Assign : goal.returns-in-Assign
returns-in-Assign c =
    let g = c.args.self.now.g.now in
    added_by g c.add_value.result c.args.from (ValueLeads g c.in-Assign.value.now) (CallsAtLeaf g (leaf_of c.args.leaf.now))
    (λ name. subst (λ l. ValueLeads g c.in-Assign.value.now name ↔ CallsAtLeaf g (leaf_of l) name) (sym c.in-Assign.is) (λ is. is, λ is. is)) c.args.graph.now c.add_value.new.graph
    c.add_value.ensures
