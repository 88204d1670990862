use Rattle.std.proofs.Common.{sym}
use Rattle.lw_check.specs.Sorting.{diagnostics_of}
use Rattle.lw_check.proofs.Known.{node_known}
use Rattle.lw_check.proofs.Pushed.{no_rival, one_rival_told}
use Rattle.lw_check.proofs.rivals.tell_rival.Goals as goal

pub returns-in_default-others : goal.returns-in_default-others
returns-in_default-others c g types =
    no_rival g c.args.tree.now c.args.n.0 c.in-Some.name.now c.in-Some.span (sym c.in-Some.ensures) c.node.result.now c.node.ensures c.args.index.now c.args.doc.0
    c.in_default-others.ensures (diagnostics_of c.args.diagnostics.now.items)

pub type_name-requires : goal.type_name-requires
type_name-requires c = node_known c.args.types.now c.args.tree.now c.requires.known c.args.n.0 c.node.result.now c.node.ensures

pub returns : goal.returns
returns c g types =
    one_rival_told g c.args.tree.now c.args.n.0 c.in-Some.name.now c.in-Some.span (sym c.in-Some.ensures) c.node.result.now c.node.ensures c.type_name.result.now
    (c.type_name.ensures g types) c.args.diagnostics.now.items c.push.new.self.items c.in_ok-diagnostic.diagnostic c.in_ok-push.ensures.items c.args.index.now
    c.args.doc.0 c.in-Some-others.uri.now c.in-Some-others.ensures c.in_ok-diagnostic.ensures
