use Rattle.std.proofs.Common.{true≢false, sym, ◌∙◌}
use Rattle.lw_check.specs.Sorting.{diagnostics_of}
use Rattle.lw_check.proofs.Known.{node_known}
use Rattle.lw_check.proofs.Pushed.{named_here, no_double, one_double}
use Rattle.lw_check.proofs.duplicates.tell_duplicate.Goals as goal

pub type_name-requires : goal.type_name-requires
type_name-requires c = node_known c.args.types.now c.args.tree.now c.requires.known c.args.n.0 c.node.result.now c.node.ensures

pub returns-then-not-is_duplicate : goal.returns-then-not-is_duplicate
returns-then-not-is_duplicate c g types =
    let node = c.node.result.now in
    let named = sym c.in-Some.ensures in
    let is = named_here g c.args.tree.now c.args.n.0 c.in-Some.name.now c.in-Some.span named node c.node.ensures in
    no_double g c.args.tree.now c.args.n.0 c.in-Some.name.now c.in-Some.span named node c.node.ensures
    (λ double. true≢false (sym ((c.is_duplicate.ensures node.type_id.0 is).1 double) ∙ c.if-not-is_duplicate.true)) (diagnostics_of c.args.diagnostics.now.items)

pub returns : goal.returns
returns c g types =
    let node = c.node.result.now in
    let named = sym c.in-Some.ensures in
    let is = named_here g c.args.tree.now c.args.n.0 c.in-Some.name.now c.in-Some.span named node c.node.ensures in
    one_double g c.args.tree.now c.args.n.0 c.in-Some.name.now c.in-Some.span named node c.node.ensures c.type_name.result.now (c.type_name.ensures g types)
    c.args.diagnostics.now.items c.push.new.self.items c.in_ok-diagnostic.diagnostic c.in_ok-push.ensures.items
    ((c.is_duplicate.ensures node.type_id.0 is).0 c.if-not-is_duplicate.false) c.in_ok-diagnostic.ensures
