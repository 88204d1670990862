use Rattle.std.proofs.Common.{◌≡◌, ℕ, List, Some, Contains, slice_get, slice_index_or, sym, ap, subst, ◌∙◌}
use Rattle.std.proofs.lemmas.Option.{get_or_from_slice_get, slice_get-get_or}
use Rattle.lw_base.specs.declared.numbers.NodeId.{NodeId}
use Rattle.lw_faults.proofs.Joining.{Finds-all, Finds-more, Finds-read}
use Rattle.lw_scoping.specs.Symbols.{exports}
use Rattle.lw_link_rules.specs.TreeDiagnostics.{Diagnostic}
use Rattle.lw_scoping.proofs.Places.{among}
use Rattle.lw_symbols.proofs.Filtered.{numbered, numbers}
use Rattle.lw_check.specs.Sorting.{diagnostics_of}
use Rattle.lw_check.specs.Telling.{TellsRival}
use Rattle.lw_check.proofs.Exported.{export_inside}
use Rattle.lw_check.proofs.Pushed.{no_rivals}
use Rattle.lw_check.proofs.rivals.tell_rivals.Goals as goal

pub returns-then-not-others : goal.returns-then-not-others
returns-then-not-others c g types =
    no_rivals g c.args.tree.now c.args.index.now c.args.doc.0 (exports c.args.tree.now) (c.requires.alone c.if-not-others.true) (diagnostics_of c.args.diagnostics.now.items)

pub tell_rival-requires-clause-there : goal.tell_rival-requires-clause-there
tell_rival-requires-clause-there c =
    let items = c.deref-node-items.result.now in
    let node = slice_index_or items c.loop-node.node-index (record { 0 = 0 }) in
    let all : numbers items ≡ exports c.args.tree.now = ap numbers c.deref-node-items.ensures.value ∙ c.in_ok-nodes.ensures in
    let at : slice_get items c.loop-node.node-index ≡ Some node = slice_get-get_or items c.loop-node.node-index (record { 0 = 0 }) c.loop-node-test.true in
    let has : Contains items node = among items c.loop-node.node-index node at in
    export_inside c.args.tree.now node.0 c.requires.root (subst (λ (ks : List ℕ). Contains ks node.0) all (numbered items node has))

pub loop-node-preserved : goal.loop-node-preserved
loop-node-preserved c g types =
    let items = c.deref-node-items.result.now in
    let node = slice_index_or items c.loop-node.node-index (record { 0 = 0 }) in
    let at : slice_get items c.loop-node.node-index ≡ Some node = slice_get-get_or items c.loop-node.node-index (record { 0 = 0 }) c.loop-node-test.true in
    Finds-more (λ (n : NodeId). TellsRival g c.args.tree.now c.args.index.now c.args.doc.0 n.0) items c.loop-node.node-index node c.loop-node-test.true
    (sym (get_or_from_slice_get items c.loop-node.node-index node node at)) (c.loop-node.invariant g types) (c.in_ok-tell_rival.ensures g types)

pub returns : goal.returns
returns c g types =
    let items = c.deref-node-items.result.now in
    let has : ℕ → Diagnostic → Type 0 = TellsRival g c.args.tree.now c.args.index.now c.args.doc.0 in
    let all : numbers items ≡ exports c.args.tree.now = ap numbers c.deref-node-items.ensures.value ∙ c.in_ok-nodes.ensures in
    Finds-read (λ (n : NodeId). n.0) has items (exports c.args.tree.now) all
    (Finds-all (λ (n : NodeId). has n.0) items c.loop-node.node-index c.loop-node-test.false (c.loop-node.invariant g types))
