use Rattle.std.proofs.Common.{◌≡◌, ◌<◌, ◌≤◌, ◌+◌, ◌++◌, List, [], ◌∷◌, Contains, length, take, get_or, sym, ap, subst, ◌∙◌, arith}
use Rattle.std.proofs.lemmas.List.{take_all, take_more}
use Rattle.std.proofs.lemmas.List.Elements.{Contains-get_or}
use Rattle.lw_base.specs.declared.numbers.NodeId.{NodeId}
use Rattle.lw_link.proofs.Entered.{AreEntriesAmong, none_entered, one_entered, none_more, all_entered, exported_inside}
use Rattle.lw_link.proofs.entering.entries.Goals as goal
use Rattle.lw_link.proofs.entering.entries.Goals.{in-Some+in_ok-push, in_default}

pub export_of-requires : goal.export_of-requires
export_of-requires c =
    let nodes = c.deref-node-items.result.now in
    let inside : c.loop-node.node-index < length nodes = omega arith in
    let n = get_or nodes c.loop-node.node-index (record { 0 = 0 }) in
    exported_inside c.args.tree.now c.in_ok-nodes.nodes.items n c.in_ok-nodes.ensures
    (subst (λ (ns : List NodeId). Contains ns n) c.deref-node-items.ensures.value (Contains-get_or nodes c.loop-node.node-index (record { 0 = 0 }) inside))
    c.requires

pub loop-node-init : goal.loop-node-init
loop-node-init c = none_entered c.args.tree.now c.new-found.result.items c.new-found.ensures.items

pub loop-node-preserved : goal.loop-node-preserved
loop-node-preserved c =
    let tree = c.args.tree.now in
    let nodes = c.deref-node-items.result.now in
    let i = c.loop-node.node-index in
    let inside : i < length nodes = omega arith in
    let n = get_or nodes i (record { 0 = 0 }) in
    let before = c.loop-node.found.items in
    let more : take (i + 1) nodes ≡ take i nodes ++ n ∷ [] = take_more nodes i (record { 0 = 0 }) inside in
    subst (λ (ns : List NodeId). AreEntriesAmong tree ns c.match-branch-3.found.items) (sym more)
    (elim c.match-branch-3.branch [
      | in-Some+in_ok-push w ↦
          let is = rw w.in-Some.is at c.in_ok-export.ensures in
          subst (AreEntriesAmong tree (take i nodes ++ n ∷ [])) (sym (ap (λ (v : _). v.items) w.found-is ∙ w.in_ok-push.ensures.items))
          (one_entered tree (take i nodes) before n w.in-Some.export c.loop-node.invariant is.0 is.1)
      | in_default w ↦
          subst (AreEntriesAmong tree (take i nodes ++ n ∷ [])) (sym (ap (λ (v : _). v.items) w.found-is))
          (none_more tree (take i nodes) before n c.loop-node.invariant (rw w.in_default.is at c.in_ok-export.ensures))
    ])

pub returns : goal.returns
returns c =
    let nodes = c.deref-node-items.result.now in
    let past : length nodes ≤ c.loop-node.node-index = omega arith in
    all_entered c.args.tree.now c.in_ok-nodes.nodes.items c.loop-node.found.items c.in_ok-nodes.ensures
    (subst (λ (ns : List NodeId). AreEntriesAmong c.args.tree.now ns c.loop-node.found.items)
    (take_all c.loop-node.node-index nodes past ∙ c.deref-node-items.ensures.value) c.loop-node.invariant)
