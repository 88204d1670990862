use Rattle.std.proofs.Common.{◌<◌, ◌≤◌, length, get_or, arith}
use Rattle.std.proofs.lemmas.List.{get_or_default}
use Rattle.std.proofs.lemmas.List.Elements.{Contains-get_or}
use Rattle.lw_base.specs.declared.numbers.NodeId.{NodeId}
use Rattle.lw_faults.proofs.Joining.{Finds-all, Finds-begin, Finds-more}
use Rattle.lw_link.specs.Visible.{IsNameOf}
use Rattle.lw_link.proofs.targets.put_names.Goals as goal

pub put_name-requires : goal.put_name-requires
put_name-requires c =
    let nodes = c.args.nodes.now in
    let inside : c.loop-n.n-index < length nodes = omega arith in
    c.requires (get_or nodes c.loop-n.n-index (record { 0 = 0 })) (Contains-get_or nodes c.loop-n.n-index (record { 0 = 0 }) inside)

pub loop-n-init : goal.loop-n-init
loop-n-init c = Finds-begin (λ (n : NodeId). IsNameOf c.args.tree.now c.args.fits.now n.0) c.args.names.now.items c.args.nodes.now

pub loop-n-preserved : goal.loop-n-preserved
loop-n-preserved c =
    let nodes = c.args.nodes.now in
    let i = c.loop-n.n-index in
    let inside : i < length nodes = omega arith in
    let n = get_or nodes i (record { 0 = 0 }) in
    Finds-more (λ (n : NodeId). IsNameOf c.args.tree.now c.args.fits.now n.0) nodes i n inside (get_or_default nodes i (record { 0 = 0 }) n inside)
    c.loop-n.invariant c.in_ok-put_name.ensures

pub returns : goal.returns
returns c =
    let past : length c.args.nodes.now ≤ c.loop-n.n-index = omega arith in
    Finds-all (λ (n : NodeId). IsNameOf c.args.tree.now c.args.fits.now n.0) c.args.nodes.now c.loop-n.n-index past c.loop-n.invariant
