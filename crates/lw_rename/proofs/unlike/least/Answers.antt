use Rattle.std.proofs.Common.{Option, Some, sym, subst, subst₂, arith}
use Rattle.lw_base.specs.declared.numbers.NodeId.{NodeId}
use Rattle.lw_rename.specs.Alike.{IsLesserNode, one, other}
use Rattle.lw_rename.proofs.FirstApart.{lesser_node, one_of_both}
use Rattle.lw_rename.proofs.unlike.least.Goals as goal

pub returns-in-Some-Some : goal.returns-in-Some-Some
returns-in-Some-Some c =
    let n = c.in-Some-Some.one in
    let m = c.in-Some-Some.other in
    let l : NodeId = record { 0 = c.min.result } in
    subst₂ (λ (x y : Option NodeId). IsLesserNode x y (Some l)) (sym c.in-Some-Some.is-0) (sym c.in-Some-Some.is-1)
    (lesser_node n m l (omega (arith, c.min.ensures)) (omega (arith, c.min.ensures)) (one_of_both n.0 m.0 c.min.result c.min.ensures))

pub returns-in-Some-None : goal.returns-in-Some-None
returns-in-Some-None c =
    subst₂ (λ (x y : Option NodeId). IsLesserNode x y (Some c.in-Some-None.one)) (sym c.in-Some-None.is-0) (sym c.in-Some-None.is-1) one

pub returns-in-None-default : goal.returns-in-None-default
returns-in-None-default c = subst (λ (x : Option NodeId). IsLesserNode x c.args.other c.args.other) (sym c.in-None-default.is-0) other
