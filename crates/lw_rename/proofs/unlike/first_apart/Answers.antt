use Rattle.std.proofs.Common.{Option, subst₂, arith}
use Rattle.lw_rename.specs.Alike.{IsFirstApart}
use Rattle.lw_rename.proofs.FirstApart.{apart_all, apart_more}
use Rattle.lw_rename.proofs.Lent.{got}
use Rattle.lw_tree.specs.declared.node.Reference.{Reference}
use Rattle.lw_rename.proofs.unlike.first_apart.Goals as goal

pub references-preserved : goal.references-preserved
references-preserved c =
    let one = c.args.one.now in
    let other = c.args.other.now in
    let i = c.references.i in
    let a = got one i c.get.result c.get.ensures.lookup in
    let b = got other i c.get-in-references.result c.get-in-references.ensures.lookup in
    apart_more i one other c.references.found c.first_at.result c.least-found.result c.least-found.ensures c.references.invariant
    (subst₂ (λ (x y : Option Reference). IsFirstApart x y c.first_at.result) a b c.first_at.ensures)

pub returns : goal.returns
returns c =
    apart_all c.references.i c.args.one.now c.args.other.now c.references.found (omega (arith, c.max-count.ensures)) (omega (arith, c.max-count.ensures)) c.references.invariant
