use Rattle.std.proofs.Common.{length, length-append, ap, ◌∙◌, arith}
use Rattle.lw_rename.specs.Adding.{added, too_long}
use Rattle.lw_rename.proofs.replacing.add.Goals as goal

pub returns-then-len-part : goal.returns-then-len-part
returns-then-len-part c = too_long (omega (arith, c.args.out.now.ok.0, c.len.ensures, c.if-len-part.true))

pub returns : goal.returns
returns c =
    let e = c.in_ok-extend_from_slice.ensures.items in
    let n = ap length e ∙ length-append c.args.out.now.items c.args.part.now in
    added e (omega (arith, n, c.args.out.now.ok.0, c.len.ensures, c.if-len-part.false, c.requires))
