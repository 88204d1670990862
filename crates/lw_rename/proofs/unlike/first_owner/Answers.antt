use Rattle.std.proofs.Common.{arith}
use Rattle.lw_rename.proofs.FirstApart.{alike_refer, both_apart, one_of_both}
use Rattle.lw_rename.proofs.Listing.{not_both}
use Rattle.lw_rename.proofs.unlike.first_owner.Goals as goal

pub returns-then-refer_alike : goal.returns-then-refer_alike
returns-then-refer_alike c = alike_refer c.args.one.now c.args.other.now (c.refer_alike.ensures.0 c.if-refer_alike.true)

pub returns : goal.returns
returns c =
    let a = c.args.one.now in
    let b = c.args.other.now in
    both_apart a b (record { 0 = c.min.result }) (λ alike. not_both (c.refer_alike.ensures.1 alike) c.if-refer_alike.false) (omega (arith, c.min.ensures))
    (omega (arith, c.min.ensures)) (one_of_both a.owner.0 b.owner.0 c.min.result c.min.ensures)
