use Rattle.std.proofs.Common.{arith}
use Rattle.lw_text.proofs.Index.{line_between}
use Rattle.lw_text.proofs.line.line_among.Goals as goal

pub overflow_cast-result : goal.overflow_cast-result
overflow_cast-result c =
    let so_far = c.halves.invariant in
    omega (arith, (line_between c.args.text.now c.args.starts.now c.args.offset c.halves.line c.halves.end c.requires.starts (omega arith) so_far.within so_far.from so_far.to).1)

pub returns : goal.returns
returns c =
    let so_far = c.halves.invariant in
    record { line = (line_between c.args.text.now c.args.starts.now c.args.offset c.halves.line c.halves.end c.requires.starts (omega arith) so_far.within so_far.from so_far.to).0 }
