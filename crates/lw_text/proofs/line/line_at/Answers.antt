use Rattle.std.proofs.Common.{◌+◌, ◌<◌, ◌∷◌, [], ◌++◌, ◌∙◌, ap, sym, arith}
use Rattle.std.proofs.lemmas.List.{length_push}
use Rattle.lw_text.proofs.Reaching.{IsNextLine-onwards, Reached-next, in_last, in_line_to, line_to}
use Rattle.lw_text.proofs.line.line_at.Goals as goal

pub lines-preserved : goal.lines-preserved
lines-preserved c =
    let so_far = c.lines.invariant in
    let next = c.in-Some.ensures in
    let onwards : c.lines.line.start < c.in-Some.next = IsNextLine-onwards next in
    record {
      before = so_far.before ++ line_to next ∷ [];
      reached = Reached-next c.args.text.now c.lines.line.start c.in-Some.next so_far.before so_far.reached next;
      number = ap (λ n. n + 1) so_far.number ∙ sym (length_push so_far.before (line_to next));
      near = c.if-next-offset.false;
      few = omega (arith, so_far.few);
    }

pub returns-then-next-offset : goal.returns-then-next-offset
returns-then-next-offset c =
    let so_far = c.lines.invariant in
    record { line = in_line_to c.args.text.now c.lines.line.start c.in-Some.next c.args.offset c.lines.line.number so_far.before so_far.reached so_far.near c.if-next-offset.true so_far.number c.in-Some.ensures }

pub returns-in_default : goal.returns-in_default
returns-in_default c =
    let so_far = c.lines.invariant in
    record { line = in_last c.args.text.now c.lines.line.start c.args.offset c.lines.line.number so_far.before so_far.reached so_far.near so_far.number c.in_default.ensures }
