use Rattle.std.proofs.Common.{◌≤◌, length, sym, subst, arith}
use Rattle.lw_text.proofs.Reaching.{IsNextLine-within, Noted, Noted-last, Noted-next}
use Rattle.lw_text.proofs.line.line_starts.Goals as goal

pub lines-preserved : goal.lines-preserved
lines-preserved c =
    let text = c.args.text.now in
    let start = c.lines.start in
    let so_far = c.lines.invariant in
    record {
      noted = subst (λ starts. Noted text c.in-Some.next starts) (sym c.in_ok-push-2.ensures.ok) (Noted-next text start c.in-Some.next c.lines.starts so_far.noted c.in-Some.ensures);
      within = IsNextLine-within text start c.in-Some.next so_far.within c.in-Some.ensures;
    }

pub overflow_cast-next : goal.overflow_cast-next
overflow_cast-next c =
    let within : c.in-Some.next ≤ length c.args.text.now = IsNextLine-within c.args.text.now c.lines.start c.in-Some.next c.lines.invariant.within c.in-Some.ensures in
    omega arith

pub returns : goal.returns
returns c = Noted-last c.args.text.now c.lines.start c.lines.starts c.lines.invariant.noted c.in_default.ensures
