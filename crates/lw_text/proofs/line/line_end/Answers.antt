use Rattle.lw_text.proofs.Reaching.{line_end_by}
use Rattle.lw_text.proofs.line.line_end.Goals as goal

pub returns : goal.returns
returns c =
    let bytes = c.as_bytes.result.now in
    let found = c.next_break.ensures in
    rw (c.unwrap_or.ensures, ← c.as_bytes.ensures.value) (line_end_by bytes c.args.start c.next_break.result (rw c.as_bytes.ensures.value c.requires) found.least found.none)
