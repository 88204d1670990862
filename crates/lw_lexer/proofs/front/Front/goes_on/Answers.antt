use Rattle.std.proofs.Common.{sym, ◌∙◌}
use Rattle.lw_lexer.proofs.FrontLemmas.{goes_on}
use Rattle.lw_lexer.proofs.front.Front.goes_on.Goals as goal

pub returns-in-Some : goal.returns-in-Some
returns-in-Some c = λ begins.
    let at = c.in-Some.ensures.lookup.3 in
    let starts = rw c.bytes-front.ensures.bytes at c.begins_with.ensures in
    goes_on c.args.self.now c.args.text.now c.in-Some.next.now (sym starts ∙ begins) (rw c.bytes-front.ensures.bytes at at.0)
    (rw c.bytes-front.ensures.bytes at at.1 0) c.if-self-next.true
