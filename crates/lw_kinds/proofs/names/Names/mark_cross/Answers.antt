use Rattle.std.proofs.Common.{subst}
use Rattle.lw_kinds.specs.Crossing.{IsReadBy}
use Rattle.lw_kinds.proofs.OneName.{one_reads}
use Rattle.lw_kinds.proofs.MarkLemmas.{Marks-none, Marks-same}
use Rattle.lw_kinds.proofs.names.Names.mark_cross.Goals as goal

pub returns-in-Some : goal.returns-in-Some
returns-in-Some c =
    let g = c.args.self.now.g.now in
    let wanted = c.args.wanted.now in
    let rule = c.args.rule.now in
    let name = c.in-Some.name.now in
    Marks-same
    (λ t. (
      λ (called, is, terminal, means). (called, subst (IsReadBy g wanted rule) is c.in-Some.ensures, terminal, means),
      λ (called, is, terminal, means). (called, one_reads g wanted rule name called c.in-Some.ensures is, terminal, means),
    ))
    c.mark.ensures

pub returns-in-None : goal.returns-in-None
returns-in-None c = Marks-none (λ t (called, is, terminal, means). c.in-None.ensures called is) c.args.called.now.items
