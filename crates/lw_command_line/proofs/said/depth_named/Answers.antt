use Rattle.std.proofs.Common.{codes, sym, subst}
use Rattle.std.proofs.lemmas.Slice.Eq.{bytes_eq-Decides}
use Rattle.lw_command_line.specs.Said.{IsDepth}
use Rattle.lw_command_line.specs.Said as said
use Rattle.lw_command_line.proofs.said.depth_named.Goals as goal

pub returns-then-eq : goal.returns-then-eq
returns-then-eq c = subst (λ w. IsDepth w 1) (sym ((bytes_eq-Decides c.args.word.now (codes "1")).0 (sym c.if-eq.ensures))) said.one

pub returns-then-eq-2 : goal.returns-then-eq-2
returns-then-eq-2 c = subst (λ w. IsDepth w 2) (sym ((bytes_eq-Decides c.args.word.now (codes "2")).0 (sym c.if-eq-2.ensures))) said.two

pub returns-then-eq-3 : goal.returns-then-eq-3
returns-then-eq-3 c = subst (λ w. IsDepth w 3) (sym ((bytes_eq-Decides c.args.word.now (codes "3")).0 (sym c.if-eq-3.ensures))) said.three
