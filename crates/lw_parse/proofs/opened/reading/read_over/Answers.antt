use Rattle.std.proofs.Common.{[]}
use Rattle.lw_viable.specs.Aims.{Places}
use Rattle.lw_parse.proofs.Lent.{lent}
use Rattle.lw_parse.proofs.opened.reading.read_over.Goals as goal

pub over-requires : goal.over-requires
over-requires c =
    let (g, of, tasks, with, placed, are) = c.requires in record { known = (g, of, tasks, lent c.program.ensures c.begins.ensures with, placed) }

pub read-requires : goal.read-requires
read-requires c =
    let (g, of, tasks, with, placed, are) = c.requires in
    (g, of, tasks, Places c.args.places.now, [], c.in_ok-fronts.ensures g of tasks (lent c.program.ensures c.begins.ensures with) placed, are)

pub returns : goal.returns
returns c g of tasks with placed are =
    c.read.ensures g of tasks (Places c.args.places.now) [] (c.in_ok-fronts.ensures g of tasks (lent c.program.ensures c.begins.ensures with) placed) are
