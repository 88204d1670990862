use Rattle.std.proofs.Common.{◌≤◌, ap, arith, length}
use Rattle.lw_numbers.proofs.Sizes.{numbers-le}
use Rattle.lw_numbers.proofs.subtypes.kinship.Kinship.unrelated.Goals as goal

pub overflow_add-len : goal.overflow_add-len
overflow_add-len c =
    let few : length c.args.g.now.rules ≤ 65535 = omega (arith, numbers-le c.args.g.now, c.requires) in
    omega (arith, c.len.ensures.small, c.len-2.ensures)

pub returns-clause-room : goal.returns-clause-room
returns-clause-room c = record {
  few = omega (arith, numbers-le c.args.g.now, c.requires);
  nodes = omega (arith, c.in_ok-graph.ensures.nodes, c.len.ensures.len, c.len-2.ensures, ap (λ set. length set.keys) c.into_set.ensures);
}
