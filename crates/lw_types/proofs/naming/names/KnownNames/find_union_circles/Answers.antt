use Rattle.std.proofs.Common.{arith}
use Rattle.std.proofs.lemmas.Result.{on_ok_weaker}
use Rattle.lw_types.proofs.RoundTypes.{unions_within, circular_unions}
use Rattle.lw_types.proofs.naming.names.KnownNames.find_union_circles.Goals as goal

pub circles_of-requires : goal.circles_of-requires
circles_of-requires c = λ a b has.
    let within = unions_within c.args.self.now.g.now c.in_ok-edges.edges.items c.as_slice.result.now c.as_slice.ensures.value c.in_ok-edges.ensures a b has in
    (omega (arith, within.0, c.len.ensures), omega (arith, within.1, c.len.ensures))

pub returns : goal.returns
returns c =
    on_ok_weaker c.find_round_unions.result
    (circular_unions c.args.self.now.g.now c.in_ok-edges.edges.items c.as_slice.result.now c.as_slice.ensures.value c.in_ok-edges.ensures c.in_ok-round.ensures)
    c.find_round_unions.ensures
