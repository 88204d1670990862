use Rattle.lw_first.specs.Sets.{IsAmongHeads}
use Rattle.lw_lookahead.proofs.WayLemmas.{exactly}
use Rattle.lw_lookahead.proofs.points.ways.two_ways.Goals as goal

pub returns : goal.returns
returns c = λ kinds are. record {
  one = c.in_ok-read.read;
  two = c.insert_all.new.self;
  are = c.in_ok-from_array.ensures.items;
  reads = c.in_ok-read.ensures kinds are;
  passes = exactly (IsAmongHeads c.args.after.now) c.new-passed.result c.insert_all.new.self c.new-passed.ensures c.in_ok-insert_all.ensures.adds;
}
