use Rattle.std.proofs.Common.{arith}
use Rattle.std.proofs.lemmas.List.Sums.{count_by-le-length}
use Rattle.lw_lanes.specs.Utf8.{begins_character, begins_pair}
use Rattle.lw_lanes.proofs.Counting.{sum-of_two}
use Rattle.lw_lanes.proofs.counts.Utf16UnitCounted.in_block.Goals as goal

pub overflow_add-result : goal.overflow_add-result
overflow_add-result c = omega (arith, count_by-le-length begins_character c.args.block, count_by-le-length begins_pair c.args.block, c.fits-block.0)

pub returns : goal.returns
returns c = omega (arith, sum-of_two begins_character begins_pair c.args.block)
