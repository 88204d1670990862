use Rattle.std.proofs.Common.{◌∙◌, ℕ, List, ap, count_by, nat_lt}
use Rattle.lw_lanes.proofs.Counting.{count-raised}
use Rattle.lw_lanes.proofs.counts.CharacterCounted.in_block.Goals as goal

pub returns : goal.returns
returns c =
    c.below.ensures
    ∙ ap (λ (block : List ℕ). count_by (λ byte. nat_lt byte 192) block) c.raised.ensures
    ∙ count-raised c.args.block c.fits-block.1
