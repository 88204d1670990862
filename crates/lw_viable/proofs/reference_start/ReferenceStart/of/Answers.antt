-- A value is put first, since that is required.
use Rattle.lw_viable.proofs.reference_start.ReferenceStart.of.Goals as goal

pub unreachable-requires : goal.unreachable-requires
unreachable-requires c = let (put, value, behind, puts) = c.requires.put in c.in-None.ensures put value behind puts
