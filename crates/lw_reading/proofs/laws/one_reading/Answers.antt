-- The kinds, the lexicon, the cut and the first fault are each settled.
use Rattle.lw_reading.proofs.OneReading.{one_reading}
use Rattle.lw_reading.proofs.laws.one_reading.Goals as goal

pub returns : goal.returns
returns c = one_reading
