use Rattle.std.proofs.Common.{◌≡◌, take}
use Rattle.lw_build.proofs.telling.copied.Given as goal

abbrev pub invariant-copying : goal.invariant-copying
invariant-copying l = l.copies ≡ take l.shown-index l.list
