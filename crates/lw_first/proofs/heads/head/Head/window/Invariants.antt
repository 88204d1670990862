use Rattle.std.proofs.Common.{◌≡◌}
use Rattle.arrayvec.specs.ArrayVec.{array_vec_len}
use Rattle.lw_look.specs.Looks.{window}
use Rattle.lw_first.specs.Heads.{kinds_in, seen_in}
use Rattle.lw_first.proofs.heads.head.Head.window.Given as goal

-- the places so far
abbrev pub invariant-loop-place : goal.invariant-loop-place
invariant-loop-place l = record {
  seen : seen_in l.seen.items ≡ window l.place (kinds_in l.self);
  len : array_vec_len l.seen ≡ l.place;
}
