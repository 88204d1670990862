use Rattle.std.proofs.Common.{◌≡◌, ◌+◌, ◌++◌, length, sum_by, encode_utf8_all}
use Rattle.lw_text.specs.Position.{units_of}
use Rattle.lw_text.proofs.units.place_among.Given as goal

abbrev pub invariant-loop-c : goal.invariant-loop-c
invariant-loop-c l = record {
  parts : l.text ≡ encode_utf8_all l.yielded ++ l.c-iterator.rest.now;
  far : l.place ≡ length (encode_utf8_all l.yielded);
  counted : l.left + sum_by (units_of l.enc) l.yielded ≡ l.units;
}
