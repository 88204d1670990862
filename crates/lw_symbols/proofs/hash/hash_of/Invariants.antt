use Rattle.std.proofs.Common.{◌≡◌, take}
use Rattle.std.specs.List.{fold}
use Rattle.lw_symbols.specs.Hashes.{hash_more}
use Rattle.lw_symbols.proofs.hash.hash_of.Given as goal

abbrev pub invariant-loop-byte : goal.invariant-loop-byte
invariant-loop-byte l = l.hash ≡ fold hash_more 2166136261 (take l.byte-index l.byte-items)
