-- The number of a name, by which it is looked up.
-- Held against the public function FNV-1a with 32 bits.
use Rattle.std.specs.Prelude.{ℕ, ◌*◌, ◌%◌, List, bit_xor}
use Rattle.std.specs.List.{fold}

-- one byte more
abbrev pub hash_more : ℕ → ℕ → ℕ
hash_more hash byte = (bit_xor hash byte * 16777619) % 4294967296

abbrev pub name_hash : List ℕ → ℕ
name_hash name = fold hash_more 2166136261 name
