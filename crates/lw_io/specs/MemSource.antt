-- What a source in memory holds, in which pieces it gives it, and how its calls went.
use Rattle.std.specs.Prelude.{◌≡◌, ℕ, List, length, drop, min}
use Rattle.lw_io.specs.Pieces.{piece_size, pieces_after}
use Rattle.lw_io.specs.declared.source.Read.{Read}
use Rattle.lw_io.specs.declared.source.Read.TheVariants.{Got, End, Failed}
use Rattle.lw_io.specs.declared.mem_source.MemSource.{MemSource}

-- the bytes left
abbrev pub source_left : MemSource → List ℕ
source_left s = drop s.at s.bytes.items

-- the sizes of the pieces to come, the first of them without what was given of it
abbrev pub source_pieces : MemSource → List ℕ
source_pieces s = drop s.piece s.pieces.items

-- the numbers of the calls that fail
abbrev pub source_failing : MemSource → List ℕ
source_failing s = s.calls.failing.items

-- how many calls of `read` there were
abbrev pub source_calls : MemSource → ℕ
source_calls s = s.calls.made

-- how many of them failed
abbrev pub source_faults : MemSource → ℕ
source_faults s = s.calls.faults

-- a read into a buffer of this length gives the next piece, as far as the buffer has room
abbrev pub GivesPiece : MemSource → MemSource → ℕ → Read → Type 0
GivesPiece old new room (Got n) =
    (n ≡ min (piece_size (source_pieces old) (length (source_left old))) room)
    × (source_pieces new ≡ pieces_after (source_pieces old) n)
GivesPiece old new room End = source_pieces new ≡ source_pieces old
GivesPiece old new room Failed = source_pieces new ≡ source_pieces old
