-- A stream that comes in pieces.
use Rattle.std.specs.Prelude.{ℕ, List, flat_map, Vec}
use Rattle.std.specs.declared.alloc.Global.{Global}

-- the pieces joined
abbrev pub stream_of : List (Vec ℕ Global) → List ℕ
stream_of pieces = flat_map (λ piece. piece.items) pieces
