-- The lines of one state more.
use Rattle.std.proofs.Common.{◌≡◌, ℕ, ◌+◌, List, ◌++◌, map, arith}
use Rattle.std.proofs.lemmas.List.{flat_map_more}
use Rattle.std.proofs.lemmas.List.Folds.{flat_map-map}
use Rattle.std.proofs.lemmas.List.FromFn.{map-range_with_len_more}
use Rattle.std.specs.List.{flat_map, range_with_len}

-- a text goes on with the line of the state behind those that it has
pub lines_more : (line : ℕ → List ℕ) (text : List ℕ) (state : ℕ) →
    (text ++ flat_map line (range_with_len 0 state)) ++ line state ≡ text ++ flat_map line (range_with_len 0 (state + 1))
lines_more line text state =
    let more = map-range_with_len_more line 0 state state (omega arith) in
    let all = flat_map_more (λ l. l) text (map line (range_with_len 0 state)) (line state) in
    simp flat_map-map at (rw (← more) at all)
