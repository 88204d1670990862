-- The longer of two keywords that a text begins with.
use Rattle.std.specs.Prelude.{ℕ, List, length, Option, Some, None, Bool, true, false, nat_eq, nat_lt, if◌then◌else◌, ◌&&◌}
use Rattle.std.specs.List.{starts_with}
use Rattle.lw_tokens.specs.NextToken.{Next}

-- a length is more than that of the best so far
abbrev pub is_longer : ℕ → Option (ℕ × ℕ) → Bool
is_longer n None = true
is_longer n (Some (k, m)) = nat_lt m n

-- the best so far, or the keyword at the place k where the text begins with it and it is longer
abbrev pub longer_of : List ℕ → ℕ → List ℕ → Option (ℕ × ℕ) → Option (ℕ × ℕ)
longer_of text k keyword best =
    if starts_with nat_eq text keyword && is_longer (length keyword) best then Some (k, length keyword) else best

-- a length that is more than n
abbrev pub over : ℕ → Option ℕ → Option ℕ
over n None = None
over n (Some m) = if nat_lt n m then Some m else None

-- the length of the longest keyword, or 0 where there is none
abbrev pub length_or_zero : Option (ℕ × ℕ) → ℕ
length_or_zero None = 0
length_or_zero (Some (k, n)) = n

-- a keyword, by its place and length, as a token
abbrev pub keyword_next : ℕ × ℕ → Next
keyword_next (k, n) = record { kind = k; bytes = n; hidden = false }
