-- The path as an address writes it, its escapes not yet read.
use Rattle.std.specs.Prelude.{ℕ, ◌≡◌, ◌≢◌, List, ◌++◌, Contains, IsUtf8, codes}
use Rattle.lw_io.specs.Paths.{before_query}

-- the address writes this path: from the slash behind `file://` on, before a query or a fragment
pub record IsWrittenPath (address written : List ℕ) : Type 0 where
  pub behind : List ℕ
  pub begins : address ≡ codes "file:///" ++ behind
  pub path : written ≡ codes "/" ++ before_query behind

-- the address begins otherwise
abbrev pub HasNoWrittenPath : List ℕ → Type 0
HasNoWrittenPath address = (behind : List ℕ) → address ≢ codes "file:///" ++ behind

-- the bytes can be a path of a file
abbrev pub CanBePath : List ℕ → Type 0
CanBePath bytes = IsUtf8 bytes × (¬ Contains bytes 0)
