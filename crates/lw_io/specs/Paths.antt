-- The addresses of files, and their paths.
-- RFC 8089, "The file URI Scheme"; RFC 3986, "Percent-Encoding", "Query" and "Fragment".
use Rattle.std.specs.Prelude.{ℕ, ◌≡◌, Bool, not, ◌||◌, ◌==◌, List, ◌++◌, Contains, IsUtf8, codes, take_while}
use Rattle.percent_encoding.specs.Percent.{percent_decode, percent_encode}
use Rattle.lw_io.specs.declared.paths.paths.TheConstants.{ESCAPED}

-- a query begins with `?`, which is 63, and a fragment with `#`, which is 35
abbrev pub ends_path : ℕ → Bool
ends_path byte = byte == 63 || byte == 35

-- what stands before a query or a fragment
abbrev pub before_query : List ℕ → List ℕ
before_query bytes = take_while (λ byte. not (ends_path byte)) bytes

-- The address has this path: what stands behind `file://`, from a slash on and before a query or a fragment, with its escapes read, where that is
-- UTF-8 and has no byte 0, which no path of a file has.
pub record IsPathOf (address path : List ℕ) : Type 0 where
  pub behind : List ℕ
  pub begins : address ≡ codes "file:///" ++ behind
  pub decoded : path ≡ percent_decode (codes "/" ++ before_query behind)
  pub utf8 : IsUtf8 path
  pub nonzero : ¬ Contains path 0

-- the address has no path
abbrev pub HasNoPath : List ℕ → Type 0
HasNoPath address = (path : List ℕ) → ¬ IsPathOf address path

-- the address of a file whose path begins with a slash: every byte but ASCII letters, digits and `/`, `-`, `.`, `_` and `~` is escaped
abbrev pub address_of : List ℕ → List ℕ
address_of path = codes "file://" ++ percent_encode ESCAPED path
