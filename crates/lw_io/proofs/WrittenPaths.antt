-- The path of an address from the path as it is written.
use Rattle.std.proofs.Common.{ℕ, ◌≡◌, List, ◌++◌, Option, Some, None, MatchOption, codes, length, take, not, sym, ap, ◌∙◌, subst}
use Rattle.std.proofs.lemmas.List.{append_cancel_left}
use Rattle.std.proofs.lemmas.List.Folds.{length-prefix_len}
use Rattle.percent_encoding.specs.Percent.{percent_decode}
use Rattle.lw_io.specs.Paths.{before_query, ends_path, HasNoPath, IsPathOf}
use Rattle.lw_io.specs.Written.{CanBePath, IsWrittenPath}

pub take-before_query : (bytes : List ℕ) (n : ℕ) → n ≡ length (before_query bytes) → take n bytes ≡ before_query bytes
take-before_query bytes n is = ap (λ k. take k bytes) (is ∙ length-prefix_len (λ byte. not (ends_path byte)) bytes)

-- the path of an address is what is written with its escapes read
pub path_as_written : {address written path : List ℕ} → IsWrittenPath address written → IsPathOf address path → path ≡ percent_decode written
path_as_written writes has =
    let behind = append_cancel_left (codes "file:///") has.behind writes.behind (sym has.begins ∙ writes.begins) in
    has.decoded ∙ ap (λ rest. percent_decode (codes "/" ++ before_query rest)) behind ∙ ap percent_decode (sym writes.path)

pub path_found : {address written : List ℕ} → IsWrittenPath address written → (found : Option (List ℕ)) →
    MatchOption found (¬ CanBePath (percent_decode written)) (λ path. (path ≡ percent_decode written) × CanBePath path) →
    MatchOption found (HasNoPath address) (IsPathOf address)
path_found writes None cannot = λ path has. cannot (subst CanBePath (path_as_written writes has) (has.utf8, has.nonzero))
path_found writes (Some path) is = record {
  behind = writes.behind;
  begins = writes.begins;
  decoded = is.0 ∙ ap percent_decode writes.path;
  utf8 = is.1.0;
  nonzero = is.1.1;
}
