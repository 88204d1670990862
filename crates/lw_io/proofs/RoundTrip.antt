-- The address of a path has that path.
use Rattle.std.proofs.Common.{ℕ, ◌≡◌, List, ◌++◌, true, false, not, Contains, IsUtf8, codes, length, take, refl, sym, ap, ◌∙◌, arith}
use Rattle.std.proofs.Math.Seq.{take-length}
use Rattle.std.proofs.lemmas.Bool.Decides.{nat_tests}
use Rattle.std.proofs.lemmas.List.Sums.{prefix_len_is}
use Rattle.percent_encoding.specs.AsciiSet.{should_percent_encode}
use Rattle.percent_encoding.specs.Percent.{percent_decode, percent_encode}
use Rattle.percent_encoding.proofs.PercentLemmas.{All-percent_encode, IsEscapeByte, percent_encode_kept, round_trip}
use Rattle.lw_io.specs.Paths.{address_of, before_query, ends_path, IsPathOf}
use Rattle.lw_io.specs.declared.paths.paths.TheConstants.{ESCAPED}
use Rattle.lw_base.proofs.Bytes.{utf8_small}

-- the byte begins neither a query nor a fragment
abbrev StaysInPath : ℕ → Type 0
StaysInPath byte = not (ends_path byte) ≡ true

escaped_ends : (should_percent_encode ESCAPED 63 ≡ true) × (should_percent_encode ESCAPED 35 ≡ true)
unfolding should_percent_encode
escaped_ends = (refl, refl)

kept_stays : (byte : ℕ) → should_percent_encode ESCAPED byte ≡ false → StaysInPath byte
kept_stays byte kept = grind (arith, nat_tests, escaped_ends)

escape_stays : (byte : ℕ) → IsEscapeByte byte → StaysInPath byte
escape_stays byte is = grind (arith, nat_tests)

-- what is escaped has no query and no fragment
before_query-percent_encode : (bytes : List ℕ) → before_query (percent_encode ESCAPED bytes) ≡ percent_encode ESCAPED bytes
before_query-percent_encode bytes =
    let escaped = percent_encode ESCAPED bytes in
    let stay = All-percent_encode StaysInPath ESCAPED bytes kept_stays escape_stays in
    let whole = prefix_len_is (λ byte. not (ends_path byte)) escaped (length escaped) 0 (omega arith) (λ k within. stay k 0 within) (λ past. absurd (omega arith)) in
    ap (λ n. take n escaped) whole ∙ take-length escaped

slash_kept : (rest : List ℕ) → percent_encode ESCAPED (codes "/" ++ rest) ≡ codes "/" ++ percent_encode ESCAPED rest
unfolding should_percent_encode
slash_kept rest = percent_encode_kept ESCAPED 47 rest refl

pub has_its_path : (path rest : List ℕ) → path ≡ codes "/" ++ rest → IsUtf8 path → ¬ Contains path 0 → IsPathOf (address_of path) path
has_its_path path rest absolute utf8 nonzero =
    let escaped : percent_encode ESCAPED path ≡ codes "/" ++ percent_encode ESCAPED rest = ap (percent_encode ESCAPED) absolute ∙ slash_kept rest in
    let read = round_trip ESCAPED path refl (utf8_small path utf8) in
    record {
      behind = percent_encode ESCAPED rest;
      begins = ap (λ bytes. codes "file://" ++ bytes) escaped;
      decoded = sym read ∙ ap percent_decode escaped ∙ ap (λ bytes. percent_decode (codes "/" ++ bytes)) (sym (before_query-percent_encode rest));
      utf8 = utf8;
      nonzero = nonzero;
    }
