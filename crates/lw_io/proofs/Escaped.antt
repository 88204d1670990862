-- Which bytes are escaped.
use Rattle.std.proofs.Common.{ℕ, ◌≡◌, ◌<◌, ◌≤◌, ◌||◌, ◌==◌, Bool, true, not, codes, get_or, map, refl, sym, ap, ◌∙◌, ⊎_elim, arith}
use Rattle.std.proofs.lemmas.Bool.{cases_lt}
use Rattle.std.proofs.lemmas.Bool.Decides.{nat_tests}
use Rattle.std.proofs.lemmas.List.FromFn.{get_or-map-range_with_len}
use Rattle.std.specs.Char.{is_ascii_alphanumeric}
use Rattle.std.specs.List.{list_any, range_with_len}
use Rattle.percent_encoding.specs.AsciiSet.{should_percent_encode}
use Rattle.lw_io.specs.declared.paths.paths.TheConstants.{ESCAPED}

abbrev pub is_kept : ℕ → Bool
is_kept byte = is_ascii_alphanumeric byte || list_any (λ kept. byte == kept) (codes "/-._~")

escaped_ascii : map (λ byte. should_percent_encode ESCAPED byte) (range_with_len 0 128) ≡ map (λ byte. not (is_kept byte)) (range_with_len 0 128)
unfolding should_percent_encode
escaped_ascii = refl

below : (byte : ℕ) → byte < 128 → should_percent_encode ESCAPED byte ≡ not (is_kept byte)
below byte ascii =
    sym (get_or-map-range_with_len (should_percent_encode ESCAPED) 0 128 byte byte true ascii (omega arith))
    ∙ ap (λ tests. get_or tests byte true) escaped_ascii
    ∙ get_or-map-range_with_len (λ b. not (is_kept b)) 0 128 byte byte true ascii (omega arith)

above : (byte : ℕ) → 128 ≤ byte → should_percent_encode ESCAPED byte ≡ not (is_kept byte)
unfolding should_percent_encode
above byte high = grind (arith, nat_tests)

pub escaped-is : (byte : ℕ) → should_percent_encode ESCAPED byte ≡ not (is_kept byte)
escaped-is byte = ⊎_elim (below byte) (above byte) (cases_lt byte 128)
