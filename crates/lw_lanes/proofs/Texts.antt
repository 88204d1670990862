-- What the bytes of a text say of its characters.
use Rattle.std.proofs.Common.{◌≡◌, ◌∙◌, sym, ap, ap₂, ℕ, ◌+◌, ◌/◌, ◌%◌, ◌<◌, ◌≤◌, List, [], ◌∷◌, length, cond, true, inl, inr, refl, arith, IsUtf8}
use Rattle.std.proofs.lemmas.Bool.{lt-ltb, le-ltb, cases_lt, and_parts}
use Rattle.std.proofs.lemmas.Bool.Decides.{nat_tests}
use Rattle.std.proofs.lemmas.List.{length-append}
use Rattle.std.proofs.lemmas.List.Sums.{sum_by-append}
use Rattle.std.proofs.lemmas.Str.{encode_ascii, encodes-chars, scalars-chars}
use Rattle.std.specs.Char.Escape.{encode_utf16}
use Rattle.std.specs.List.{flat_map}
use Rattle.std.specs.Str.{chars}
use lib.Utf8.{encode, encodes, scalar, scalars, scalar_cases}
use Rattle.lw_lanes.specs.Utf8.{begins_character, begins_pair, characters, utf16_units, in_utf16}

-- these bytes are one character's, which takes so many units: the first of them alone begins a character, and a pair where they are four
abbrev HoldsOne : List ℕ → ℕ → Type 0
HoldsOne bytes units = (characters bytes ≡ 1) × (utf16_units bytes ≡ units)

one_byte : (c : ℕ) → c < 128 → HoldsOne (c ∷ []) 1
one_byte c below = (grind (arith, nat_tests), grind (arith, nat_tests))

two_bytes : (c : ℕ) → 128 ≤ c → c < 2048 → HoldsOne ((192 + c / 64) ∷ (128 + c % 64) ∷ []) 1
two_bytes c above below = (grind (arith, nat_tests), grind (arith, nat_tests))

three_bytes : (c : ℕ) → 2048 ≤ c → c < 65536 → HoldsOne ((224 + c / 4096) ∷ (128 + c / 64 % 64) ∷ (128 + c % 64) ∷ []) 1
three_bytes c above below = (grind (arith, nat_tests), grind (arith, nat_tests))

four_bytes : (c : ℕ) → 65536 ≤ c → c < 1114112 → HoldsOne ((240 + c / 262144) ∷ (128 + c / 4096 % 64) ∷ (128 + c / 64 % 64) ∷ (128 + c % 64) ∷ []) 2
four_bytes c above below = (grind (arith, nat_tests), grind (arith, nat_tests))

encode-two : (c : ℕ) → 128 ≤ c → c < 2048 → encode c ≡ (192 + c / 64) ∷ (128 + c % 64) ∷ []
unfolding encode
encode-two c above below = rw (le-ltb c 128 above, lt-ltb c 2048 below) refl

encode-three : (c : ℕ) → 2048 ≤ c → c < 65536 → encode c ≡ (224 + c / 4096) ∷ (128 + c / 64 % 64) ∷ (128 + c % 64) ∷ []
unfolding encode
encode-three c above below = rw (le-ltb c 128 (omega arith), le-ltb c 2048 above, lt-ltb c 65536 below) refl

encode-four : (c : ℕ) → 65536 ≤ c → encode c ≡ (240 + c / 262144) ∷ (128 + c / 4096 % 64) ∷ (128 + c / 64 % 64) ∷ (128 + c % 64) ∷ []
unfolding encode
encode-four c above = rw (le-ltb c 128 (omega arith), le-ltb c 2048 (omega arith), le-ltb c 65536 above) refl

length-encode_utf16_one : (c : ℕ) → c < 65536 → length (encode_utf16 c) ≡ 1
length-encode_utf16_one c below = rw (lt-ltb c 65536 below) refl

length-encode_utf16_two : (c : ℕ) → 65536 ≤ c → length (encode_utf16 c) ≡ 2
length-encode_utf16_two c above = rw (le-ltb c 65536 above) refl

held : (c : ℕ) (bytes : List ℕ) (units : ℕ) → encode c ≡ bytes → length (encode_utf16 c) ≡ units → HoldsOne bytes units → HoldsOne (encode c) (length (encode_utf16 c))
held c bytes units spelled size holds = (ap characters spelled ∙ holds.0, ap utf16_units spelled ∙ holds.1 ∙ sym size)

counts_one : (c : ℕ) → c < 1114112 → HoldsOne (encode c) (length (encode_utf16 c))
counts_one c top =
    elim (cases_lt c 128) [
      | inl one ↦ held c _ _ (encode_ascii c one) (length-encode_utf16_one c (omega arith)) (one_byte c one)
      | inr two ↦ elim (cases_lt c 2048) [
        | inl below ↦ held c _ _ (encode-two c two below) (length-encode_utf16_one c (omega arith)) (two_bytes c two below)
        | inr three ↦ elim (cases_lt c 65536) [
          | inl below ↦ held c _ _ (encode-three c three below) (length-encode_utf16_one c below) (three_bytes c three below)
          | inr four ↦ held c _ _ (encode-four c four) (length-encode_utf16_two c four) (four_bytes c four top)
        ]
      ]
    ]

scalar_below : (c : ℕ) → scalar c ≡ true → c < 1114112
scalar_below c is = elim (scalar_cases c is) [ inl low ↦ omega arith | inr high ↦ high.1 ]

characters-encodes : (text : List ℕ) → scalars text ≡ true → characters (encodes text) ≡ length text
characters-encodes [] are = refl
characters-encodes (c ∷ cs) are =
    let parts = and_parts (scalar c) (scalars cs) are in
    sum_by-append (λ byte. cond (begins_character byte) 1 0) (encode c) (encodes cs)
    ∙ ap₂ ◌+◌ (counts_one c (scalar_below c parts.0)).0 (characters-encodes cs parts.1)
    ∙ omega arith

utf16_units-encodes : (text : List ℕ) → scalars text ≡ true → utf16_units (encodes text) ≡ length (flat_map encode_utf16 text)
utf16_units-encodes [] are = refl
utf16_units-encodes (c ∷ cs) are =
    let parts = and_parts (scalar c) (scalars cs) are in
    omega (
      arith,
      sum_by-append (λ byte. cond (begins_character byte) 1 0) (encode c) (encodes cs),
      sum_by-append (λ byte. cond (begins_pair byte) 1 0) (encode c) (encodes cs),
      (counts_one c (scalar_below c parts.0)).1,
      utf16_units-encodes cs parts.1,
      length-append (encode_utf16 c) (flat_map encode_utf16 cs),
    )

pub characters-text : (bytes : List ℕ) → IsUtf8 bytes → characters bytes ≡ length (chars bytes)
characters-text bytes is =
    ap characters (sym (encodes-chars bytes is)) ∙ characters-encodes (chars bytes) (scalars-chars bytes is)

pub utf16_units-text : (bytes : List ℕ) → IsUtf8 bytes → utf16_units bytes ≡ length (in_utf16 bytes)
utf16_units-text bytes is =
    ap utf16_units (sym (encodes-chars bytes is)) ∙ utf16_units-encodes (chars bytes) (scalars-chars bytes is)
