-- Each place of a text has a position.
use Rattle.std.proofs.Common.{◌≡◌, ℕ, ◌+◌, ◌-◌, ◌<◌, ◌≤◌, List, [], ◌∷◌, ◌++◌, length, sum_by, inl, inr, ◌⊎◌, refl, ap, subst, arith}
use Rattle.std.specs.Str.{IsUtf8}
use Rattle.std.proofs.lemmas.Bool.{cases_lt}
use Rattle.std.proofs.lemmas.List.Sums.{sum_by-cons}
use Rattle.lw_text.specs.Lines.{Line, AreLines, line_bytes, lines_bytes}
use Rattle.lw_text.specs.Position.{IsInLine, IsPosition, units_of, utf8_len}
use Rattle.lw_text.specs.declared.place.Pos.{Pos}
use Rattle.lw_text.specs.declared.units.Encoding.TheVariants.{Utf16}
use Rattle.lw_text.proofs.Lines.{cut_of}
use Rattle.lw_text.proofs.Offsets.{StartsLine, content_utf8}
use Rattle.lw_text.proofs.Within.{AreCharsWithin-some}

-- the line of a place, which is the last one where the place is behind the text
record IsLineAt (lines : List Line) (offset : ℕ) : Type 0 where
  before : List Line
  line : Line
  after : List Line
  parts : lines ≡ before ++ line ∷ after
  inside : IsInLine offset (lines_bytes before) line after

line_at : (first : Line) (lines : List Line) (offset : ℕ) → IsLineAt (first ∷ lines) offset
line_at first [] offset = record { before = []; line = first; after = []; parts = refl; inside = (omega arith, inr refl) }
line_at first (next ∷ lines) offset = by (cases_lt offset (line_bytes first)) (line_at next lines (offset - line_bytes first))
  where
    sum : (before : List Line) → lines_bytes (first ∷ before) ≡ line_bytes first + lines_bytes before
    sum before = sum_by-cons line_bytes first before

    by : (offset < line_bytes first) ⊎ (line_bytes first ≤ offset) → IsLineAt (next ∷ lines) (offset - line_bytes first) →
        IsLineAt (first ∷ next ∷ lines) offset
    by (inl less) rest =
        record { before = []; line = first; after = next ∷ lines; parts = refl; inside = (omega arith, inl (omega (arith, less))) }
    by (inr more) rest = record {
      before = first ∷ rest.before;
      line = rest.line;
      after = rest.after;
      parts = ap (λ ls. first ∷ ls) rest.parts;
      inside = (
        omega (arith, more, rest.inside.0, sum rest.before),
        elim rest.inside.1 [ inl less ↦ inl (omega (arith, more, less, sum rest.before)) | inr last ↦ inr last ],
      );
    }

some_line : (text : List ℕ) (lines : List Line) (offset : ℕ) → AreLines text lines → IsLineAt lines offset
some_line text [] offset are = elim are [ ]
some_line text (first ∷ lines) offset are = line_at first lines offset

pub some_position : (text : List ℕ) (offset : ℕ) → IsUtf8 text → (at : Pos) × IsPosition text offset at
some_position text offset utf8 =
    let cut = cut_of text in
    let found = some_line text cut.0 offset cut.1 in
    let lines : AreLines text (found.before ++ found.line ∷ found.after) = subst (AreLines text) found.parts cut.1 in
    let starts : StartsLine text (length found.before) (lines_bytes found.before) =
    record { before = found.before; line = found.line; after = found.after; cut = lines; number = refl; begins = refl } in
    let chars = AreCharsWithin-some utf8_len found.line.content (offset - lines_bytes found.before)
    (content_utf8 text (length found.before) (lines_bytes found.before) utf8 starts) in (
      record { line = length found.before; character = sum_by (units_of Utf16) chars.0 },
      record {
        before = found.before;
        line = found.line;
        after = found.after;
        into = offset - lines_bytes found.before;
        chars = chars.0;
        cut = lines;
        inside = found.inside;
        far = omega (arith, found.inside.0);
        chars_before = chars.1;
        number = refl;
        character = refl;
      },
    )
