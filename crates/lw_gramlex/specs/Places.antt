-- Where the tokens of a file stand, and what form their bytes have.
use Rattle.std.specs.Prelude.{ℕ, ◌≡◌, ◌<◌, ◌≤◌, List, length, encode_utf8}
use Rattle.std.specs.Char.{IsScalar}
use Rattle.std.specs.Str.{IsCharBoundary}
use Rattle.lw_base.specs.declared.Span.{Span}
use Rattle.lw_gramlex.specs.declared.token.FileKind.{FileKind}
use Rattle.lw_gramlex.specs.declared.token.FileKind.TheVariants as kind
use Rattle.lw_gramlex.specs.Symbols.{spelling}
use Rattle.lw_gramlex.specs.FileTokens.{IsWord, IsString, IsRegex}

-- the span is a part of the text that is not empty and splits no character
pub record IsPlace (text : List ℕ) (span : Span) : Type 0 where
  pub not_empty : span.start < span.end
  pub within : span.end ≤ length text
  pub starts : IsCharBoundary text span.start
  pub ends : IsCharBoundary text span.end

-- these bytes, and nothing behind them, have the form of the kind
abbrev pub IsOfKind : FileKind → List ℕ → Type 0
IsOfKind kind.Word bytes = IsWord bytes (length bytes)
IsOfKind kind.Text bytes = IsString bytes (length bytes)
IsOfKind (kind.Regex flags) bytes = IsRegex bytes flags (length bytes)
IsOfKind (kind.Symbol s) bytes = bytes ≡ spelling s
IsOfKind kind.Other bytes = (c : ℕ) × IsScalar c × (bytes ≡ encode_utf8 c)
