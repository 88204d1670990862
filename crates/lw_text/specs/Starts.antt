-- Where the lines of a text begin: the index by which a text finds a line without looking at the lines before it. The lines are those of
-- the Language Server Protocol 3.17, "Text Documents".
use Rattle.std.specs.Prelude.{ℕ, ◌≡◌, ◌+◌, ◌≤◌, ◌⊎◌, List, [], ◌∷◌, ◌++◌, length, drop, All}
use Rattle.lw_base.specs.declared.limits.TheConstants.{LONGEST_TEXT}
use Rattle.lw_text.specs.Lines.{Line, AreLines, IsNoBreak, IsEnding, line_bytes}

-- where these lines begin, the first of them at `start`
abbrev pub starts_from : ℕ → List Line → List ℕ
starts_from start [] = []
starts_from start (line ∷ lines) = start ∷ starts_from (start + line_bytes line) lines

-- where the lines of the text begin
pub record AreStarts (text starts : List ℕ) : Type 0 where
  pub lines : List Line
  pub cut : AreLines text lines
  pub places : starts ≡ starts_from 0 lines

-- what a text that knows its lines keeps true: these are its lines, and it is not too long
pub record IsIndexed (text starts : List ℕ) : Type 0 where
  pub lines : AreStarts text starts
  pub fits : length text ≤ LONGEST_TEXT

-- the bytes are over, or go on with a byte that ends a line
abbrev pub IsBreakOrOver : List ℕ → Type 0
IsBreakOrOver [] = Unit {0}
IsBreakOrOver (c ∷ cs) = (c ≡ 13) ⊎ (c ≡ 10)

-- what stands in the line that begins at `start` ends at `end`: what follows begins with a break, or is nothing
pub record IsLineEnd (text : List ℕ) (start end : ℕ) : Type 0 where
  pub content : List ℕ
  pub bare : All IsNoBreak content
  pub parts : drop start text ≡ content ++ drop end text
  pub far : end ≡ start + length content
  pub over : IsBreakOrOver (drop end text)

-- the line that begins at `start` has an ending, and the next line begins at `next`
pub record IsNextLine (text : List ℕ) (start next : ℕ) : Type 0 where
  pub content : List ℕ
  pub ending : List ℕ
  pub bare : All IsNoBreak content
  pub ends : IsEnding (drop next text) ending
  pub parts : drop start text ≡ content ++ ending ++ drop next text
  pub far : next ≡ start + length content + length ending
