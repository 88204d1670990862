-- What a terminal's pattern matches at the start of a text, by the definition of the library `regex`.
use Rattle.std.specs.Prelude.{ℕ, ◌==◌, List, Option, Some, None, if◌then◌else◌, option_map, option_and_then, chars}
use Rattle.regex.specs.Patterns.{Re, Match, find_str, default_config}
use Rattle.regex_syntax.specs.Grammar.{read}
use Rattle.lw_io.specs.Patterns.{anchored}

-- what the text of a pattern is read as under the default options, where it is a pattern
abbrev pub pattern_of : List ℕ → Option Re
pattern_of source = option_map (λ found. found.0.value) (read default_config (chars source))

-- the length of a match that begins at the start
abbrev pub length_at_start : Match → Option ℕ
length_at_start m = if m.start == 0 then Some m.trace.end else None

-- how many bytes a pattern's leftmost match takes, where it begins at the start of the text
abbrev pub match_at_start : Re → List ℕ → Option ℕ
match_at_start re text = option_and_then length_at_start (find_str re text 0)

-- how many bytes at the start of the text a terminal with the pattern p matches
unfoldable pub match_length : List ℕ → List ℕ → Option ℕ
match_length p text = option_and_then (λ re. match_at_start re text) (pattern_of (anchored p))
