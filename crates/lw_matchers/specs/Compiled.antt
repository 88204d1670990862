-- When a compiled regular expression matches what the text of a terminal's pattern says.
use Rattle.std.specs.Prelude.{ℕ, ◌≡◌, ◌<◌, List, slice_index}
use Rattle.regex.specs.Patterns.{Re, default_config}
use Rattle.regex.specs.Strings.{regex_source, regex_config, IsReadFromSource}
use Rattle.regex.specs.declared.string.regex.Regex.{Regex}
use Rattle.lw_io.specs.Patterns.{anchored}
use Rattle.lw_tokens.specs.Matching.{match_at_start, match_length}

-- the regular expression is what the text `\A(?:p)` reads as, under the default options
pub record IsCompiled (pattern : List ℕ) (regex : Regex) : Type 0 where
  pub source : regex_source regex ≡ anchored pattern
  pub config : regex_config regex ≡ default_config
  pub read : IsReadFromSource regex

-- at the start of each text of bytes it matches what the pattern does
abbrev pub MatchesAs : List ℕ → Re → Type 0
MatchesAs pattern re =
    (text : List ℕ) → ((k : ℕ) → slice_index text k < 256) → match_at_start re text ≡ match_length pattern text
