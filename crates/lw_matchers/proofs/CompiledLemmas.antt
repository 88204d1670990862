-- A compiled regular expression matches at the start of a text what the text of its pattern says.
use Rattle.std.proofs.Common.{◌≡◌, ℕ, ◌==◌, if◌then◌else◌, List, Option, Some, None, option_map, IsSome, refl, ap, rules}
use Rattle.std.specs.Prelude.{chars, option_and_then}
use Rattle.std.proofs.lemmas.List.{get_or_default}
use Rattle.regex.specs.Patterns.{Match, default_config, Reads}
use Rattle.regex.specs.Strings.{regex_pattern}
use Rattle.regex.specs.declared.string.regex.Regex.{Regex}
use Rattle.regex.proofs.ForCallers.{spans}
use Rattle.regex_syntax.specs.Grammar.{read}
use Rattle.regex_syntax.proofs.Written.{find_str_as_read}
use Rattle.regex_syntax.proofs.TreeLaws.{same_refl}
use Rattle.lw_io.specs.Patterns.{anchored}
use Rattle.lw_tokens.specs.Matching.{pattern_of, length_at_start, match_at_start, match_length}
use Rattle.lw_matchers.specs.Compiled.{IsCompiled, MatchesAs}

length_of_spans : (o p : Option Match) → option_map spans o ≡ option_map spans p → option_and_then length_at_start o ≡ option_and_then length_at_start p
length_of_spans None None e = refl
length_of_spans None (Some n) e = absurd cc
length_of_spans (Some m) None e = absurd cc
length_of_spans (Some m) (Some n) e =
    let same : spans m ≡ spans n = cc in
    ap (λ s. if s.0 == 0 then Some s.1 else None) same

module _ (pattern : List ℕ) (regex : Regex) (compiled : IsCompiled pattern regex) where
  pub matches_as : MatchesAs pattern (regex_pattern regex)
  unfolding match_length Reads
  matches_as text bytes = by_cases (read default_config (chars (anchored pattern))) refl
    where
      by_cases : (o : _) → read default_config (chars (anchored pattern)) ≡ o →
          match_at_start (regex_pattern regex) text ≡ option_and_then (λ re. match_at_start re text) (option_map (λ found. found.0.value) o)
      by_cases None e = absurd (rw e at rw (compiled.source, compiled.config) at compiled.read)
      by_cases (Some found) e =
          length_of_spans _ _ (find_str_as_read _ _ _ _ found.0.value (rw (compiled.source, compiled.config) at compiled.read)
          (rw e (same_refl found.0.value)) text (λ k d h. rw (get_or_default text k d 0 h) (bytes k)) 0)

  -- the text is one of a pattern
  pub readable : IsSome (pattern_of (anchored pattern))
  unfolding Reads
  readable = by_cases (read default_config (chars (anchored pattern))) refl
    where
      by_cases : (o : _) → read default_config (chars (anchored pattern)) ≡ o → IsSome (option_map (λ found. found.0.value) o)
      by_cases None e = absurd (rw e at rw (compiled.source, compiled.config) at compiled.read)
      by_cases (Some found) e = search rules
