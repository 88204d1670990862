-- What is foreseen of every pattern that an NFA implements is foreseen of the pattern whose text it was made from.
use Rattle.std.proofs.Common.{◌≡◌, ℕ, ◌<◌, ◌==◌, if◌then◌else◌, List, ◌++◌, Option, Some, None, All, option_map, option_and_then, chars, refl, ap, sym, ◌∙◌}
use Rattle.regex_hir.specs.Find.{Match}
use Rattle.regex_hir.specs.Re.{Re}
use Rattle.regex_hir.specs.Meaning.{meaning}
use Rattle.regex_syntax.specs.Grammar.{read}
use Rattle.regex_syntax.specs.Verdict.{Reads, default_config}
use Rattle.regex_syntax.proofs.CapturesLemmas.{spans}
use Rattle.regex_syntax.proofs.Written.{find_str_as_read}
use Rattle.regex_syntax.proofs.TreeLaws.{same_refl}
use Rattle.regex_nfa.specs.declared.nfa.Nfa.{Nfa}
use Rattle.regex_compile.specs.Implements.{Implements}
use Rattle.lw_io.specs.Patterns.{anchored}
use Rattle.lw_tokens.specs.Matching.{length_at_start, match_at_start, match_length}
use Rattle.lw_matching.specs.Walk.{MatchStays}
use Rattle.lw_matching.specs.Nfas.{IsNfaOf, IsForeseen}

length_of_spans : (o p : Option Match) → option_map spans o ≡ option_map spans p →
    option_and_then length_at_start o ≡ option_and_then length_at_start p
length_of_spans None None e = refl
length_of_spans None (Some n) e = absurd cc
length_of_spans (Some m) None e = absurd cc
length_of_spans (Some m) (Some n) e =
    let same : spans m ≡ spans n = cc in
    ap (λ s. if s.0 == 0 then Some s.1 else None) same

module _ (pattern : List ℕ) (nfa : Nfa) (is : IsNfaOf pattern nfa) where
  pub matched_as : (text : List ℕ) → All (λ b. b < 256) text → match_length pattern text ≡ match_at_start (meaning is.tree) text
  unfolding Reads match_length
  matched_as text bytes = by_cases (read default_config (chars (anchored pattern))) refl
    where
      by_cases : (o : _) → read default_config (chars (anchored pattern)) ≡ o →
          option_and_then (λ re. match_at_start re text) (option_map (λ found. found.0.value) o) ≡ match_at_start (meaning is.tree) text
      by_cases None e = absurd (rw e at is.reads)
      by_cases (Some found) e =
          sym (length_of_spans _ _ (find_str_as_read _ _ _ _ found.0.value is.reads (rw e (same_refl found.0.value)) text bytes 0))

  pub foreseen-source : (text : List ℕ) (bytes : Option ℕ) → ((re : Re) → Implements nfa re → MatchStays re text bytes) →
      IsForeseen pattern text bytes
  foreseen-source text bytes foreseen more small = matched_as (text ++ more) small ∙ foreseen (meaning is.tree) is.implements more
