-- What a pattern matches at the start of a text is what its attempt there gives.
use Rattle.std.proofs.Common.{◌≡◌, ℕ, ◌<◌, ◌≤◌, List, ◌++◌, length, Option, Some, None, ◌==◌, cond, not, option_map, option_and_then, refl, ap, ◌∙◌, arith, ne_eqb}
use Rattle.std.proofs.lemmas.Bool.{cond-false}
use Rattle.std.specs.Option.{option_or}
use Rattle.std.specs.Int.{is_in_range}
use Rattle.regex_hir.specs.Text.{is_none_or, is_boundary}
use Rattle.regex_hir.specs.Find.{Match, find_str, first_between}
use Rattle.regex_hir.specs.Re.{Re, Trace, accept, attempt}
use Rattle.regex_hir.proofs.FindLemmas.{first_between_unfold, IsFirst-of_first_between}
use Rattle.lw_tokens.specs.Matching.{length_at_start, match_at_start}
use Rattle.lw_matching.proofs.TextLemmas.{slice_get-append}

not_at_start : (later : Option Match) → ((m : Match) → later ≡ Some m → 1 ≤ m.start) → option_and_then length_at_start later ≡ None
not_at_start None h = refl
not_at_start (Some m) h = cond-false (m.start == 0) (Some m.trace.end) None (ne_eqb m.start 0 (let below = h m refl in omega arith))

at_start : (o : Option Trace) (later : Option Match) → ((m : Match) → later ≡ Some m → 1 ≤ m.start) →
    option_and_then length_at_start (option_or (option_map (λ t. record { start = 0; trace = t }) o) later) ≡ option_map (λ t. t.end) o
at_start None later h = not_at_start later h
at_start (Some t) later h = refl

-- only the attempt at the start counts
pub match_at_start-attempt : (re : Re) (hay : List ℕ) →
    match_at_start re hay ≡ option_map (λ t. t.end) (cond (is_boundary hay 0) (attempt hay re accept 0) None)
unfolding find_str
match_at_start-attempt re hay =
    let at = λ (i : ℕ). cond (is_boundary hay i) (attempt hay re accept i) None in
    ap (option_and_then length_at_start) (first_between_unfold at 0 (length hay) (omega arith))
    ∙ at_start (at 0) (first_between at 1 (length hay)) (λ m e. let first = IsFirst-of_first_between at 1 (length hay) m e in first.from)

pub boundary-append : (text more : List ℕ) → 0 < length text → is_boundary (text ++ more) 0 ≡ is_boundary text 0
unfolding is_boundary
boundary-append text more h = ap (λ o. is_none_or o (λ b. not (is_in_range 0x80 0xBF b))) (slice_get-append text more 0 h)
