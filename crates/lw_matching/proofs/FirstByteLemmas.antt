-- A byte with which no match of an NFA begins rules out every text that begins with it.
use Rattle.std.proofs.Common.{◌≡◌, ℕ, Bool, true, false, cond, List, [], ◌∷◌, slice_index_or, replicate, Option, Some, None, option_map, refl, sym, ap, ◌∙◌, true≢false, arith}
use Rattle.std.proofs.lemmas.List.{get_or-replicate}
use Rattle.regex_hir.specs.Re.{Re, Trace, accept, attempt}
use Rattle.regex_hir.specs.Text.{is_boundary}
use Rattle.regex_nfa.specs.declared.nfa.Nfa.{Nfa}
use Rattle.regex_compile.specs.Implements.{Implements}
use Rattle.regex_levels.specs.Beginnings.{BeginsIn}
use Rattle.lw_matching.specs.Walk.{MatchStays}
use Rattle.lw_matching.specs.Nfas.{IsNfaOf}
use Rattle.lw_matching.specs.FirstBytes.{AreFirstBytes}
use Rattle.lw_matching.proofs.StartLemmas.{match_at_start-attempt}
use Rattle.lw_matching.proofs.SourceLemmas.{foreseen-source}

ends_nowhere : (boundary : Bool) → option_map (λ (t : Trace). t.end) (cond boundary None None) ≡ None
ends_nowhere true = refl
ends_nowhere false = refl

module _ (nfa : Nfa) (flags : List Bool) (begins : BeginsIn nfa flags) (byte : ℕ) (off : slice_index_or flags byte false ≡ false) where
  module _ (re : Re) (implements : Implements nfa re) (more : List ℕ) where
    no_attempt : (o : Option Trace) → attempt (byte ∷ more) re accept 0 ≡ o → o ≡ None
    no_attempt None e = refl
    no_attempt (Some t) e = absurd (true≢false (sym (begins (byte ∷ more) 0 t (implements (byte ∷ more) 0 ∙ e)).1 ∙ off))

  stays_out : (re : Re) → Implements nfa re → MatchStays re (byte ∷ []) None
  stays_out re implements more =
      let hay = byte ∷ more in
      match_at_start-attempt re hay
      ∙ ap (λ o. option_map (λ t. t.end) (cond (is_boundary hay 0) o None)) (no_attempt re implements more (attempt hay re accept 0) refl)
      ∙ ends_nowhere (is_boundary hay 0)

-- the bytes with which the matches of a pattern's NFA begin are those of the pattern
pub first_of_nfa : (pattern : List ℕ) (nfa : Nfa) (flags : List Bool) → IsNfaOf pattern nfa → BeginsIn nfa flags → AreFirstBytes pattern flags
first_of_nfa pattern nfa flags is begins byte off = foreseen-source pattern nfa is (byte ∷ []) None (stays_out nfa flags begins byte off)

-- flags that are all on rule nothing out
pub all_on : (pattern : List ℕ) → AreFirstBytes pattern (replicate 256 true)
all_on pattern byte off more small =
    let below = small 0 0 (omega arith) in
    absurd (true≢false (sym (get_or-replicate 256 byte true false below) ∙ off))
