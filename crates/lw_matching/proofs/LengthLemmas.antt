-- What the automaton of a pattern matches at a place is what the pattern matches there.
use Rattle.std.proofs.Common.{◌≡◌, ℕ, ◌+◌, ◌<◌, Bool, IsTrue, List, length, drop, get_or, set, slice_get, get_or-set_same, get_or-set_other, IsUtf8, IsCharBoundary, Option, Some, None, cond, option_map, refl, sym, ap, ◌∙◌, arith}
use Rattle.std.proofs.lemmas.List.{length-set}
use Rattle.std.proofs.lemmas.Option.{slice_get-get_or}
use Rattle.std.proofs.lemmas.Str.{IsUtf8-drop, IsCharBoundary-start}
use Rattle.regex_hir.specs.Meaning.{meaning}
use Rattle.regex_hir.specs.Re.{Trace, accept, attempt}
use Rattle.regex.proofs.Utf8Lemmas.{test_of_IsCharBoundary}
use Rattle.regex_nfa.specs.declared.nfa.Nfa.{Nfa}
use Rattle.lw_base.proofs.Bytes.{utf8_small}
use Rattle.lw_matching.specs.Nfas.{IsNfaOf}
use Rattle.lw_matching.specs.Steps.{match_end}
use Rattle.lw_matching.proofs.SourceLemmas.{matched_as}
use Rattle.lw_matching.proofs.StartLemmas.{match_at_start-attempt}
use Rattle.lw_tokens.specs.Matching.{match_length}
use Rattle.lw_matching.specs.Lengths.{AreMatchLengths}
use Rattle.lw_matching.specs.Rows.{IsRow, end_from}
use Rattle.lw_matching.specs.Starts.{AreStartLengths}

module _ (pattern text : List ℕ) (nfa : Nfa) (is : IsNfaOf pattern nfa) (utf8 : IsUtf8 text) where
  matched : (at : ℕ) → IsCharBoundary text at → match_length pattern (drop at text) ≡ end_from nfa (drop at text) nfa.start 0
  matched at cut =
      let rest = drop at text in
      let re = meaning is.tree in
      let whole = IsUtf8-drop text at utf8 cut in
      matched_as pattern nfa is rest (utf8_small rest whole)
      ∙ match_at_start-attempt re rest
      ∙ ap (λ b. option_map (λ (t : Trace). t.end) (cond b (attempt rest re accept 0) None)) (test_of_IsCharBoundary rest 0 (IsCharBoundary-start rest whole))
      ∙ ap match_end (sym (is.implements rest 0))

  pub start_is_match : (lengths : List _) → AreStartLengths nfa text lengths → AreMatchLengths pattern text lengths
  start_is_match lengths are = record {
    count = are.count;
    each = λ at cut. are.each at cut.0 ∙ ap Some (sym (matched at cut));
  }

end_at : (p : ℕ) (a : Option ℕ) (e : ℕ) → option_map (λ x. x + p) a ≡ option_map (λ x. x + 0) (Some e) → (n : ℕ) × (a ≡ Some n) × (n + p ≡ e)
end_at p None e is = absurd cc
end_at p (Some n) e is =
    let both : n + p ≡ e + 0 = cc in
    (n, refl, omega (arith, both))

none_at : (p : ℕ) (a : Option ℕ) → option_map (λ x. x + p) a ≡ None → a ≡ None
none_at p None is = refl
none_at p (Some n) is = absurd cc

module _ (nfa : Nfa) (text : List ℕ) (p : ℕ) (starts : Bool) (begins : IsTrue starts) (row : List (Option ℕ)) (is : IsRow nfa text p starts row) where
  start_row : option_map (λ x. x + p) (end_from nfa (drop p text) nfa.start 0) ≡ option_map (λ x. x + 0) (get_or row nfa.start None)
  start_row = is nfa.start nfa.start_in (drop p text) 0 (sym begins) (omega arith) refl

  -- a search that begins at the place ends so many bytes behind it
  pub start_some : (e : ℕ) → get_or row nfa.start None ≡ Some e → (n : ℕ) × (end_from nfa (drop p text) nfa.start 0 ≡ Some n) × (n + p ≡ e)
  start_some e there = end_at p _ e (start_row ∙ ap (option_map (λ x. x + 0)) there)

  pub start_none : get_or row nfa.start None ≡ None → end_from nfa (drop p text) nfa.start 0 ≡ None
  start_none there = none_at p _ (start_row ∙ ap (option_map (λ x. x + 0)) there)

module _ (xs : List (Option ℕ)) (i : ℕ) (y : Option ℕ) where
  pub set_there : i < length xs → slice_get (set xs i y) i ≡ Some y
  set_there inside = slice_get-get_or (set xs i y) i y (omega (arith, inside, length-set xs i y)) ∙ ap Some (get_or-set_same xs i y y inside)

  pub set_elsewhere : (j : ℕ) → (j ≡ i → ⊥) → j < length xs → slice_get (set xs i y) j ≡ slice_get xs j
  set_elsewhere j other inside =
      slice_get-get_or (set xs i y) j y (omega (arith, inside, length-set xs i y)) ∙ ap Some (get_or-set_other xs i j y y other)
      ∙ sym (slice_get-get_or xs j y inside)
