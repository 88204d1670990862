-- What is left to try, step by step.
use Rattle.std.proofs.Common.{◌≡◌, ℕ, true, List, [], ◌∷◌, ◌++◌, length, Option, Some, None, refl, sym, ap, ◌∙◌, option_map, cond, ◌<◌}
use Rattle.std.specs.Option.{option_or}
use Rattle.std.proofs.lemmas.List.Elements.{All-push, All-pop}
use Rattle.regex_hir.specs.Re.{Re, accept, attempt}
use Rattle.regex_hir.specs.Text.{is_boundary}
use Rattle.regex_hir.proofs.OptionLemmas.{option_or_assoc, option_or_second}
use Rattle.regex_nfa.specs.declared.nfa.Nfa.{Nfa}
use Rattle.regex_compile.specs.Implements.{Implements}
use Rattle.lw_matching.proofs.StartLemmas.{match_at_start-attempt, boundary-append}
use Rattle.lw_matching.specs.Steps.{gives_over, match_end, LeadsOn}
use Rattle.lw_matching.specs.Walk.{left_over, IsWay, EndStays, MatchStays, Tracking}
use Rattle.lw_matching.specs.declared.walk.Way.{Way}
use Rattle.lw_matching.specs.declared.step.Onward.{Onward}
use Rattle.lw_matching.proofs.StepLemmas.{left_over-push}

module _ (nfa : Nfa) (text : List ℕ) where
  pub tracking-both : (q i r s : ℕ) (ws : List Way) → Tracking nfa text q i ws → LeadsOn nfa text q i (Onward.Both r s) →
      Tracking nfa text r i (ws ++ record { state = s; at = i } ∷ [])
  tracking-both q i r s ws t leads = record {
    pair = leads.0;
    ways_in = All-push (IsWay nfa text) ws _ t.ways_in leads.1;
    comes = λ more. let go = gives_over nfa text more in
        t.comes more ∙ ap (λ o. option_or o (left_over go ws)) (leads.2 more)
        ∙ option_or_assoc (match_end (go r i)) (match_end (go s i)) (left_over go ws)
        ∙ ap (option_or (match_end (go r i))) (sym (left_over-push go ws (record { state = s; at = i })));
  }

  pub tracking-back : (q i : ℕ) (ws : List Way) (w : Way) → Tracking nfa text q i (ws ++ w ∷ []) → LeadsOn nfa text q i Onward.Back →
      Tracking nfa text w.state w.at ws
  tracking-back q i ws w t leads =
      let parts = All-pop (IsWay nfa text) (ws ++ w ∷ []) ws (Some w) refl t.ways_in in
      record {
        pair = parts.1;
        ways_in = parts.0;
        comes = λ more. let go = gives_over nfa text more in
            t.comes more ∙ option_or_second _ _ (leads more) ∙ left_over-push go ws w;
      }

-- what stays of the NFA's match stays of the pattern's
pub foreseen-stays : (nfa : Nfa) (re : Re) (text : List ℕ) (bytes : Option ℕ) → Implements nfa re → 0 < length text → is_boundary text 0 ≡ true →
    EndStays nfa text bytes → MatchStays re text bytes
foreseen-stays nfa re text bytes same filled cut stays more =
    match_at_start-attempt re (text ++ more)
    ∙ ap (λ b. option_map (λ t. t.end) (cond b (attempt (text ++ more) re accept 0) None)) (boundary-append text more filled ∙ cut)
    ∙ ap match_end (sym (same (text ++ more) 0)) ∙ stays more
