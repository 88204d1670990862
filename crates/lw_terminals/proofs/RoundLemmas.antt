-- What was found stays right as it grows, and in the end it is all that is to be said.
use Rattle.std.proofs.Common.{◌≡◌, ℕ, ◌+◌, ◌<◌, ◌≤◌, List, Bool, true, false, length, get_or, set, slice_get, Some, inl, inr, refl, sym, ap, ◌∙◌, subst, arith, true≢false}
use Rattle.std.specs.Prelude.{not, cond}
use Rattle.std.proofs.lemmas.List.{get_or_read}
use Rattle.std.proofs.lemmas.List.Sums.{sum_by-set}
use Rattle.std.proofs.lemmas.Option.{slice_get_within, get_or_from_slice_get, slice_get_cases}
use Rattle.lw_grammar.specs.declared.grammar.Grammar.{Grammar}
use Rattle.lw_grammar.specs.declared.terminal.Terminal.{Terminal}
use Rattle.lw_numbers.specs.Tables.{Tables}
use Rattle.lw_terminals.specs.declared.patterns.written.Written.{Written}
use Rattle.lw_terminals.specs.declared.patterns.written.Written.TheVariants.{Short, Long, Unwritten}
use Rattle.lw_terminals.specs.Rounds.{missing, IsNextWritten, IsPatternSettledAt, PatternsGrewBelow, PatternsGrewOrSettled}
use Rattle.lw_terminals.specs.Writing.{IsFoundAt, SaysPatternOf, ArePatternsKnown}
use Rattle.lw_terminals.specs.WrittenPatterns.{Says, is_found, IsPatternOf, ArePatternsOf}
use Rattle.lw_terminals.proofs.PatternsReady.{terminal_ready}

-- where something is said of a text, a pattern was found
says_found : (w : Written) (p : List ℕ) → Says w p → is_found w ≡ true
says_found (Short text) p says = refl
says_found (Long bytes) p says = refl
says_found Unwritten p says = absurd says

counts_one : (b : Bool) → b ≡ false → cond {A = ℕ} (not b) 1 0 ≡ 1
counts_one true is = absurd (true≢false is)
counts_one false is = refl

counts_none : (b : Bool) → b ≡ true → cond {A = ℕ} (not b) 1 0 ≡ 0
counts_none true is = refl
counts_none false is = absurd (true≢false (sym is))

one_less : (written : List Written) (t : ℕ) (w : Written) → t < length written → is_found (get_or written t Unwritten) ≡ false → is_found w ≡ true →
    missing (set written t w) < missing written
one_less written t w inside was now =
    let sums : missing (set written t w) + cond (not (is_found (get_or written t Unwritten))) 1 0 ≡ missing written + cond (not (is_found w)) 1 0 =
    sum_by-set (λ x. cond (not (is_found x)) 1 0) written t w Unwritten inside in
    omega (arith, sums, counts_one (is_found (get_or written t Unwritten)) was, counts_none (is_found w) now)

module _ (g : Grammar) where
  -- where the pattern at a place is found that was not
  pub grows : (tables : Tables) (written : List Written) (t : ℕ) (old w : Written) (b : Bool) → ArePatternsKnown g tables written → t < length g.terminals →
      old ≡ get_or written t old → b ≡ is_found old → b ≡ false → IsNextWritten g t written (Some w) → missing (set written t w) < missing written
  grows tables written t old w b known inside is tests was next = one_less written t w within (ap is_found (sym there) ∙ sym tests ∙ was) found
    where
      within : t < length written
      within = omega (arith, known.count)

      there : old ≡ get_or written t Unwritten
      there = get_or_read written t old within is Unwritten

      found : is_found w ≡ true
      found = elim (slice_get_cases g.terminals t).1 [
        | inl at ↦ let says = next at.0 at.2 in says_found w says.0 says.2
        | inr past ↦ absurd (omega (arith, past.0))
      ]

  -- ---- the end
  module _ (tables : Tables) (written : List Written) (known : ArePatternsKnown g tables written) (settled : (t : ℕ) → IsPatternSettledAt g written t) where
    right : (i : ℕ) (t : Terminal) (w : Written) → slice_get g.terminals i ≡ Some t → get_or written i Unwritten ≡ w → IsPatternOf g t w
    right i t (Short text) there is =
        let says : SaysPatternOf g t (Short text) = subst (SaysPatternOf g t) is (known.sound i t there (ap is_found is)) in
        let P : List ℕ → Type 0 = λ q. IsPatternOf g t (Short q) in
        subst P (sym says.2.0) (says.1, says.2.1)
    right i t (Long bytes) there is =
        let says : SaysPatternOf g t (Long bytes) = subst (SaysPatternOf g t) is (known.sound i t there (ap is_found is)) in
        (says.0, says.1, says.2.1, says.2.0)
    right i t Unwritten there is = λ p has.
        let found = settled i t there (terminal_ready g (IsFoundAt written) (λ u x at body. settled u x at body) has) in
        true≢false (sym found ∙ ap is_found is)

    pub all_right : ArePatternsOf g written
    all_right = record {
      count = known.count;
      each = λ i t w there said. right i t w there (get_or_from_slice_get written i w Unwritten said);
    }
