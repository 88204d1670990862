-- The marks that are found are those of the readings.
use Rattle.std.proofs.Common.{◌≡◌, ◌≢◌, ◌<◌, ℕ, List, [], ◌∷◌, Result, Ok, Err, IfOk, length, get_or, refl, sym, ap, subst, ◌∙◌, arith}
use Rattle.std.proofs.lemmas.List.{length-append}
use Rattle.std.proofs.lemmas.List.Elements.{All-nil, All-cons, Contains-get_or}
use Rattle.lw_base.specs.declared.numbers.RuleId.{RuleId}
use Rattle.lw_grammar.specs.declared.grammar.Grammar.{Grammar}
use Rattle.lw_grammar.specs.Kinds.{Kinds}
use Rattle.lw_program.specs.declared.recipes.mark.TreeMark.{TreeMark}
use Rattle.lw_program.specs.declared.recipes.mark.TreeMark.TheVariants as numbered
use Rattle.lw_program.specs.Meant.{AreMeant}
use Rattle.lw_program.specs.Meant as meant
use Rattle.lw_grammar.proofs.Joined.{kinds_join}
use Rattle.lw_grammar.specs.Marks.{Mark, Token, Open, End, kinds_of}
use Rattle.lw_grammar.specs.Sentences.{IsSentence}
use Rattle.lw_viable.specs.Marked.{MeanExactly, MeanSome}
use Rattle.lw_viable.specs.ReadSoFar.{EndsRead, IsReadSoFar}
use Rattle.lw_viable.specs.ReadSoFar as so_far
use Rattle.lw_parse.specs.Readings.{IsReading, MeanReadings}
use Rattle.lw_parse.specs.Readings as reading

-- marks that end with a token have one
has_kinds : {m : List Mark} → EndsRead m → kinds_of m ≢ []
has_kinds (so_far.token before k) e = omega (arith, ap length (sym (kinds_join before (Token k ∷ [])) ∙ e), length-append (kinds_of before) (k ∷ []))
has_kinds (so_far.value before k) e = omega (arith, ap length (sym (kinds_join before (Token k ∷ End ∷ [])) ∙ e), length-append (kinds_of before) (k ∷ []))

-- what a value meets by two clauses
pub ok_both : {T E : Type 0} (r : Result T E) (P Q R : T → Type 0) → ((x : T) → P x → Q x → R x) → IfOk r P → IfOk r Q → IfOk r R
ok_both (Ok x) P Q R by is too = by x is too
ok_both (Err e) P Q R by is too = tt

module _ (g : Grammar) (of : Kinds) (entry : ℕ) where
  pub only_begun : {ks : List ℕ} {m : List Mark} → ks ≡ [] → IsReading g of entry ks m → m ≡ Open entry ∷ []
  only_begun none reading.begun = refl
  only_begun none (reading.read is) = absurd (has_kinds is.ends (is.kinds_are ∙ none))

  pub its_kinds : {ks : List ℕ} {m : List Mark} → IsReading g of entry ks m → kinds_of m ≡ ks
  its_kinds reading.begun = refl
  its_kinds (reading.read is) = is.kinds_are

  so_read : {ks : List ℕ} {m : List Mark} → ks ≢ [] → IsReading g of entry ks m → IsReadSoFar (IsSentence g of) ks m
  so_read some reading.begun = absurd (some refl)
  so_read some (reading.read is) = is

  module _ (r : RuleId) (is_entry : r.0 ≡ entry) where
    abbrev opening : List TreeMark
    opening = numbered.Open r ∷ []

    opening_is : AreMeant g opening (Open entry ∷ [])
    opening_is = subst (λ (n : ℕ). AreMeant g opening (Open n ∷ [])) is_entry (meant.more (meant.opens r) meant.none)

    abbrev IsMeantReading : List ℕ → List TreeMark → Type 0
    IsMeantReading ks marks = (m : List Mark) × AreMeant g marks m × IsReading g of entry ks m

    of_none : MeanReadings g of entry [] (opening ∷ [])
    of_none = record {
      each = All-cons (IsMeantReading []) opening [] (Open entry ∷ [], opening_is, reading.begun) (All-nil (IsMeantReading []));
      all = λ m is. (0, opening, omega arith, refl, subst (λ (n : List Mark). AreMeant g opening n) (sym (only_begun refl is)) opening_is);
    }

    pub begun_are : (ks : List ℕ) (found : List (List TreeMark)) → ks ≡ [] → found ≡ opening ∷ [] → MeanReadings g of entry ks found
    begun_are ks found none same =
        subst (λ (ls : List ℕ). MeanReadings g of entry ls found) (sym none)
        (subst (λ (all : List (List TreeMark)). MeanReadings g of entry [] all) (sym same) of_none)

  module _ (ks : List ℕ) (some : ks ≢ []) (found : List (List TreeMark))
      (exact : MeanExactly g (IsReadSoFar (IsSentence g of) ks) found) (each : MeanSome g found) where
    is_reading : (i : ℕ) (d : List TreeMark) → i < length found → (m : List Mark) × AreMeant g (get_or found i d) m × IsReading g of entry ks m
    is_reading i d inside =
        let (m, means) = each i d inside in
        let (n, within, is) = Contains-get_or found i d inside in
        (m, means, reading.read ((exact m).1 (n, get_or found i d, within, is, means)))

    pub read_are : MeanReadings g of entry ks found
    read_are = record { each = is_reading; all = λ m is. (exact m).0 (so_read some is) }
