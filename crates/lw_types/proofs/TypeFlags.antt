-- Flags of types that are inferred and not declared.
use Rattle.std.proofs.Common.{◌≡◌, ◌↔◌, ℕ, zero, suc, ◌+◌, ◌<◌, List, [], ◌∷◌, ◌++◌, Bool, true, length-append, Some, length, slice_get, inl, inr, refl, sym, ap, ◌∙◌, subst, arith}
use Rattle.std.proofs.lemmas.Bool.{cases_lt}
use Rattle.std.proofs.lemmas.Option.{same_Some, slice_get_within}
use Rattle.lw_grammar.specs.declared.grammar.Grammar.{Grammar}
use Rattle.lw_numbers.specs.Numbering.{type_names}
use Rattle.lw_properties.specs.Mixing.{IsFree}
use Rattle.lw_flow.proofs.RowLemmas.{at_length}
use Rattle.lw_types.specs.Seeing.{AreFreeTypes}

kept_before : (flags : List Bool) (b : Bool) (n : ℕ) → n < length flags → slice_get (flags ++ b ∷ []) n ≡ slice_get flags n
kept_before [] b n inside = absurd (omega (arith, inside))
kept_before (f ∷ flags) b zero inside = refl
kept_before (f ∷ flags) b (suc n) inside = kept_before flags b n (omega arith)

-- the first flags are such
pub record FreeBefore (g : Grammar) (count : ℕ) (flags : List Bool) : Type 0 where
  pub all : length flags ≡ count
  pub each : (n : ℕ) (name : List ℕ) → n < count → slice_get (type_names g) n ≡ Some name → IsFree g name ↔ (slice_get flags n ≡ Some true)

pub free_more : (g : Grammar) (count : ℕ) (flags : List Bool) (b : Bool) (name : List ℕ) → FreeBefore g count flags → slice_get (type_names g) count ≡ Some name →
    (b ≡ true) ↔ IsFree g name → FreeBefore g (count + 1) (flags ++ b ∷ [])
free_more g count flags b name known at told = record {
  all = length-append flags (b ∷ []) ∙ omega (arith, known.all);
  each = λ n other inside there. elim (cases_lt n count) [
    | inl before ↦ (
      λ is. kept_before flags b n (omega (arith, known.all, before)) ∙ (known.each n other before there).0 is,
      λ marked. (known.each n other before there).1 (sym (kept_before flags b n (omega (arith, known.all, before))) ∙ marked),
    )
    | inr behind ↦
        let this : n ≡ length flags = omega (arith, known.all, inside, behind) in
        let here : n ≡ count = omega (arith, inside, behind) in
        let end : slice_get (flags ++ b ∷ []) n ≡ Some b = ap (slice_get (flags ++ b ∷ [])) this ∙ at_length flags b [] in
        let same : other ≡ name = same_Some other name (sym there ∙ ap (slice_get (type_names g)) here ∙ at) in (
          λ is. end ∙ ap Some (told.1 (subst (IsFree g) same is)),
          λ marked. subst (IsFree g) (sym same) (told.0 (same_Some b true (sym end ∙ marked))),
        )
  ];
}

pub free_all : (g : Grammar) (flags : List Bool) → FreeBefore g (length (type_names g)) flags → AreFreeTypes g flags
free_all g flags known = record { all = known.all; exact = λ n name there. known.each n name (slice_get_within (type_names g) n name there) there }
