-- The sets before any rule is gone through: only the entry rule has a head.
use Rattle.std.proofs.Common.{◌≡◌, ℕ, List, [], slice_get, slice_set, replicate, Some, inl, inr, sym, ap, ◌∙◌, subst}
use Rattle.std.proofs.lemmas.Bool.{cases_eq}
use Rattle.std.proofs.lemmas.Option.{same_Some}
use Rattle.lw_grammar.specs.declared.grammar.Grammar.{Grammar}
use Rattle.lw_grammar.specs.declared.rule.Rule.{Rule}
use Rattle.lw_grammar.specs.Named.{IsEntry}
use Rattle.lw_grammar.proofs.FirstLemmas.{first_place}
use Rattle.lw_first.specs.declared.heads.head.Head.{Head}
use Rattle.lw_first.specs.Sets.{AddsHeads, IsAmongHeads, IsInSet}
use Rattle.lw_first.proofs.HeadLemmas.{among_none}
use Rattle.lw_first.specs.FollowRounds.{AreFirstAfters}
use Rattle.lw_first.proofs.Putting.{get_replicate, get_set_other, get_set_same}

in_no_set : (count r : ℕ) (h : List ℕ) → IsInSet (replicate count []) r h → ⊥
in_no_set count r h (set, there, among) = among_none h (subst (λ heads. IsAmongHeads heads h) (get_replicate count [] r set there) among)

module _ (g : Grammar) (count : ℕ) where
  pub one_first : (entry : ℕ) → (rule : Rule) × IsEntry g entry rule → (set : List Head) → slice_get (replicate {A = List Head} count []) entry ≡ Some [] →
      AddsHeads (λ h. h ≡ []) [] set → AreFirstAfters g (slice_set (replicate count []) entry set)
  one_first entry (rule, is) set at adds r h = (forth, back)
    where
      here : slice_get (slice_set (replicate count []) entry set) entry ≡ Some set
      here = get_set_same (replicate count []) entry set [] at

      ended : IsAmongHeads set h → h ≡ []
      ended among = elim ((adds h).0 among) [ inl was ↦ absurd (among_none h was) | inr same ↦ same ]

      forth : IsInSet (slice_set (replicate count []) entry set) r h → (item : Rule) × IsEntry g r item × (h ≡ [])
      forth (other, there, among) = elim (cases_eq r entry) [
        | inl same ↦ (
          rule,
          subst (λ n. IsEntry g n rule) (sym same) is,
          ended (subst (λ heads. IsAmongHeads heads h) (same_Some other set (sym there ∙ ap (slice_get (slice_set (replicate count []) entry set)) same ∙ here)) among),
        )
        | inr differs ↦ absurd (in_no_set count r h (other, sym (get_set_other (replicate count []) entry r set differs) ∙ there, among))
      ]

      back : (item : Rule) × IsEntry g r item × (h ≡ []) → IsInSet (slice_set (replicate count []) entry set) r h
      back (item, was, same) = (set, ap (slice_get (slice_set (replicate count []) entry set)) (first_place was is) ∙ here, (adds h).1 (inr same))
