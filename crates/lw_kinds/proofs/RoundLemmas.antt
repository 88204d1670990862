-- Flags stay just as they grow, and in the end they are exact.
use Rattle.std.proofs.Common.{◌≡◌, ℕ, ◌≤◌, List, Bool, true, false, length, set, take, drop, ◌++◌, slice_get, Some, inl, inr, sym, ap, ◌∙◌, subst, arith}
use Rattle.std.proofs.lemmas.Bool.{cases_eq}
use Rattle.std.proofs.lemmas.List.{get_or-set_other}
use Rattle.std.proofs.lemmas.Option.{same_Some, slice_get_within}
use Rattle.std.proofs.Math.Seq.{take-append_seam}
use Rattle.lw_grammar.specs.declared.grammar.Grammar.{Grammar}
use Rattle.lw_grammar.specs.declared.rule.Rule.{Rule}
use Rattle.lw_kinds.specs.Passing.{MayPass, Passes, IsJust, IsSettledAt}
use Rattle.lw_kinds.specs.Rounds.{unset, GrewBelow, GrewOrSettled, AreExact}
use Rattle.lw_kinds.proofs.PassingReads.{element_reads}
use Rattle.lw_kinds.proofs.ReadingPasses.{element_passes}

module _ (g : Grammar) (tokens : Bool) where
  -- one more flag of a rule that passes
  pub just_more : (flags : List Bool) (q : ℕ) (item : Rule) → slice_get g.rules q ≡ Some item → Passes g tokens flags item.body → IsJust g tokens flags →
      IsJust g tokens (set flags q true)
  just_more flags q item there does just r rule at has = elim (cases_eq r q) [
    | inl same ↦ subst (λ (x : Rule). MayPass g tokens x.body) (same_Some item rule (sym there ∙ ap (slice_get g.rules) (sym same) ∙ at)) (element_reads g tokens flags just does)
    | inr differs ↦ just r rule at (sym (get_or-set_other flags q r true false differs) ∙ has)
  ]

  pub settles : (old mid new : List Bool) (grew : Bool) → length mid ≡ length g.rules → unset mid ≤ unset old → GrewBelow g tokens (length mid) mid new grew →
      GrewOrSettled g tokens old new grew
  settles old mid new true size fewer grew = omega (arith, fewer, grew)
  settles old mid new false size fewer grew = λ r rule at.
      subst (λ flags. IsSettledAt g tokens flags r) (sym grew.0) (grew.1 r (omega (arith, size, slice_get_within g.rules r rule at))) rule at

  pub exact : (flags : List Bool) → IsJust g tokens flags → ((r : ℕ) → IsSettledAt g tokens flags r) → AreExact g tokens flags
  exact flags just closed r rule at = (just r rule at, λ may. closed r rule at (element_passes g tokens flags closed may.2 may.1))

  -- exact flags say exactly what elements pass
  pub exact_passes : (flags : List Bool) → AreExact g tokens flags → ((r : ℕ) → IsSettledAt g tokens flags r)
  exact_passes flags are r rule at does = (are r rule at).1 (element_reads g tokens flags (λ q other there. (are q other there).0) does)

-- what a slice of flags leaves in the list that it was lent from
pub written_back : (len : ℕ) (new old : List Bool) → len ≡ length new → take len (new ++ drop (length new) old) ≡ new
written_back len new old is = ap (λ n. take n (new ++ drop (length new) old)) is ∙ take-append_seam new (drop (length new) old)
