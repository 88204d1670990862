-- The ends that stand behind a token, of one reading more.
use Rattle.std.proofs.Common.{◌≡◌, inl, inr, List, [], ◌∷◌, ◌++◌, Any, Contains, sym, ◌∙◌, subst}
use Rattle.std.proofs.lemmas.List.Elements.{Contains-append_left, Contains-push, Contains-push_cases}
use Rattle.lw_program.specs.declared.recipes.mark.TreeMark.{TreeMark}
use Rattle.lw_program.specs.declared.recipes.mark.TreeMark.TheVariants as numbered
use Rattle.lw_viable.specs.Visiting.{AreEnded, EndsWithToken, IsEnded}
use Rattle.lw_viable.proofs.Exploring.{any_cases, any_left, any_of, any_right, the_one}

module _ (all made : List (List TreeMark)) (marks : List TreeMark) (were : AreEnded all made) where
  pub ended_push : (ended : List TreeMark) → EndsWithToken marks → ended ≡ marks ++ numbered.End ∷ [] → AreEnded (all ++ marks ∷ []) (made ++ ended ∷ [])
  ended_push ended token is other = (to, from)
    where
      to : Contains (made ++ ended ∷ []) other → Any (λ marks. IsEnded marks other) (all ++ marks ∷ [])
      to has = elim (Contains-push_cases made ended other has) [
        | inl there ↦ any_left all (marks ∷ []) ((were other).0 there)
        | inr same ↦ any_right all (marks ∷ []) (any_of (λ marks. IsEnded marks other) (marks ∷ []) marks (Contains-push [] marks) (token, sym same ∙ is))
      ]

      from : Any (λ marks. IsEnded marks other) (all ++ marks ∷ []) → Contains (made ++ ended ∷ []) other
      from some = elim (any_cases all (marks ∷ []) some) [
        | inl before ↦ Contains-append_left made (ended ∷ []) other ((were other).1 before)
        | inr last ↦ subst (Contains (made ++ ended ∷ [])) (is ∙ sym (the_one marks last).1) (Contains-push made ended)
      ]

  pub ended_pass : ¬ EndsWithToken marks → AreEnded (all ++ marks ∷ []) made
  ended_pass none other = (
    λ has. any_left all (marks ∷ []) ((were other).0 has),
    λ some. elim (any_cases all (marks ∷ []) some) [ inl before ↦ (were other).1 before | inr last ↦ absurd (none (the_one marks last).0) ],
  )
