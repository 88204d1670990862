-- Whether a path is among those that were seen.
use Rattle.std.proofs.Common.{ℕ, ◌≡◌, Bool, true, false, not, List, [], ◌∷◌, ◌++◌, if◌then◌else◌, Contains, MatchBool, refl, sym, ap, ◌∙◌, subst, true≢false}
use Rattle.std.specs.List.{list_any}
use Rattle.std.specs.Str.{bytes_eq}
use Rattle.std.specs.Cmp.Lexicographic.{nat_list_eq_equiv}
use Rattle.std.proofs.lemmas.Map.Views.{list_any-from_Contains, Contains-from_any}
use Rattle.std.proofs.lemmas.Slice.Eq.{bytes_eq-Decides}

-- by what a set answers
pub seen_cases : (seen : List (List ℕ)) (path : List ℕ) (new : Bool) → new ≡ not (list_any (bytes_eq path) seen) →
    MatchBool new (¬ Contains seen path) (Contains seen path)
seen_cases seen path new e = by (list_any (bytes_eq path) seen) new refl e
  where
    by : (had new : Bool) → list_any (bytes_eq path) seen ≡ had → new ≡ not had → MatchBool new (¬ Contains seen path) (Contains seen path)
    by true true h e = absurd (true≢false e)
    by true false h e = Contains-from_any (λ a b same. (bytes_eq-Decides a b).0 same) path seen h
    by false true h e = λ stands. true≢false (sym (list_any-from_Contains nat_list_eq_equiv path seen stands) ∙ h)
    by false false h e = absurd (true≢false (sym e))

holds_none : (path : List ℕ) → ¬ Contains [] path
holds_none path = λ h. true≢false (sym (list_any-from_Contains nat_list_eq_equiv path [] h))

-- the first that is marked
pub seen_alone : (seen now : List (List ℕ)) (path : List ℕ) → seen ≡ [] → (new : Bool) → MatchBool new (¬ Contains seen path) (Contains seen path) →
    now ≡ (if new then seen ++ path ∷ [] else seen) → now ≡ path ∷ []
seen_alone seen now path none true h keys = keys ∙ ap (λ had. had ++ path ∷ []) none
seen_alone seen now path none false h keys = absurd (holds_none path (subst (λ had. Contains had path) none h))

-- what is known of a path, of which a copy was marked
module _ (seen now : List (List ℕ)) (copy path : List ℕ) (same : copy ≡ path) where
  pub seen_before : (new : Bool) → new ≡ false → MatchBool new (¬ Contains seen copy) (Contains seen copy) → now ≡ (if new then seen ++ copy ∷ [] else seen) →
      Contains seen path × (now ≡ seen)
  seen_before true e h keys = absurd (true≢false e)
  seen_before false e h keys = (subst (Contains seen) same h, keys)

  pub seen_first : (new : Bool) → new ≡ true → MatchBool new (¬ Contains seen copy) (Contains seen copy) → now ≡ (if new then seen ++ copy ∷ [] else seen) →
      (¬ Contains seen path) × (now ≡ seen ++ path ∷ [])
  seen_first true e h keys = (subst (λ p. ¬ Contains seen p) same h, keys ∙ ap (λ p. seen ++ p ∷ []) same)
  seen_first false e h keys = absurd (true≢false (sym e))
