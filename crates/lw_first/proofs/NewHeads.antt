-- Which heads are new, one head after the other.
use Rattle.std.proofs.Common.{◌≡◌, ℕ, ◌+◌, List, [], ◌∷◌, ◌++◌, ◌⊎◌, inl, inr, length, sym, subst, arith}
use Rattle.std.proofs.lemmas.List.{length_push}
use Rattle.lw_first.specs.declared.heads.head.Head.{Head}
use Rattle.lw_first.specs.Heads.{kinds_in}
use Rattle.lw_first.specs.Sets.{AddsHeads, IsAmongHeads}
use Rattle.lw_first.proofs.HeadLemmas.{among_one, among_joined, adds_keeps, adds_all}
use Rattle.lw_first.specs.New.{AreNew}

module _ (start old new fresh : List Head) (head : Head) (was : AreNew fresh start old) (adds : AddsHeads (λ h. h ≡ kinds_in head) old new) where
  -- the head is new
  pub new_more : (more : List Head) → more ≡ fresh ++ head ∷ [] → length new ≡ length old + 1 → AreNew more start new
  new_more more is count = subst (λ xs. AreNew xs start new) (sym is) (record {
    count = omega (arith, was.count, length_push fresh head);
    there = λ h among. in_it h ((among_joined fresh (head ∷ []) h).0 among);
    others = λ h among. from h ((adds h).0 among);
  })
    where
      in_it : (h : List ℕ) → IsAmongHeads fresh h ⊎ IsAmongHeads (head ∷ []) h → IsAmongHeads new h
      in_it h (inl old_one) = adds_keeps old new adds h (was.there h old_one)
      in_it h (inr one) = adds_all old new adds h ((among_one head h).0 one)

      early : (h : List ℕ) → IsAmongHeads start h ⊎ IsAmongHeads fresh h → IsAmongHeads start h ⊎ IsAmongHeads (fresh ++ head ∷ []) h
      early h (inl at_start) = inl at_start
      early h (inr one) = inr ((among_joined fresh (head ∷ []) h).1 (inl one))

      from : (h : List ℕ) → IsAmongHeads old h ⊎ (h ≡ kinds_in head) → IsAmongHeads start h ⊎ IsAmongHeads (fresh ++ head ∷ []) h
      from h (inl old_one) = early h (was.others h old_one)
      from h (inr is) = inr ((among_joined fresh (head ∷ []) h).1 (inr ((among_one head h).1 is)))

  -- the head was there
  pub new_same : (more : List Head) → more ≡ fresh → new ≡ old → AreNew more start new
  new_same more is same = subst (λ xs. AreNew xs start new) (sym is) (subst (AreNew fresh start) (sym same) was)
