-- Which kinds a set has that grew, in steps or at once.
use Rattle.std.proofs.Common.{◌≡◌, ℕ, zero, suc, List, [], ◌∷◌, ◌++◌, take, length, get_or, ◌+◌, ◌<◌, Contains, ◌⊎◌, inl, inr, ◌↔◌, refl, sym, ap, ◌∙◌, subst, arith}
use Rattle.std.proofs.lemmas.List.{take_more}
use Rattle.std.proofs.lemmas.List.Elements.{Contains-append_left, Contains-append_right, Contains-append_cases}
use Rattle.lw_first.specs.declared.heads.head.Head.{Head}
use Rattle.lw_first.specs.Heads.{kinds_in}
use Rattle.lw_first.specs.Sets.{AddsHeads, IsAmongHeads}

-- ---- among heads

pub among_none : (h : List ℕ) → ¬ IsAmongHeads [] h
among_none h (head, (k, inside, is), same) = absurd (omega arith)

pub among_one : (head : Head) (h : List ℕ) → IsAmongHeads (head ∷ []) h ↔ (h ≡ kinds_in head)
among_one head h = (λ among. of among.0 among.1 among.2, λ same. (head, (zero, omega arith, refl), sym same))
  where
    of : (x : Head) → Contains (head ∷ []) x → kinds_in x ≡ h → h ≡ kinds_in head
    of x (zero, inside, is) same = sym same ∙ ap kinds_in (sym is)
    of x (suc k, inside, is) same = absurd (omega arith)

pub among_joined : (heads more : List Head) (h : List ℕ) → IsAmongHeads (heads ++ more) h ↔ (IsAmongHeads heads h ⊎ IsAmongHeads more h)
among_joined heads more h = (λ among. of among.0 among.2 (Contains-append_cases heads more among.0 among.1), λ either. from either)
  where
    of : (x : Head) → kinds_in x ≡ h → Contains heads x ⊎ Contains more x → IsAmongHeads heads h ⊎ IsAmongHeads more h
    of x same (inl has) = inl (x, has, same)
    of x same (inr has) = inr (x, has, same)

    from : IsAmongHeads heads h ⊎ IsAmongHeads more h → IsAmongHeads (heads ++ more) h
    from (inl (x, has, same)) = (x, Contains-append_left heads more x has, same)
    from (inr (x, has, same)) = (x, Contains-append_right heads more x has, same)

-- ---- added to a set

module _ {P : List ℕ → Type 0} where
  -- the same kinds, said otherwise
  pub adds_as : {Q : List ℕ → Type 0} (old new : List Head) → ((h : List ℕ) → P h ↔ Q h) → AddsHeads P old new → AddsHeads Q old new
  adds_as {Q} old new same adds h = (λ among. into ((adds h).0 among), λ either. (adds h).1 (from either))
    where
      into : IsAmongHeads old h ⊎ P h → IsAmongHeads old h ⊎ Q h
      into (inl was) = inl was
      into (inr is) = inr ((same h).0 is)

      from : IsAmongHeads old h ⊎ Q h → IsAmongHeads old h ⊎ P h
      from (inl was) = inl was
      from (inr is) = inr ((same h).1 is)

  -- those that were in the set stay
  pub adds_keeps : (old new : List Head) → AddsHeads P old new → (h : List ℕ) → IsAmongHeads old h → IsAmongHeads new h
  adds_keeps old new adds h was = (adds h).1 (inl was)

  -- those that are so are in it
  pub adds_all : (old new : List Head) → AddsHeads P old new → (h : List ℕ) → P h → IsAmongHeads new h
  adds_all old new adds h is = (adds h).1 (inr is)

  -- none is so
  pub adds_none : (heads : List Head) → ((h : List ℕ) → ¬ P h) → AddsHeads P heads heads
  adds_none heads none h = (λ among. inl among, λ either. of either)
    where
      of : IsAmongHeads heads h ⊎ P h → IsAmongHeads heads h
      of (inl was) = was
      of (inr is) = absurd (none h is)

  -- to no head
  pub adds_to_none : (new : List Head) → AddsHeads P [] new → (h : List ℕ) → IsAmongHeads new h ↔ P h
  adds_to_none new adds h = (λ among. of ((adds h).0 among), λ is. (adds h).1 (inr is))
    where
      of : IsAmongHeads [] h ⊎ P h → P h
      of (inl was) = absurd (among_none h was)
      of (inr is) = is

  -- those that are so were in the set
  pub adds_known : (heads : List Head) → ((h : List ℕ) → P h → IsAmongHeads heads h) → AddsHeads P heads heads
  adds_known heads known h = (λ among. inl among, λ either. of either)
    where
      of : IsAmongHeads heads h ⊎ P h → IsAmongHeads heads h
      of (inl was) = was
      of (inr is) = known h is

  -- some are added, and then others
  pub adds_then : {Q : List ℕ → Type 0} (old mid new : List Head) → AddsHeads P old mid → AddsHeads Q mid new → AddsHeads (λ h. P h ⊎ Q h) old new
  adds_then {Q} old mid new first second h = (λ among. of ((second h).0 among), λ either. from either)
    where
      early : IsAmongHeads old h ⊎ P h → IsAmongHeads old h ⊎ (P h ⊎ Q h)
      early (inl was) = inl was
      early (inr is) = inr (inl is)

      of : IsAmongHeads mid h ⊎ Q h → IsAmongHeads old h ⊎ (P h ⊎ Q h)
      of (inl was) = early ((first h).0 was)
      of (inr is) = inr (inr is)

      from : IsAmongHeads old h ⊎ (P h ⊎ Q h) → IsAmongHeads new h
      from (inl was) = (second h).1 (inl ((first h).1 (inl was)))
      from (inr (inl is)) = (second h).1 (inl ((first h).1 (inr is)))
      from (inr (inr is)) = (second h).1 (inr is)

-- the heads of a list are added, and then one more
pub adds_push : (old mid new heads : List Head) (head : Head) → AddsHeads (IsAmongHeads heads) old mid → AddsHeads (λ h. h ≡ kinds_in head) mid new →
    AddsHeads (IsAmongHeads (heads ++ head ∷ [])) old new
adds_push old mid new heads head before next = adds_as old new same (adds_then old mid new before next)
  where
    into : (h : List ℕ) → IsAmongHeads heads h ⊎ (h ≡ kinds_in head) → IsAmongHeads heads h ⊎ IsAmongHeads (head ∷ []) h
    into h (inl was) = inl was
    into h (inr is) = inr ((among_one head h).1 is)

    from : (h : List ℕ) → IsAmongHeads heads h ⊎ IsAmongHeads (head ∷ []) h → IsAmongHeads heads h ⊎ (h ≡ kinds_in head)
    from h (inl was) = inl was
    from h (inr one) = inr ((among_one head h).0 one)

    same : (h : List ℕ) → (IsAmongHeads heads h ⊎ (h ≡ kinds_in head)) ↔ IsAmongHeads (heads ++ head ∷ []) h
    same h = (λ either. (among_joined heads (head ∷ []) h).1 (into h either), λ among. from h ((among_joined heads (head ∷ []) h).0 among))

-- the first heads of a list are added, and then the next
pub adds_next : (old mid new heads : List Head) (i : ℕ) (d : Head) → i < length heads → AddsHeads (IsAmongHeads (take i heads)) old mid →
    AddsHeads (λ h. h ≡ kinds_in (get_or heads i d)) mid new → AddsHeads (IsAmongHeads (take (i + 1) heads)) old new
adds_next old mid new heads i d inside before next =
    subst (λ xs. AddsHeads (IsAmongHeads xs) old new) (sym (take_more heads i d inside)) (adds_push old mid new (take i heads) (get_or heads i d) before next)
