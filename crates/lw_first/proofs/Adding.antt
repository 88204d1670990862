-- Heads that are put into a set for one item of a list after the other.
use Rattle.std.proofs.Common.{◌≡◌, ℕ, ◌+◌, ◌<◌, List, [], ◌∷◌, ◌++◌, Contains, ◌⊎◌, inl, inr, ◌↔◌, take, length, get_or, refl, sym, ap, ◌∙◌, subst}
use Rattle.std.proofs.lemmas.List.{take_more, get_or_default}
use Rattle.std.proofs.lemmas.List.Elements.{Contains-append_left, Contains-push, Contains-push_cases}
use Rattle.lw_first.specs.declared.heads.head.Head.{Head}
use Rattle.lw_first.specs.Heads.{kinds_in}
use Rattle.lw_first.specs.Sets.{AddsHeads, IsAmongHeads}
use Rattle.lw_first.proofs.HeadLemmas.{adds_as, adds_then}

pub ↔-sym : {P Q : Type 0} → P ↔ Q → Q ↔ P
↔-sym same = (same.1, same.0)

module _ {X : Type 0} (P : X → List ℕ → Type 0) where
  -- it is so of one of the items
  abbrev pub SomeOf : List X → List ℕ → Type 0
  SomeOf xs h = (x : X) × Contains xs x × P x h

  pub some_next : (xs : List X) (i : ℕ) (x : X) → i < length xs → x ≡ get_or xs i x → (old mid new : List Head) → AddsHeads (SomeOf (take i xs)) old mid →
      AddsHeads (P x) mid new → AddsHeads (SomeOf (take (i + 1) xs)) old new
  some_next xs i x inside is old mid new before next = subst (λ ys. AddsHeads (SomeOf ys) old new) (sym more) (adds_as old new same (adds_then old mid new before next))
    where
      more : take (i + 1) xs ≡ take i xs ++ x ∷ []
      more = take_more xs i x inside ∙ ap (λ y. take i xs ++ y ∷ []) (sym is)

      into : (h : List ℕ) → SomeOf (take i xs) h ⊎ P x h → SomeOf (take i xs ++ x ∷ []) h
      into h (inl (y, has, does)) = (y, Contains-append_left (take i xs) (x ∷ []) y has, does)
      into h (inr does) = (x, Contains-push (take i xs) x, does)

      by : (h : List ℕ) (y : X) → P y h → Contains (take i xs) y ⊎ (x ≡ y) → SomeOf (take i xs) h ⊎ P x h
      by h y does (inl has) = inl (y, has, does)
      by h y does (inr is) = inr (subst (λ z. P z h) (sym is) does)

      same : (h : List ℕ) → (SomeOf (take i xs) h ⊎ P x h) ↔ SomeOf (take i xs ++ x ∷ []) h
      same h = (into h, λ (y, has, does). by h y does (Contains-push_cases (take i xs) x y has))

-- some head is so, said of the head and of its kinds
some_head : (Q : List ℕ → List ℕ → Type 0) (heads : List Head) (h : List ℕ) → SomeOf (λ head. Q (kinds_in head)) heads h ↔ ((a : List ℕ) × IsAmongHeads heads a × Q a h)
some_head Q heads h = (λ (head, has, does). (kinds_in head, (head, has, refl), does), λ (a, (head, has, is), does). (head, has, subst (λ ks. Q ks h) (sym is) does))

module _ (Q : List ℕ → List ℕ → Type 0) where
  -- it is so of one of the heads
  abbrev pub SomeHead : List Head → List ℕ → Type 0
  SomeHead heads h = (a : List ℕ) × IsAmongHeads heads a × Q a h

  pub head_next : (heads : List Head) (i : ℕ) (d : Head) → i < length heads → (old mid new : List Head) → AddsHeads (SomeHead (take i heads)) old mid →
      AddsHeads (Q (kinds_in (get_or heads i d))) mid new → AddsHeads (SomeHead (take (i + 1) heads)) old new
  head_next heads i d inside old mid new before next =
      adds_as old new (some_head Q (take (i + 1) heads))
      (some_next (λ head. Q (kinds_in head)) heads i (get_or heads i d) inside (get_or_default heads i d (get_or heads i d) inside) old mid new
      (adds_as old mid (λ h. ↔-sym (some_head Q (take i heads) h)) before) next)
