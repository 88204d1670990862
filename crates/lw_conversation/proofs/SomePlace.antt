-- What stands at an offset of a tree: the first name or reference of those that pass, found by looking at all of them.
use Rattle.std.proofs.Common.{◌≡◌, ◌<◌, ◌≤◌, ℕ, List, Option, Some, None, length, slice_get, inl, inr, ◌⊎◌, refl, sym, ap, ◌∙◌, subst, arith}
use Rattle.std.proofs.lemmas.Bool.{cases_lt}
use Rattle.std.proofs.lemmas.Option.{same_Some, none-some, slice_get_within}
use Rattle.lw_base.specs.declared.token.Span.{Span}
use Rattle.lw_machine.proofs.Comparing.{same_number}
use Rattle.lw_machine.proofs.Finite.{Decided, Least, below, is_below, least}
use Rattle.lw_places.specs.Places as places
use Rattle.lw_places.specs.Places.{ComesNoLater, Covers, IsFirstPlace, IsJustBehind, IsPlaceAt, NoPlace, TakesUp, name, reference, names, name_first, references}
use Rattle.lw_places.specs.declared.place.Place.{Place}
use Rattle.lw_places.specs.declared.place.Place.TheVariants.{Named, Refers}
use Rattle.lw_tree.specs.declared.node.Reference.{Reference}
use Rattle.lw_tree.specs.Parts.{Parts, name_of}

abbrev NoMore : ℕ → ℕ → Type 0
NoMore a b = a ≤ b

no_more_itself : (x : ℕ) → NoMore x x
no_more_itself x = omega arith

no_more_further : (x y z : ℕ) → NoMore x y → NoMore y z → NoMore x z
no_more_further x y z p q = omega (arith, p, q)

one_no_more : (x y : ℕ) → NoMore x y ⊎ NoMore y x
one_no_more x y = elim (cases_lt x y) [ inl lt ↦ inl (omega (arith, lt)) | inr ge ↦ inr ge ]

module _ (passes : Span → Type 0) (decide : (s : Span) → Decided (passes s)) (tree : Parts) where
  abbrev IsNamePassing : ℕ → Type 0
  IsNamePassing n = (text : List ℕ) × (s : Span) × (n < length tree.nodes) × (name_of tree n ≡ Some (text, s)) × passes s

  abbrev IsReferencePassing : ℕ → Type 0
  IsReferencePassing i = (r : Reference) × (slice_get tree.refs i ≡ Some r) × passes r.span

  name_passes : (n : ℕ) → Decided (IsNamePassing n)
  name_passes n = by (name_of tree n) refl
    where
      check : (text : List ℕ) (s : Span) → name_of tree n ≡ Some (text, s) → Decided (passes s) → (n < length tree.nodes) ⊎ (length tree.nodes ≤ n) →
          Decided (IsNamePassing n)
      check text s is (inl does) (inl lt) = inl (text, s, lt, is, does)
      check text s is (inl does) (inr ge) = inr (λ was. omega (arith, was.2, ge))
      check text s is (inr not) within =
          inr (λ was. not (subst passes (ap (λ (x : List ℕ × Span). x.1) (same_Some {A = List ℕ × Span} (was.0, was.1) (text, s) (sym was.3 ∙ is))) was.4))

      by : (o : Option (List ℕ × Span)) → name_of tree n ≡ o → Decided (IsNamePassing n)
      by None absent = inr (λ was. none-some (was.0, was.1) (sym absent ∙ was.3))
      by (Some (text, s)) is = check text s is (decide s) (cases_lt n (length tree.nodes))

  reference_passes : (i : ℕ) → Decided (IsReferencePassing i)
  reference_passes i = by (slice_get tree.refs i) refl
    where
      check : (r : Reference) → slice_get tree.refs i ≡ Some r → Decided (passes r.span) → Decided (IsReferencePassing i)
      check r is (inl does) = inl (r, is, does)
      check r is (inr not) = inr (λ was. not (subst (λ (x : Reference). passes x.span) (same_Some was.0 r (sym was.1 ∙ is)) was.2))

      by : (o : Option Reference) → slice_get tree.refs i ≡ o → Decided (IsReferencePassing i)
      by None absent = inr (λ was. none-some was.0 (sym absent ∙ was.1))
      by (Some r) is = check r is (decide r.span)

  abbrev FirstOrNone : Type 0
  FirstOrNone = ((p : Place) × IsFirstPlace passes tree p) ⊎ NoPlace passes tree

  first_or_none : FirstOrNone
  first_or_none =
      by (least IsNamePassing NoMore no_more_itself no_more_further one_no_more name_passes (below (length tree.nodes)))
      (least IsReferencePassing NoMore no_more_itself no_more_further one_no_more reference_passes (below (length tree.refs)))
    where
      by : Least IsNamePassing NoMore (below (length tree.nodes)) → Least IsReferencePassing NoMore (below (length tree.refs)) → FirstOrNone
      by (inl (n, is, first)) refs =
          inl (Named (record { 0 = n }), record { span = is.1; takes_up = name is.2 is.3; does = is.4; first = before })
        where
          before : (other : Place) (s : Span) → TakesUp tree other s → passes s → ComesNoLater (Named (record { 0 = n })) other
          before (Named k) s (name {text = t} lt named) does = names (first k.0 (is_below (length tree.nodes) k.0 lt) (t, s, lt, named, does))
          before (Refers i) s takes does = name_first
      by (inr none) (inl (i, is, first)) =
          inl (Refers (record { 0 = i }), record { span = is.0.span; takes_up = reference is.1; does = is.2; first = before })
        where
          before : (other : Place) (s : Span) → TakesUp tree other s → passes s → ComesNoLater (Refers (record { 0 = i })) other
          before (Named k) s (name {text = t} lt named) does = absurd (none k.0 (is_below (length tree.nodes) k.0 lt) (t, s, lt, named, does))
          before (Refers j) s (reference {r = r} at) does =
              references (first j.0 (is_below (length tree.refs) j.0 (slice_get_within tree.refs j.0 r at)) (r, at, does))
      by (inr none) (inr no_more) = inr nothing
        where
          nothing : NoPlace passes tree
          nothing (Named k) s (name {text = t} lt named) does = none k.0 (is_below (length tree.nodes) k.0 lt) (t, s, lt, named, does)
          nothing (Refers j) s (reference {r = r} at) does =
              no_more j.0 (is_below (length tree.refs) j.0 (slice_get_within tree.refs j.0 r at)) (r, at, does)

module _ (tree : Parts) (offset : ℕ) where
  covered : (s : Span) → Decided (Covers offset s)
  covered s = by (cases_lt offset s.start) (cases_lt offset s.end)
    where
      by : (offset < s.start) ⊎ (s.start ≤ offset) → (offset < s.end) ⊎ (s.end ≤ offset) → Decided (Covers offset s)
      by (inl before) end = inr (λ is. omega (arith, before, is.0))
      by (inr from) (inl inside) = inl (from, inside)
      by (inr from) (inr past) = inr (λ is. omega (arith, past, is.1))

  -- a name or a reference stands there, or nothing does
  pub some_place : (place : Option Place) × IsPlaceAt tree offset place
  some_place = by (first_or_none (Covers offset) covered tree) (first_or_none (IsJustBehind offset) (λ s. same_number s.end offset) tree)
    where
      by : FirstOrNone (Covers offset) covered tree → FirstOrNone (IsJustBehind offset) (λ s. same_number s.end offset) tree →
          (place : Option Place) × IsPlaceAt tree offset place
      by (inl (p, is)) behind = (Some p, places.inside is)
      by (inr none) (inl (p, is)) = (Some p, places.at_end none is)
      by (inr none) (inr no_more) = (None, places.nothing none no_more)
