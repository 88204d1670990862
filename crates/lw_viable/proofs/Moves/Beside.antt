-- Places side by side: each has the task of its item, and they give what the items yield in order.
use Rattle.std.proofs.Common.{◌≡◌, ℕ, zero, suc, ◌+◌, ◌-◌, ◌<◌, ◌≤◌, List, [], ◌∷◌, Some, All, length, slice_get, refl, sym, subst, inl, inr, arith}
use Rattle.std.proofs.lemmas.List.Elements.{All-nil, All-cons}
use Rattle.std.proofs.lemmas.Option.{slice_get_within, slice_get_cases}
use Rattle.lw_grammar.specs.declared.grammar.Grammar.{Grammar}
use Rattle.lw_grammar.specs.declared.rule.Element.{Element}
use Rattle.lw_grammar.specs.Kinds.{Kinds}
use Rattle.lw_grammar.specs.Marks.{Mark}
use Rattle.lw_grammar.specs.Yields.{YieldsAll}
use Rattle.lw_grammar.specs.Yields as y
use Rattle.lw_look.specs.Sites.{PartSite, ◌▸◌, Body, IsPartAt}
use Rattle.lw_program.specs.Says.{Task, thing_of, StandFrom}
use Rattle.lw_viable.specs.Gives.{PlacesGive}
use Rattle.lw_viable.specs.Gives as gives
use Rattle.lw_viable.specs.Moves.{side_by_side}
use Rattle.lw_viable.proofs.Moves.Giving.{nothing_given, first_given}
use Rattle.lw_viable.proofs.Moves.Doing.{thing_yields, thing_given}

-- what holds at each place
pub all_beside : (P : ℕ → Type 0) (first count : ℕ) → ((i : ℕ) → i < count → P (first + i)) → All P (side_by_side first count)
all_beside P first zero each = All-nil P
all_beside P first (suc count) each =
    All-cons P first (side_by_side (first + 1) count) (subst P here (each 0 (omega arith)))
    (all_beside P (first + 1) count (λ i below. subst P (behind i) (each (suc i) (omega arith))))
  where
    here : first + 0 ≡ first
    here = omega arith

    behind : (i : ℕ) → first + suc i ≡ first + 1 + i
    behind i = omega arith

-- the item whose task a place has
pub record ItemAt {X : Type 0} (tasks : List Task) (task : ℕ → X → Task) (items : List X) (place : ℕ) : Type 0 where
  pub number : ℕ
  pub item : X
  pub at : slice_get items number ≡ Some item
  pub has : slice_get tasks place ≡ Some (task number item)

module _ {X : Type 0} (tasks : List Task) (task : ℕ → X → Task) (items : List X) (first end : ℕ) (stand : StandFrom tasks task items first end) where
  pub so_many : end - first ≡ length items
  so_many = let sized = stand.sized in omega arith

  pub each_item : (i : ℕ) → i < end - first → ItemAt tasks task items (first + i)
  each_item i below = elim (slice_get_cases items i).1 [
    | inl (x, inside, at, is) ↦ record { number = i; item = x; at = at; has = stand.each i x at }
    | inr (past, none) ↦ absurd (let many = so_many in omega arith)
  ]

  pub item_at : (w : ℕ) → first ≤ w → w < end → ItemAt tasks task items w
  item_at w from below =
      let there : first + (w - first) ≡ w = omega arith in
      subst (ItemAt tasks task items) there (each_item (w - first) (omega arith))

  -- the place of an item
  pub place_at : (i : ℕ) (x : X) → slice_get items i ≡ Some x → (first ≤ first + i) × (first + i < end)
  place_at i x at = let inside = slice_get_within items i x at in let sized = stand.sized in omega arith

-- a row of elements
module _ (g : Grammar) (kinds : Kinds) (tasks : List Task) (s : PartSite) where
  -- from the item of this number on, elements stand in the grammar and their tasks at places side by side
  record RowStands (i first : ℕ) (es : List Element) : Type 0 where
    part : (j : ℕ) (e : Element) → slice_get es j ≡ Some e → IsPartAt g (s ▸ (i + j)) (Body e)
    has : (j : ℕ) (e : Element) → slice_get es j ≡ Some e → slice_get tasks (first + j) ≡ Some (thing_of (s ▸ (i + j)) e)

  first_part : {i first : ℕ} {e : Element} {es : List Element} → RowStands i first (e ∷ es) →
      IsPartAt g (s ▸ i) (Body e) × (slice_get tasks first ≡ Some (thing_of (s ▸ i) e))
  first_part {i} {first} {e} stand = (
    subst (λ i. IsPartAt g (s ▸ i) (Body e)) at (stand.part 0 e refl),
    subst (λ i. slice_get tasks first ≡ Some (thing_of (s ▸ i) e)) at
        (subst (λ p. slice_get tasks p ≡ Some (thing_of (s ▸ (i + 0)) e)) here (stand.has 0 e refl)),
  )
    where
      at : i + 0 ≡ i
      at = omega arith

      here : first + 0 ≡ first
      here = omega arith

  other_parts : {i first : ℕ} {e : Element} {es : List Element} → RowStands i first (e ∷ es) → RowStands (i + 1) (first + 1) es
  other_parts {i} {first} {es} stand = record {
    part = λ j f is. subst (λ k. IsPartAt g (s ▸ k) (Body f)) (behind i j) (stand.part (suc j) f is);
    has = λ j f is.
        subst (λ k. slice_get tasks (first + 1 + j) ≡ Some (thing_of (s ▸ k) f)) (behind i j)
        (subst (λ p. slice_get tasks p ≡ Some (thing_of (s ▸ (i + suc j)) f)) (behind first j) (stand.has (suc j) f is));
  }
    where
      behind : (i j : ℕ) → i + suc j ≡ i + 1 + j
      behind i j = omega arith

  row_yields : (i first : ℕ) (es : List Element) {m : List Mark} → RowStands i first es → PlacesGive g kinds tasks (side_by_side first (length es)) m →
      YieldsAll g kinds es m
  row_yields i first [] stand give = subst (YieldsAll g kinds []) (sym (nothing_given g kinds tasks give)) y.none
  row_yields i first (e ∷ es) stand give =
      let (stands, has) = first_part stand in
      let one = first_given g kinds tasks has give in
      subst (YieldsAll g kinds (e ∷ es)) (sym one.are)
      (y.more (thing_yields g kinds stands one.does) (row_yields (i + 1) (first + 1) es (other_parts stand) one.give))

  row_given : (i first : ℕ) {es : List Element} {m : List Mark} → RowStands i first es → YieldsAll g kinds es m →
      PlacesGive g kinds tasks (side_by_side first (length es)) m
  row_given i first stand y.none = gives.nothing
  row_given i first stand (y.more p ps) =
      let (stands, has) = first_part stand in gives.more has (thing_given g kinds stands p) (row_given (i + 1) (first + 1) (other_parts stand) ps)

  module _ {es : List Element} {first end : ℕ} (parts : (j : ℕ) (e : Element) → slice_get es j ≡ Some e → IsPartAt g (s ▸ j) (Body e))
      (stand : StandFrom tasks (λ i e. thing_of (s ▸ i) e) es first end) where
    all_stand : RowStands 0 first es
    all_stand = record {
      part = λ j e is. subst (λ k. IsPartAt g (s ▸ k) (Body e)) (at j) (parts j e is);
      has = λ j e is. subst (λ k. slice_get tasks (first + j) ≡ Some (thing_of (s ▸ k) e)) (at j) (stand.each j e is);
    }
      where
        at : (j : ℕ) → j ≡ 0 + j
        at j = omega arith

    many : length es ≡ end - first
    many = sym (so_many tasks (λ i e. thing_of (s ▸ i) e) es first end stand)

    -- the places of a row give what the row yields, and nothing else
    pub beside_yield : {m : List Mark} → PlacesGive g kinds tasks (side_by_side first (end - first)) m → YieldsAll g kinds es m
    beside_yield {m} give = row_yields 0 first es all_stand (subst (λ n. PlacesGive g kinds tasks (side_by_side first n) m) (sym many) give)

    pub beside_given : {m : List Mark} → YieldsAll g kinds es m → PlacesGive g kinds tasks (side_by_side first (end - first)) m
    beside_given {m} all = subst (λ n. PlacesGive g kinds tasks (side_by_side first n) m) many (row_given 0 first all_stand all)
