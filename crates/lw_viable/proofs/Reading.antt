-- The list of a cell is its item before the list of the number that it names, which is less.
use Rattle.std.proofs.Common.{◌≡◌, ℕ, ◌+◌, ◌<◌, ◌≤◌, List, [], ◌∷◌, ◌++◌, Some, length, reverse, slice_get, map, option_map, refl, sym, ap, ◌∙◌, subst, arith, inl, inr}
use Rattle.std.proofs.lemmas.List.{length-append, length-reverse, reverse-append, reverse-reverse, length-map, get_or_append_left, get_or-append-add}
use Rattle.std.proofs.lemmas.Option.{slice_get_within, slice_get-get_or, get_or_from_slice_get, slice_get-map, same_Some}
use Rattle.std.proofs.lemmas.Bool.{cases_lt}
use Rattle.std.proofs.lemmas.Bool.Decides.{nat_tests}
use Rattle.lw_viable.specs.Chains.{chain}

slice_get_before : {X : Type 0} (xs ys : List X) (i : ℕ) → i < length xs → (d : X) → slice_get (xs ++ ys) i ≡ slice_get xs i
slice_get_before xs ys i below d =
    let long = length-append xs ys in
    let inside : i < length (xs ++ ys) = omega (arith, below, long) in
    slice_get-get_or (xs ++ ys) i d inside ∙ ap Some (get_or_append_left xs ys d i below) ∙ sym (slice_get-get_or xs i d below)

slice_get_after : {X : Type 0} (xs ys : List X) (i : ℕ) (y : X) → slice_get ys i ≡ Some y → slice_get (xs ++ ys) (length xs + i) ≡ Some y
slice_get_after xs ys i y is =
    let below = slice_get_within ys i y is in
    let long = length-append xs ys in
    let inside : length xs + i < length (xs ++ ys) = omega (arith, below, long) in
    slice_get-get_or (xs ++ ys) (length xs + i) y inside ∙ ap Some (get_or-append-add xs ys i y ∙ get_or_from_slice_get ys i y y is)

beside : {X : Type 0} (cell : X × ℕ) (older : List (X × ℕ)) (link : ℕ) → link ≤ length older → chain (cell ∷ older) link ≡ chain older link
beside cell older link below = grind (arith, nat_tests)

at_latest : {X : Type 0} (cell : X × ℕ) (older : List (X × ℕ)) (link : ℕ) → link ≡ length older + 1 → chain (cell ∷ older) link ≡ cell.0 ∷ chain older cell.1
at_latest cell older link same = grind (arith, nat_tests)

pub none_at_zero : {X : Type 0} (cells : List (X × ℕ)) (link : ℕ) → link ≡ 0 → chain cells link ≡ []
none_at_zero [] link is = refl
none_at_zero (cell ∷ older) link is = beside cell older link (omega arith) ∙ none_at_zero older link is

past : {X : Type 0} (cell : X × ℕ) (older : List (X × ℕ)) (link : ℕ) → length older + 1 < link → chain (cell ∷ older) link ≡ chain older link
past cell older link more = grind (arith, nat_tests)

none_past_all : {X : Type 0} (cells : List (X × ℕ)) (link : ℕ) → length cells < link → chain cells link ≡ []
none_past_all [] link more = refl
none_past_all (cell ∷ older) link more = past cell older link (omega arith) ∙ none_past_all older link (omega arith)

-- the cell of a number, among cells where the latest stands first
pub record Reads {X : Type 0} (cells : List (X × ℕ)) (place : ℕ) (cell : X × ℕ) : Type 0 where
  pub list : chain cells (place + 1) ≡ cell.0 ∷ chain cells cell.1
  pub below : place < length cells

read_at : {X : Type 0} (cells : List (X × ℕ)) (place : ℕ) (cell : X × ℕ) → slice_get (reverse cells) place ≡ Some cell → cell.1 ≤ place → Reads cells place cell
read_at [] place cell is less = absurd (omega (arith, slice_get_within [] place cell is))
read_at {X} (latest ∷ older) place cell is less =
    elim (cases_lt place (length older)) [
      | inl before ↦
          let there = read_at older place cell (sym (slice_get_before (reverse older) (latest ∷ []) place (omega (arith, length-reverse older)) cell) ∙ behind) less in
          record {
            list = beside latest older (place + 1) (omega arith) ∙ there.list ∙ ap (λ below. cell.0 ∷ below) (sym (beside latest older cell.1 (omega arith)));
            below = omega arith;
          }
      | inr here ↦
          let found = slice_get_within (reverse older ++ latest ∷ []) place cell behind in
          let same : place ≡ length older = omega (arith, here, found, length-append (reverse older) (latest ∷ []), length-reverse older) in
          let is_latest = same_latest same in
          record {
            list = at_latest latest older (place + 1) (omega arith) ∙
                latest_list is_latest ∙ ap (λ below. cell.0 ∷ below) (sym (beside latest older cell.1 (omega arith)));
            below = omega arith;
          }
    ]
  where
    behind : slice_get (reverse older ++ latest ∷ []) place ≡ Some cell
    behind = sym (ap (λ cells. slice_get cells place) (reverse-append (latest ∷ []) older)) ∙ is

    same_latest : place ≡ length older → cell ≡ latest
    same_latest same =
        same_Some cell latest (sym behind ∙ ap (slice_get (reverse older ++ latest ∷ [])) (omega (arith, same, length-reverse older)) ∙ slice_get_after (reverse older) (latest ∷ []) 0 latest refl)

    latest_list : cell ≡ latest → latest.0 ∷ chain older latest.1 ≡ cell.0 ∷ chain older cell.1
    latest_list is_latest = subst (λ (c : X × ℕ). latest.0 ∷ chain older latest.1 ≡ c.0 ∷ chain older c.1) (sym is_latest) refl

-- cells as they are kept, the latest behind
module _ {C X : Type 0} (seen : C → X × ℕ) (kept : List C) (cells : List (X × ℕ)) (are : reverse (map seen kept) ≡ cells) where
  turned : reverse cells ≡ map seen kept
  turned = ap reverse (sym are) ∙ reverse-reverse (map seen kept)

  pub read_kept : (place : ℕ) (cell : C) → slice_get kept place ≡ Some cell → (seen cell).1 ≤ place → Reads cells place (seen cell)
  read_kept place cell is less =
      read_at cells place (seen cell) (ap (λ cells. slice_get cells place) turned ∙ slice_get-map seen kept place ∙ ap (option_map seen) is) less

  pub none_past_kept : (link : ℕ) → length kept < link → chain cells link ≡ []
  none_past_kept link more =
      none_past_all cells link (omega (arith, more, ap length are, length-reverse (map seen kept), length-map kept seen))
