-- What is behind the parts of a row, found from the last part to the first.
use Rattle.std.proofs.Common.{◌≡◌, ℕ, zero, suc, ◌+◌, ◌-◌, ◌<◌, ◌≤◌, ◌↔◌, List, [], ◌∷◌, ◌++◌, Some, length, slice_get, drop, reverse, ◌⊎◌, inl, inr, refl, sym, ap, ◌∙◌, subst, arith}
use Rattle.std.proofs.lemmas.Bool.{cases_eq}
use Rattle.std.proofs.lemmas.List.{get_or-reverse, length-reverse, length_push, drop_all}
use Rattle.std.proofs.lemmas.Option.{same_Some, none-some, slice_get_read, get_or_from_slice_get}
use Rattle.lw_grammar.specs.declared.grammar.Grammar.{Grammar}
use Rattle.lw_grammar.specs.declared.rule.Element.{Element}
use Rattle.lw_grammar.specs.Kinds.{Kinds}
use Rattle.lw_look.specs.Sites.{Body}
use Rattle.lw_look.specs.Heads.{RowCan}
use Rattle.lw_look.specs.Heads as head
use Rattle.lw_first.specs.declared.heads.head.Head.{Head}
use Rattle.lw_first.specs.Sets.{IsAmongHeads, IsInSet}
use Rattle.lw_first.specs.Before.{CanBefore, RowCanBefore}
use Rattle.lw_first.specs.Followed.{AreBehind}
use Rattle.lw_first.specs.Rows.{AreFoundBehind}

-- ---- sets in a list with one more at its end, and turned round

module _ {A : Type 0} where
  get_end : (xs : List A) (x : A) (n : ℕ) (y : A) → slice_get (xs ++ x ∷ []) n ≡ Some y → (slice_get xs n ≡ Some y) ⊎ ((n ≡ length xs) × (y ≡ x))
  get_end [] x zero y is = inr (refl, sym (same_Some x y is))
  get_end [] x (suc n) y is = absurd (none-some y is)
  get_end (z ∷ xs) x zero y is = inl is
  get_end (z ∷ xs) x (suc n) y is = elim (get_end xs x n y is) [ inl before ↦ inl before | inr (last, same) ↦ inr (ap suc last, same) ]

  get_before : (xs : List A) (x : A) (n : ℕ) (y : A) → slice_get xs n ≡ Some y → slice_get (xs ++ x ∷ []) n ≡ Some y
  get_before [] x n y is = absurd (none-some y is)
  get_before (z ∷ xs) x zero y is = is
  get_before (z ∷ xs) x (suc n) y is = get_before xs x n y is

  get_last : (xs : List A) (x : A) → slice_get (xs ++ x ∷ []) (length xs) ≡ Some x
  get_last [] x = refl
  get_last (z ∷ xs) x = get_last xs x

  get_reverse : (xs : List A) (i : ℕ) (x : A) → i < length xs → slice_get xs (length xs - 1 - i) ≡ Some x → slice_get (reverse xs) i ≡ Some x
  get_reverse xs i x inside is =
      slice_get_read (reverse xs) (length xs) i x (sym (length-reverse xs)) inside (sym (get_or-reverse xs i x inside ∙ get_or_from_slice_get xs (length xs - 1 - i) x x is))

  get_reversed : (xs : List A) (i : ℕ) (x : A) → i < length xs → slice_get (reverse xs) i ≡ Some x → slice_get xs (length xs - 1 - i) ≡ Some x
  get_reversed xs i x inside is =
      slice_get_read xs (length xs) (length xs - 1 - i) x refl (omega arith) (sym (get_or_from_slice_get (reverse xs) i x x is) ∙ get_or-reverse xs i x inside)

module _ (g : Grammar) (kinds : Kinds) (k : ℕ) (heads : List (List Head)) (parts : List Element) (after : List Head) where
  -- what may come in front of the part at this place, where it is known what is behind it
  pub one_more_part : (place : ℕ) (part : Element) (behind before : List Head) → drop place parts ≡ part ∷ drop (place + 1) parts →
      ((h : List ℕ) → IsAmongHeads behind h ↔ RowCanBefore g kinds k heads (drop (place + 1) parts) after h) →
      ((h : List ℕ) → IsAmongHeads before h ↔ CanBefore g kinds k heads (Body part) behind h) →
      (h : List ℕ) → IsAmongHeads before h ↔ RowCanBefore g kinds k heads (drop place parts) after h
  one_more_part place part behind before left are is h =
      (λ among. subst (λ es. RowCanBefore g kinds k heads es after h) (sym left) (forth ((is h).0 among)), λ can. (is h).1 (back (subst (λ es. RowCanBefore g kinds k heads es after h) left can)))
    where
      forth : CanBefore g kinds k heads (Body part) behind h → RowCanBefore g kinds k heads (part ∷ drop (place + 1) parts) after h
      forth (b, among, can) = let (a, first, row) = (are b).0 among in (a, first, head.more row can)

      back_row : {a : List ℕ} → IsAmongHeads after a → RowCan g kinds k (IsInSet heads) (part ∷ drop (place + 1) parts) a h → CanBefore g kinds k heads (Body part) behind h
      back_row {a} among (head.more {b} row can) = (b, (are b).1 (a, among, row), can)

      back : RowCanBefore g kinds k heads (part ∷ drop (place + 1) parts) after h → CanBefore g kinds k heads (Body part) behind h
      back (a, among, row) = back_row among row

  -- behind the last part stand the heads behind the row
  pub none_behind : (place : ℕ) → length parts ≤ place → (behind : List Head) → ((h : List ℕ) → IsAmongHeads behind h ↔ IsAmongHeads after h) →
      (h : List ℕ) → IsAmongHeads behind h ↔ RowCanBefore g kinds k heads (drop place parts) after h
  none_behind place past behind same h = (
    λ among. subst (λ es. RowCanBefore g kinds k heads es after h) (sym (drop_all place parts past)) (h, (same h).0 among, head.none),
    λ (a, among, row).
        (same h).1 (back (subst (λ es. RowCan g kinds k (IsInSet heads) es a h) (drop_all place parts past) row) among),
  )
    where
      back : {a : List ℕ} → RowCan g kinds k (IsInSet heads) [] a h → IsAmongHeads after a → IsAmongHeads after h
      back head.none among = among

  pub found_none : AreFoundBehind g kinds k heads parts after []
  found_none i h inside = absurd (omega arith)

  -- one more set is found
  pub found_more : (sets : List (List Head)) (set : List Head) → AreFoundBehind g kinds k heads parts after sets →
      ((h : List ℕ) → IsAmongHeads set h ↔ RowCanBefore g kinds k heads (drop (length parts - length sets) parts) after h) →
      AreFoundBehind g kinds k heads parts after (sets ++ set ∷ [])
  found_more sets set are is i h inside = elim (cases_eq i (length sets)) [
    | inl last ↦ (
      λ (other, there, among). subst (λ n. RowCanBefore g kinds k heads (drop (length parts - n) parts) after h) (sym last)
          ((is h).0 (subst (λ xs. IsAmongHeads xs h) (same_Some other set (sym there ∙ ap (slice_get (sets ++ set ∷ [])) last ∙ get_last sets set)) among)),
      λ can. (
        set,
        ap (slice_get (sets ++ set ∷ [])) last ∙ get_last sets set,
        (is h).1 (subst (λ n. RowCanBefore g kinds k heads (drop (length parts - n) parts) after h) last can),
      ),
    )
    | inr differs ↦
        let size = length_push sets set in
        let sooner : i < length sets = omega arith in (
          λ (other, there, among). (are i h sooner).0 (elim (get_end sets set i other there) [
            | inl before ↦ (other, before, among)
            | inr (last, same) ↦ absurd (differs last)
          ]),
          λ can. let (other, there, among) = (are i h sooner).1 can in (other, get_before sets set i other there, among),
        )
  ]

  -- once each set is found they are turned round
  pub all_found : (sets : List (List Head)) → length sets ≡ length parts → AreFoundBehind g kinds k heads parts after sets →
      AreBehind g kinds k heads parts after (reverse sets)
  all_found sets size are = record { all = length-reverse sets ∙ size; each = each }
    where
      each : (i : ℕ) (h : List ℕ) → i < length parts → IsInSet (reverse sets) i h ↔ RowCanBefore g kinds k heads (drop (i + 1) parts) after h
      each i h inside =
          let within : i < length sets = omega arith in
          let from_end : length sets - 1 - i < length sets = omega arith in
          let same : length parts - (length sets - 1 - i) ≡ i + 1 = omega arith in (
            λ (set, there, among). subst (λ n. RowCanBefore g kinds k heads (drop n parts) after h) same
                ((are (length sets - 1 - i) h from_end).0 (set, get_reversed sets i set within there, among)),
            λ can.
                let (set, there, among) = (are (length sets - 1 - i) h from_end).1 (subst (λ n. RowCanBefore g kinds k heads (drop n parts) after h) (sym same) can) in
                (set, get_reverse sets i set within there, among),
          )
