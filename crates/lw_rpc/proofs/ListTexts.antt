-- The compact texts of lists and objects, whose parts are written one after another with a comma between two of them.
use Rattle.std.proofs.Common.{◌≡◌, ℕ, List, [], ◌∷◌, ◌++◌, map, Bool, true, false, refl, ap, sym, ◌∙◌, append_assoc}
use Rattle.std.specs.List.{join_with_byte}
use Rattle.json.specs.Print.{quoted}
use Rattle.serde_json.specs.Data.{Data}
use Rattle.serde_json.specs.View.{items_of}
use Rattle.serde_json.specs.Written.{comma_if, compact_text, items_text, members_text}
use Rattle.lw_rpc.proofs.OrderLemmas.{members_as}

without_comma : (s t : List ℕ) → 44 ∷ s ≡ 44 ∷ t → s ≡ t
without_comma s t same = cc

module _ {A : Type 0} (value : A → Data) (text : A → List ℕ) (each : (a : A) → compact_text (value a) ≡ text a) where
  -- with their commas, after the first
  later_items : (a : A) (others : List A) → items_text true (items_of (map value (a ∷ others))) ≡ 44 ∷ (join_with_byte 44 (map text (a ∷ others)) ++ 93 ∷ [])
  later_items a [] = ap (λ t. 44 ∷ (t ++ 93 ∷ [])) (each a)
  later_items a (next ∷ others) =
      ap (λ t. 44 ∷ (t ++ items_text true (items_of (map value (next ∷ others))))) (each a)
      ∙ ap (λ t. 44 ∷ (text a ++ t)) (later_items next others)
      ∙ ap (λ t. 44 ∷ t) (sym (append_assoc (text a) (44 ∷ join_with_byte 44 (map text (next ∷ others))) (93 ∷ [])))

  pub items_text-map : (list : List A) → items_text false (items_of (map value list)) ≡ join_with_byte 44 (map text list) ++ 93 ∷ []
  items_text-map [] = refl
  items_text-map (a ∷ others) = without_comma _ _ (later_items a others)

module _ {A : Type 0} (made : A → List ℕ × Data) (text : A → List ℕ) (each : (a : A) → quoted (made a).0 ++ 58 ∷ compact_text (made a).1 ≡ text a) where
  one_member : (a : A) (behind : List ℕ) → quoted (made a).0 ++ 58 ∷ (compact_text (made a).1 ++ behind) ≡ text a ++ behind
  one_member a behind = sym (append_assoc (quoted (made a).0) (58 ∷ compact_text (made a).1) behind) ∙ ap (λ t. t ++ behind) (each a)

  -- with their commas, after the first
  later_members : (a : A) (others : List A) → members_text true (members_as (map made (a ∷ others))) ≡ 44 ∷ (join_with_byte 44 (map text (a ∷ others)) ++ 125 ∷ [])
  later_members a [] = ap (λ t. 44 ∷ t) (one_member a (125 ∷ []))
  later_members a (next ∷ others) =
      ap (λ t. 44 ∷ t) (one_member a (members_text true (members_as (map made (next ∷ others)))))
      ∙ ap (λ t. 44 ∷ (text a ++ t)) (later_members next others)
      ∙ ap (λ t. 44 ∷ t) (sym (append_assoc (text a) (44 ∷ join_with_byte 44 (map text (next ∷ others))) (125 ∷ [])))

  pub members_text-map : (list : List A) → members_text false (members_as (map made list)) ≡ join_with_byte 44 (map text list) ++ 125 ∷ []
  members_text-map [] = refl
  members_text-map (a ∷ others) = without_comma _ _ (later_members a others)

-- whether something stands before what comes behind these
abbrev pub is_later : {A : Type 0} → List A → Bool
is_later [] = false
is_later (a ∷ others) = true

pub is_later-push : {A : Type 0} (list : List A) (a : A) → is_later (list ++ a ∷ []) ≡ true
is_later-push [] a = refl
is_later-push (b ∷ others) a = refl

module _ {A : Type 0} (text : A → List ℕ) where
  -- one text more, with its comma
  pub join_with_byte-push : (list : List A) (a : A) → join_with_byte 44 (map text (list ++ a ∷ [])) ≡ join_with_byte 44 (map text list) ++ (comma_if (is_later list) ++ text a)
  join_with_byte-push [] a = refl
  join_with_byte-push (b ∷ []) a = refl
  join_with_byte-push (b ∷ c ∷ others) a =
      ap (λ t. text b ++ 44 ∷ t) (join_with_byte-push (c ∷ others) a)
      ∙ sym (append_assoc (text b) (44 ∷ join_with_byte 44 (map text (c ∷ others))) (44 ∷ text a))
