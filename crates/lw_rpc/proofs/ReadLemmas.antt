-- The compact text of a value reads back as it.
use Rattle.std.proofs.Common.{◌≡◌, ◌≤◌, ◌<◌, ◌^◌, ℕ, ℤ, pos, negsuc, suc, max, List, [], ◌∷◌, map, Bool, All, Option, Some, option_map, option_and_then, refl, ap, ap₂, sym, subst, ◌∙◌, append-nil, arith}
use lib.Signed.{mag}
use Rattle.json.specs.Lex.{tokens}
use Rattle.json.specs.Token.{Token}
use Rattle.json.specs.Json as json
use Rattle.json.specs.Tree as tree
use Rattle.json.specs.Tree.{json_tokens, ItemsHaveNumbers, MembersHaveNumbers}
use Rattle.json.proofs.Printed.Decimals.{IsNumber-decimal, IsNumber-signed_decimal}
use Rattle.json.proofs.Printed.Tokens.{tokens-print}
use Rattle.json.proofs.Printed.Trees.{value-json_tokens, ArePrintable-json_tokens}
use Rattle.serde_json.proofs.Numbers.{number_of-decimal, number_of-negative}
use Rattle.serde_json.proofs.Texts.{print-outline}
use Rattle.serde_json.specs.Data.{Data, null, boolean, number, string, array, object, Items, no_items, item, Members, no_members, member, put, depth, items_depth, members_depth}
use Rattle.serde_json.specs.Read.{read, max_depth, of_json, of_items, of_members}
use Rattle.serde_json.specs.View.{items_of}
use Rattle.serde_json.specs.Written.{compact_text, outline, items_outline, members_outline}
use Rattle.lw_rpc.proofs.OrderLemmas.{members_as}
use Rattle.lw_rpc.specs.Readable.{ReadsBack, AllReadBack}
use Rattle.lw_rpc.specs.Values as value
use Rattle.lw_rpc.specs.Values.{with_members, object_of}

-- ---- a value's parts

pub ReadsBack-boolean : (b : Bool) → ReadsBack (boolean b)
ReadsBack-boolean b = record { same = refl; numbers = tt }

pub ReadsBack-string : (text : List ℕ) → ReadsBack (string text)
ReadsBack-string text = record { same = refl; numbers = tt }

pub ReadsBack-natural : (n : ℕ) → n < 2 ^ 64 → ReadsBack (value.natural n)
ReadsBack-natural n small = record { same = ap (option_map number) (number_of-decimal n small); numbers = IsNumber-decimal n small }

pub ReadsBack-whole : (z : ℤ) → mag z < 2 ^ 63 → ReadsBack (value.whole z)
ReadsBack-whole (pos n) small = ReadsBack-natural n (omega arith)
ReadsBack-whole (negsuc n) small = record { same = ap (option_map number) (number_of-negative n small); numbers = IsNumber-signed_decimal (negsuc n) small }

members_same : (members : List (List ℕ × Data)) (found : Members) → AllReadBack members → of_members (members_outline (members_as members)) found ≡ Some (with_members found members)
members_same [] found all = refl
members_same (m ∷ others) found all =
    ap (option_and_then (λ d. of_members (members_outline (members_as others)) (put m.0 d found))) all.0.same ∙ members_same others (put m.0 m.1 found) all.1

members_numbers : (members : List (List ℕ × Data)) → AllReadBack members → MembersHaveNumbers (members_outline (members_as members))
members_numbers [] all = tt
members_numbers (m ∷ others) all = (all.0.numbers, members_numbers others all.1)

-- an object whose members are in the order of their keys
pub ReadsBack-object : (members : List (List ℕ × Data)) → with_members no_members members ≡ members_as members → AllReadBack members → ReadsBack (object_of members)
ReadsBack-object members ordered all = record {
  same = ap (λ found. option_map object (of_members (members_outline found) no_members)) ordered ∙ ap (option_map object) (members_same members no_members all);
  numbers = subst (λ found. MembersHaveNumbers (members_outline found)) (sym ordered) (members_numbers members all);
}

module _ {A : Type 0} (value : A → Data) where
  items_same : (list : List A) → All (λ a. ReadsBack (value a)) list → of_items (items_outline (items_of (map value list))) ≡ Some (items_of (map value list))
  items_same [] all = refl
  items_same (a ∷ others) all =
      ap (option_and_then (λ d. option_map (item d) (of_items (items_outline (items_of (map value others)))))) (all 0 a (omega arith)).same
      ∙ ap (option_map (item (value a))) (items_same others (λ k d within. all (suc k) d (omega arith)))

  items_numbers : (list : List A) → All (λ a. ReadsBack (value a)) list → ItemsHaveNumbers (items_outline (items_of (map value list)))
  items_numbers [] all = tt
  items_numbers (a ∷ others) all = ((all 0 a (omega arith)).numbers, items_numbers others (λ k d within. all (suc k) d (omega arith)))

  pub ReadsBack-array : (list : List A) → All (λ a. ReadsBack (value a)) list → ReadsBack (array (items_of (map value list)))
  ReadsBack-array list all = record { same = ap (option_map array) (items_same list all); numbers = items_numbers list all }

module _ {A : Type 0} (made : A → List ℕ × Data) where
  pub AllReadBack-map : (list : List A) → All (λ a. ReadsBack (made a).1) list → AllReadBack (map made list)
  AllReadBack-map [] all = tt
  AllReadBack-map (a ∷ others) all = (all 0 a (omega arith), AllReadBack-map others (λ k d within. all (suc k) d (omega arith)))

-- ---- the whole text

mutual
  depth-outline : (d : Data) → tree.depth (outline d) ≡ depth d
  depth-outline null = refl
  depth-outline (boolean b) = refl
  depth-outline (number n) = refl
  depth-outline (string text) = refl
  depth-outline (array items) = ap suc (items_depth-outline items)
  depth-outline (object members) = ap suc (members_depth-outline members)

  items_depth-outline : (items : Items) → tree.items_depth (items_outline items) ≡ items_depth items
  items_depth-outline no_items = refl
  items_depth-outline (item d items) = ap₂ max (depth-outline d) (items_depth-outline items)

  members_depth-outline : (members : Members) → tree.members_depth (members_outline members) ≡ members_depth members
  members_depth-outline no_members = refl
  members_depth-outline (member key d members) = ap₂ max (depth-outline d) (members_depth-outline members)

-- what is read, where these are the tokens' value and what stands behind it
abbrev whole : Option (json.Json × List Token) → Option Data
whole found = option_and_then of_json (option_and_then (λ p. json.if_last p.0 p.1) found)

pub read-compact_text : (d : Data) → ReadsBack d → depth d ≤ max_depth → read (compact_text d) ≡ Some d
read-compact_text d back shallow =
    let found : tokens (compact_text d) ≡ json_tokens (outline d) =
    ap tokens (sym (print-outline d)) ∙ tokens-print (json_tokens (outline d)) (ArePrintable-json_tokens (outline d) back.numbers) in
    ap whole (ap (json.value max_depth) (found ∙ sym (append-nil _)) ∙ value-json_tokens (outline d) max_depth [] (omega (arith, depth-outline d))) ∙ back.same
