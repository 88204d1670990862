-- Which names rules and values call, by their leaves.
use Rattle.std.proofs.Common.{◌≡◌, ℕ, zero, suc, ◌↔◌, ◌⊎◌, inl, inr, List, [], ◌∷◌, Some, None, map, Contains, refl, sym, ap, subst, arith}
use Rattle.std.specs.List.{flat_map}
use Rattle.std.proofs.lemmas.List.Elements.{Contains-append_left, Contains-append_right, Contains-append_cases}
use Rattle.lw_grammar.specs.declared.grammar.Grammar.{Grammar}
use Rattle.lw_grammar.specs.declared.rule.Rule.{Rule}
use Rattle.lw_grammar.specs.declared.rule.Value0.{Value0, out-Value0, roll-Value0, out-roll-Value0}
use Rattle.lw_grammar.specs.declared.rule.Value0.TheFolds.{map-Value0, ind-Value0, fold-roll-Value0}
use Rattle.lw_grammar.specs.declared.rule.Value0.TheOpen as value
use Rattle.lw_grammar.specs.declared.rule.Value0.TheOpen.{Value0-F}
use Rattle.lw_grammar.specs.Leaves as leaf
use Rattle.lw_grammar.specs.Leaves.{Leaf, leaves, ValueLeaf, Literal, Calls, Cross, layer_values, value_leaves}
use Rattle.lw_grammar.specs.Reached.{ValueCalls, RuleCalls}
use Rattle.lw_grammar.specs.Reached as reached
use Rattle.lw_grammar.proofs.LeafLemmas.{values_by}
use Rattle.lw_faults.specs.Reads.{ValueLeads, ValueLeadsLayer}
use Rattle.lw_faults.specs.Reads as read
use Rattle.lw_kinds.specs.Crossing.{IsReadBy}
use Rattle.lw_kinds.specs.Edges.{CallsAtLeaf}
use Rattle.lw_grammar.proofs.Every.{every_of}
use Rattle.lw_kinds.proofs.PassingReads.{at_front, further}
use Rattle.lw_kinds.proofs.LeadForms.{ValueLeadsTo, value_leads_by}

the_item : {X : Type 0} (x y : X) → Contains (x ∷ []) y → x ≡ y
the_item x y has = every_of (λ z. x ≡ z) (x ∷ []) y (refl, tt) has

module _ {X Y : Type 0} (f : X → List Y) where
  in_part : (xs : List X) (x : X) (y : Y) → Contains xs x → Contains (f x) y → Contains (flat_map (λ ys. ys) (map f xs)) y
  in_part [] x y (k, inside, is) has = absurd (omega arith)
  in_part (z ∷ xs) x y (zero, inside, is) has =
      Contains-append_left (f z) (flat_map (λ ys. ys) (map f xs)) y (subst (λ w. Contains (f w) y) (sym is) has)
  in_part (z ∷ xs) x y (suc k, inside, is) has =
      Contains-append_right (f z) (flat_map (λ ys. ys) (map f xs)) y (in_part xs x y (k, omega arith, is) has)

module _ {X Y : Type 0} (f : X → Y) where
  mapped : (xs : List X) (x : X) → Contains xs x → Contains (map f xs) (f x)
  mapped [] x (k, inside, is) = absurd (omega arith)
  mapped (z ∷ xs) x (zero, inside, is) = (0, omega arith, ap f is)
  mapped (z ∷ xs) x (suc k, inside, is) = further (f z) (map f xs) (f x) (mapped xs x (k, omega arith, is))

  from_map : (xs : List X) (y : Y) → Contains (map f xs) y → (x : X) × Contains xs x × (f x ≡ y)
  from_map [] y (k, inside, is) = absurd (omega arith)
  from_map (z ∷ xs) y (zero, inside, is) = (z, at_front z xs, is)
  from_map (z ∷ xs) y (suc k, inside, is) = let found = from_map xs y (k, omega arith, is) in (found.0, further z xs found.0 found.1, found.2)

module _ (g : Grammar) where
  abbrev PartCalls : ValueLeaf → List ℕ → Type 0
  PartCalls (Literal text s) name = ⊥
  PartCalls (Calls called s) name = name ≡ called
  PartCalls (Cross wanted rule s) name = IsReadBy g wanted rule name

  abbrev SomePart : List ValueLeaf → List ℕ → Type 0
  SomePart ls name = (l : ValueLeaf) × Contains ls l × PartCalls l name

  only_part : (l : ValueLeaf) (name : List ℕ) → PartCalls l name → SomePart (l ∷ []) name
  only_part l name does = (l, (0, omega arith, refl), does)

  -- ---- what leads to a call has it among its leaves
  mutual
    part_of_value : {v : Value0} {name : List ℕ} → ValueLeads g v name → SomePart (value_leaves v) name
    part_of_value (read.value_leads {v} {name} does) =
        subst (λ ls. SomePart ls name) (sym (values_by v (out-Value0 v) refl)) (part_of_layer does)

    part_of_layer : {f : Value0-F Value0} {name : List ℕ} → ValueLeadsLayer g f name → SomePart (layer_values (map-Value0 Value0 (List ValueLeaf) value_leaves f)) name
    part_of_layer (read.call_value {name} {s}) = only_part (Calls name s) name refl
    part_of_layer (read.cross_value {wanted} {name} {s}) = only_part (Cross wanted (Some name) s) name refl
    part_of_layer (read.cross_by_name {wanted} {s} name is) = only_part (Cross wanted None s) name is
    part_of_layer (read.chosen_value {vs} {v = v} has does) =
        let found = part_of_value does in (found.0, in_part value_leaves vs v found.0 has found.1, found.2)

  -- ---- and what has it among them leads to it
  abbrev LeadsByParts : Value0 → Type 0
  LeadsByParts v = (name : List ℕ) → SomePart (value_leaves v) name → ValueLeads g v name

  abbrev Known : Type 0
  Known = (v : Value0) × LeadsByParts v

  abbrev bare : Known → Value0
  bare known = known.0

  one_part : (l : ValueLeaf) (name : List ℕ) → SomePart (l ∷ []) name → PartCalls l name
  one_part l name (x, has, does) = subst (λ y. PartCalls y name) (sym (the_item l x has)) does

  known_part : (vs : List Known) (l : ValueLeaf) → Contains (flat_map (λ ls. ls) (map value_leaves (map bare vs))) l →
      (known : Known) × Contains (map bare vs) (bare known) × Contains (value_leaves (bare known)) l
  known_part [] l (k, inside, is) = absurd (omega arith)
  known_part (known ∷ vs) l has = by (Contains-append_cases (value_leaves (bare known)) (flat_map (λ ls. ls) (map value_leaves (map bare vs))) l has) (known_part vs l)
    where
      by : Contains (value_leaves (bare known)) l ⊎ Contains (flat_map (λ ls. ls) (map value_leaves (map bare vs))) l →
          (Contains (flat_map (λ ls. ls) (map value_leaves (map bare vs))) l → (one : Known) × Contains (map bare vs) (bare one) × Contains (value_leaves (bare one)) l) →
          (one : Known) × Contains (bare known ∷ map bare vs) (bare one) × Contains (value_leaves (bare one)) l
      by (inl here) others = (known, at_front (bare known) (map bare vs), here)
      by (inr there) others = let found = others there in (found.0, further (bare known) (map bare vs) (bare found.0) found.1, found.2)

  layer_of_part : (y : Value0-F Known) (name : List ℕ) → SomePart (layer_values (map-Value0 Value0 (List ValueLeaf) value_leaves (map-Value0 Known Value0 bare y))) name →
      ValueLeadsTo g (map-Value0 Known Value0 bare y) name
  layer_of_part (value.Keyword text s) name part = one_part (Literal text s) name part
  layer_of_part (value.Call called s) name part = one_part (Calls called s) name part
  layer_of_part (value.Cross wanted rule s) name part = one_part (Cross wanted rule s) name part
  layer_of_part (value.Choice vs s) name (l, has, does) =
      let found = known_part vs l has in (bare found.0, found.1, found.0.1 name (l, found.2, does))

  value_of_part : (v : Value0) → LeadsByParts v
  value_of_part = ind-Value0 LeadsByParts (λ x y is. λ name part.
      (value_leads_by g {v = roll-Value0 x} {form = roll-Value0 x} {f = x} refl (out-roll-Value0 x) name).0
      (subst (λ f. ValueLeadsTo g f name) is (layer_of_part y name
      (subst (λ f. SomePart (layer_values (map-Value0 Value0 (List ValueLeaf) value_leaves f)) name) (sym is)
      (subst (λ ls. SomePart ls name) (fold-roll-Value0 (List ValueLeaf) layer_values x) part)))))

  -- ---- calls by values
  calls_part : {v : Value0} {name : List ℕ} → ValueCalls g v name → SomePart (value_leaves v) name
  calls_part {v} {name} (reached.calls s has) = (Calls name s, has, refl)
  calls_part {v} {name} (reached.crosses wanted s has) = (Cross wanted (Some name) s, has, refl)
  calls_part {v} {name} (reached.crosses_by_name wanted s has is) = (Cross wanted None s, has, is)

  part_calls : {v : Value0} {name : List ℕ} (l : ValueLeaf) → Contains (value_leaves v) l → PartCalls l name → ValueCalls g v name
  part_calls (Literal text s) has does = absurd does
  part_calls {v} {name} (Calls called s) has does = reached.calls s (subst (λ n. Contains (value_leaves v) (Calls n s)) (sym does) has)
  part_calls {v} {name} (Cross wanted None s) has does = reached.crosses_by_name wanted s has does
  part_calls {v} {name} (Cross wanted (Some written) s) has does = reached.crosses wanted s (subst (λ n. Contains (value_leaves v) (Cross wanted (Some n) s)) does has)

  -- ---- calls by rules
  module _ (rule : Rule) (name : List ℕ) where
    leaf_calls : (l : Leaf) → Contains (leaves rule.body) l → CallsAtLeaf g l name → RuleCalls g rule name
    leaf_calls (leaf.Keyword text s) has does = absurd does
    leaf_calls (leaf.Call called s) has does = reached.calls s (subst (λ n. Contains (leaves rule.body) (leaf.Call n s)) (sym does) has)
    leaf_calls (leaf.Assign p op v s) has does = reached.assigns p op v s has (let part = part_of_value does in part_calls part.0 part.1 part.2)
    leaf_calls (leaf.Act a) has does = absurd does

    calls_leaf : RuleCalls g rule name → (l : Leaf) × Contains (leaves rule.body) l × CallsAtLeaf g l name
    calls_leaf (reached.calls s has) = (leaf.Call name s, has, refl)
    calls_leaf (reached.assigns p op v s has does) = (leaf.Assign p op v s, has, value_of_part v name (calls_part does))

    -- by items that stand for the leaves
    pub rule_calls_by : {X : Type 0} (leaf_of : X → Leaf) (xs : List X) → map leaf_of xs ≡ leaves rule.body →
        ((x : X) × Contains xs x × CallsAtLeaf g (leaf_of x) name) ↔ RuleCalls g rule name
    rule_calls_by {X} leaf_of xs are = (forth, back)
      where
        forth : (x : X) × Contains xs x × CallsAtLeaf g (leaf_of x) name → RuleCalls g rule name
        forth (x, has, does) = leaf_calls (leaf_of x) (subst (λ ls. Contains ls (leaf_of x)) are (mapped leaf_of xs x has)) does

        back : RuleCalls g rule name → (x : X) × Contains xs x × CallsAtLeaf g (leaf_of x) name
        back does =
            let found = calls_leaf does in
            let item = from_map leaf_of xs found.0 (subst (λ ls. Contains ls found.0) (sym are) found.1) in
            (item.0, item.1, subst (λ l. CallsAtLeaf g l name) (sym item.2) found.2)
