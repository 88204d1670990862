-- A node is doubled exactly where the first symbol beside it, of its name and type, is an earlier one.
use Rattle.std.proofs.Common.{ℕ, ◌≡◌, ◌+◌, ◌<◌, List, Option, Some, None, Contains, slice_get, refl, sym, ap, subst, ◌∙◌, arith}
use Rattle.std.specs.Option.{is_some, option_map}
use Rattle.std.proofs.lemmas.Option.{same_Some}
use Rattle.lw_base.specs.declared.numbers.NodeId.{NodeId}
use Rattle.lw_scoping.specs.Doubles.{HasDouble}
use Rattle.lw_scoping.specs.Firsts.{IsFirstIn, found, none}
use Rattle.lw_scoping.specs.Symbols.{IsNamedNode, IsNamedOf, child_numbers, is_named_node, locals}
use Rattle.lw_scoping.proofs.Places.{among}
use Rattle.lw_symbols.proofs.Children.{child_in, in_children}
use Rattle.lw_symbols.proofs.Filtered.{kept, kept_from, numbered, of_number}
use Rattle.lw_symbols.proofs.Rising.{least_first, named_rise}
use Rattle.lw_tree.specs.declared.node.Node.{Node}
use Rattle.lw_tree.specs.Parts.{Parts, children_of}

module _ (tree : Parts) (n : ℕ) (name : List ℕ) (type : ℕ) (is : IsNamedNode tree n name type) where
  stands_in : (c : ℕ) → Contains (locals tree c) n → is.node.container ≡ Some (record { 0 = c })
  stands_in c has =
      let child = child_in c 0 tree.nodes (record { 0 = n }) (of_number (children_of c tree.nodes) n (kept_from (is_named_node tree) (child_numbers tree c) n has).0) in
      let number : child.place ≡ n = omega (arith, child.number) in
      let same : child.node ≡ is.node =
      same_Some child.node is.node (sym child.at ∙ ap (λ (j : ℕ). slice_get tree.nodes j) number ∙ is.there) in
      ap (λ (x : Node). x.container) (sym same) ∙ child.within

  is_symbol : (c : ℕ) → is.node.container ≡ Some (record { 0 = c }) → Contains (locals tree c) n
  is_symbol c inside =
      let number : 0 + n ≡ n = omega arith in
      let child : Contains (children_of c tree.nodes) (record { 0 = n }) =
      subst (λ (k : ℕ). Contains (children_of c tree.nodes) (record { 0 = k })) number (in_children c 0 tree.nodes n is.node is.there inside) in
      kept (is_named_node tree) (child_numbers tree c) n (numbered (children_of c tree.nodes) (record { 0 = n }) child) (ap is_some is.named)

  abbrev pub Alike : ℕ → Type 0
  Alike = IsNamedOf tree name (λ t. t ≡ type)

  alike : (k : ℕ) → IsNamedNode tree k name type → Alike k
  alike k same = (type, same, refl)

  named_so : (k : ℕ) → Alike k → IsNamedNode tree k name type
  named_so k (t, named, same) = subst (IsNamedNode tree k name) same named

  -- by the node at its place
  module _ (node : Node) (at : slice_get tree.nodes n ≡ Some node) where
    same_node : is.node ≡ node
    same_node = same_Some is.node node (sym is.there ∙ at)

    pub held : is.node.container ≡ node.container
    held = ap (λ (x : Node). x.container) same_node

    -- by what a look gave
    pub as_alike : (c : ℕ) (look result : Option NodeId) → look ≡ result →
        IsFirstIn (IsNamedOf tree name (λ t. t ≡ node.type_id.0)) (locals tree c) (option_map (λ (k : NodeId). k.0) look) →
        IsFirstIn Alike (locals tree c) (option_map (λ (k : NodeId). k.0) result)
    as_alike c look result gave first =
        let typed : node.type_id.0 ≡ type = ap (λ (x : Node). x.type_id.0) (sym same_node) ∙ is.typed in
        subst (λ (k : ℕ). IsFirstIn (IsNamedOf tree name (λ t. t ≡ k)) (locals tree c) (option_map (λ (k : NodeId). k.0) result)) typed
        (subst (λ (r : Option NodeId). IsFirstIn (IsNamedOf tree name (λ t. t ≡ node.type_id.0)) (locals tree c) (option_map (λ (k : NodeId). k.0) r)) gave first)

  pub not_inside : is.node.container ≡ None → ¬ HasDouble tree n name type
  not_inside out double = differ (sym out ∙ stands_in double.container double.inside)
    where
      differ : {c : NodeId} → None ≡ Some c → ⊥
      differ e = cc

  module _ (c : ℕ) (inside : is.node.container ≡ Some (record { 0 = c })) where
    beside : (double : HasDouble tree n name type) → Contains (locals tree c) double.earlier
    beside double =
        let same : double.container ≡ c =
        ap (λ (x : NodeId). x.0)
        (same_Some {A = NodeId} (record { 0 = double.container }) (record { 0 = c }) (sym (stands_in double.container double.inside) ∙ inside)) in
        subst (λ k. Contains (locals tree k) double.earlier) same double.beside

    pub none_alike : IsFirstIn Alike (locals tree c) None → ¬ HasDouble tree n name type
    none_alike (none misses) double = misses double.earlier (beside double) (alike double.earlier double.same)

    pub earlier_alike : (first : ℕ) → IsFirstIn Alike (locals tree c) (Some first) → first < n → HasDouble tree n name type
    earlier_alike first (found {i = i} is_first) less = record {
      container = c;
      inside = is_symbol c inside;
      earlier = first;
      beside = among (locals tree c) i first is_first.there;
      before = less;
      same = named_so first is_first.does;
    }

    pub alike_earlier : (first : ℕ) → IsFirstIn Alike (locals tree c) (Some first) → HasDouble tree n name type → first < n
    alike_earlier first (found {i = i} is_first) double =
        let up = least_first (locals tree c) i first (named_rise (is_named_node tree) c tree.nodes) is_first double.earlier (beside double)
        (alike double.earlier double.same) in
        omega (arith, up, double.before)
