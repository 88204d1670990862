-- Names that are put in level by level outwards.
use Rattle.std.proofs.Common.{ℕ, ◌≡◌, ◌<◌, ◌⊎◌, inl, inr, List, [], ◌∷◌, ◌++◌, None, Some, Contains, length, map, slice_get, sym, subst}
use Rattle.std.specs.FinSet.{FinSet}
use Rattle.std.specs.List.{flat_map}
use Rattle.std.specs.Ordering.{nat_cmp}
use Rattle.std.proofs.lemmas.List.{append-nil}
use Rattle.std.proofs.lemmas.List.Elements.{Contains-append_cases, Contains-append_left, Contains-append_right}
use Rattle.lw_base.specs.declared.numbers.NodeId.{NodeId}
use Rattle.lw_faults.specs.Finding.{Finds, OfSome}
use Rattle.lw_faults.proofs.Joining.{Finds-iff, Finds-read, Finds-then}
use Rattle.lw_scoping.specs.Outward.{LeadsOut, outermost, inner}
use Rattle.lw_scoping.specs.Symbols.{child_numbers, is_named_node, locals}
use Rattle.lw_scoping.proofs.Paths.{leads_once}
use Rattle.lw_symbols.proofs.Children.{child_inside}
use Rattle.lw_symbols.proofs.Filtered.{kept_from, numbered, of_number}
use Rattle.lw_tree.specs.declared.node.Node.{Node}
use Rattle.lw_tree.specs.Parts.{Parts, children_of}
use Rattle.lw_link.specs.Visible.{IsNameOf}

-- ---- some of two lists

module _ {X Y : Type 0} (has : X → Y → Type 0) (xs ys : List X) (y : Y) where
  of_both : OfSome has xs y ⊎ OfSome has ys y → OfSome has (xs ++ ys) y
  of_both (inl (x, inside, so)) = (x, Contains-append_left xs ys x inside, so)
  of_both (inr (x, inside, so)) = (x, Contains-append_right xs ys x inside, so)

  of_either : OfSome has (xs ++ ys) y → OfSome has xs y ⊎ OfSome has ys y
  of_either (x, inside, so) = elim (Contains-append_cases xs ys x inside) [ inl front ↦ inl (x, front, so) | inr behind ↦ inr (x, behind, so) ]

-- ---- levels

module _ (tree : Parts) where
  -- the symbols of a node are nodes
  pub locals_inside : (level : ℕ) (nodes : List NodeId) (n : NodeId) → map (λ k. k.0) nodes ≡ locals tree level → Contains nodes n → n.0 < length tree.nodes
  locals_inside level nodes n are has =
      let among = subst (λ (ns : List ℕ). Contains ns n.0) are (numbered nodes n has) in
      child_inside level tree.nodes (record { 0 = n.0 }) (of_number (children_of level tree.nodes) n.0 (kept_from (is_named_node tree) (child_numbers tree level) n.0 among).0)

module _ (tree : Parts) (fits : FinSet nat_cmp) where
  -- what was put in of the symbols of a node
  pub put_in : (level : ℕ) (nodes : List NodeId) {now next : List (List ℕ)} → map (λ k. k.0) nodes ≡ locals tree level →
      Finds (OfSome (λ (n : NodeId). IsNameOf tree fits n.0) nodes) now next → Finds (OfSome (IsNameOf tree fits) (locals tree level)) now next
  put_in level nodes are finds = Finds-read (λ (n : NodeId). n.0) (IsNameOf tree fits) nodes (locals tree level) are finds

  -- the names of all on the way were put in
  abbrev pub FindsOn : List ℕ → List (List ℕ) → List (List ℕ) → Type 0
  FindsOn path = Finds (OfSome (IsNameOf tree fits) (flat_map (locals tree) path))

  -- with those from this level on all are in
  abbrev pub GoesOn : ℕ → ℕ → List (List ℕ) → List (List ℕ) → Type 0
  GoesOn from level old now =
      (path : List ℕ) → LeadsOut tree level path → (after : List (List ℕ)) → FindsOn path now after → (whole : List ℕ) → LeadsOut tree from whole → FindsOn whole old after

  pub begins : (from : ℕ) (old : List (List ℕ)) → GoesOn from from old old
  begins from old path leads after finds whole out = subst (λ (p : List ℕ). FindsOn p old after) (leads_once tree leads out) finds

  module _ (from level : ℕ) (old now next : List (List ℕ)) (node : Node) (goes : GoesOn from level old now) (at : slice_get tree.nodes level ≡ Some node)
      (level_is : Finds (OfSome (IsNameOf tree fits) (locals tree level)) now next) where
    pub goes_outwards : (c : ℕ) → node.container ≡ Some (record { 0 = c }) → GoesOn from c old next
    goes_outwards c is path leads after rest =
        goes (level ∷ path) (inner c at is leads) after
        (Finds-iff (λ y. (of_both (IsNameOf tree fits) (locals tree level) (flat_map (locals tree) path) y, of_either (IsNameOf tree fits) (locals tree level) (flat_map (locals tree) path) y))
        (Finds-then level_is rest))

    pub all_are_in : node.container ≡ None → (whole : List ℕ) → LeadsOut tree from whole → FindsOn whole old next
    all_are_in is =
        goes (level ∷ []) (outermost at is) next
        (subst (λ (xs : List ℕ). Finds (OfSome (IsNameOf tree fits) xs) now next) (sym (append-nil (locals tree level))) level_is)
