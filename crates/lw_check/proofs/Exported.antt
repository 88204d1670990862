-- What a document exports are nodes of its tree.
use Rattle.std.proofs.Common.{ℕ, ◌≡◌, ◌<◌, ◌⊎◌, inl, inr, ◌∷◌, Contains, length, arith}
use Rattle.lw_scoping.specs.Symbols.{child_numbers, exports, is_named_node}
use Rattle.lw_symbols.proofs.Children.{child_inside}
use Rattle.lw_symbols.proofs.Filtered.{kept_from, of_number}
use Rattle.lw_tree.specs.Parts.{Parts, children_of}
use Rattle.lw_check.proofs.Gathered.{first_or_later}

pub export_inside : (tree : Parts) (n : ℕ) → 0 < length tree.nodes → Contains (exports tree) n → n < length tree.nodes
export_inside tree n some has = by (first_or_later 0 (child_numbers tree 0) n (kept_from (is_named_node tree) (0 ∷ child_numbers tree 0) n has).0)
  where
    by : (0 ≡ n) ⊎ Contains (child_numbers tree 0) n → n < length tree.nodes
    by (inl is) = omega (arith, some, is)
    by (inr child) = child_inside 0 tree.nodes (record { 0 = n }) (of_number (children_of 0 tree.nodes) n child)
