-- What is put into the index for the first of some nodes.
use Rattle.std.proofs.Common.{ℕ, zero, suc, ◌≡◌, ◌<◌, ◌↔◌, List, [], ◌∷◌, ◌++◌, None, Contains, inl, inr, length, map, slice_get, sym, ap, subst, ◌∙◌, arith}
use Rattle.std.proofs.lemmas.List.Elements.{Contains-append_left, Contains-push, Contains-push_cases}
use Rattle.std.proofs.lemmas.Option.{none-some, same_Some}
use Rattle.lw_base.specs.declared.numbers.NodeId.{NodeId}
use Rattle.lw_base.specs.declared.token.Span.{Span}
use Rattle.lw_tree.specs.declared.node.Node.{Node}
use Rattle.lw_tree.specs.Parts.{Parts, children_of, name_of}
use Rattle.lw_scoping.specs.Symbols.{exports, child_numbers, is_named_node, IsNamedNode}
use Rattle.lw_symbols.proofs.Children.{child_inside}
use Rattle.lw_symbols.proofs.Filtered.{kept_from, numbered, of_number}
use Rattle.lw_index.specs.declared.parts.Export.{Export}
use Rattle.lw_index.specs.Exported.{export_of}
use Rattle.lw_link.specs.Indexed.{AreEntriesOf}

module _ (tree : Parts) where
  -- what stands for the export has its node's name and type
  abbrev pub IsEntry : Export → Type 0
  IsEntry e = IsNamedNode tree e.node.0 e.name e.type_id.0

  -- exactly those of the nodes that have names
  abbrev pub AreEntriesAmong : List NodeId → List Export → Type 0
  AreEntriesAmong nodes entries =
      (name : List ℕ) (type node : ℕ) → Contains entries (export_of name type node) ↔ (Contains nodes (record { 0 = node }) × IsNamedNode tree node name type)

  -- a node has one name and one type
  one_entry : (e f : Export) → e.node ≡ f.node → IsEntry e → IsEntry f → e ≡ f
  one_entry e f same is was =
      let number : e.node.0 ≡ f.node.0 = ap (λ (n : NodeId). n.0) same in
      let name : e.name ≡ f.name =
      ap (λ (x : List ℕ × Span). x.0)
      (same_Some {A = List ℕ × Span} (e.name, is.span) (f.name, was.span) (sym is.named ∙ ap (name_of tree) number ∙ was.named)) in
      let node : is.node ≡ was.node = same_Some is.node was.node (sym is.there ∙ ap (λ (k : ℕ). slice_get tree.nodes k) number ∙ was.there) in
      let type_ : e.type_id.0 ≡ f.type_id.0 = sym is.typed ∙ ap (λ (x : Node). x.type_id.0) node ∙ was.typed in
      λ i. record { name = name i; type_id = record { 0 = type_ i }; node = same i }

  pub none_entered : (entries : List Export) → entries ≡ [] → AreEntriesAmong [] entries
  none_entered entries is name type node = (
    λ has. absurd (omega (arith, has.1, ap length is)),
    λ both. absurd (omega (arith, both.0.1)),
  )

  pub one_entered : (nodes : List NodeId) (entries : List Export) (n : NodeId) (e : Export) → AreEntriesAmong nodes entries → e.node ≡ n → IsEntry e →
      AreEntriesAmong (nodes ++ n ∷ []) (entries ++ e ∷ [])
  one_entered nodes entries n e are at is name type node = (forth, back)
    where
      forth : Contains (entries ++ e ∷ []) (export_of name type node) → Contains (nodes ++ n ∷ []) (record { 0 = node }) × IsNamedNode tree node name type
      forth has = elim (Contains-push_cases entries e (export_of name type node) has) [
        | inl before ↦ let h = (are name type node).0 before in (Contains-append_left nodes (n ∷ []) (record { 0 = node }) h.0, h.1)
        | inr same ↦
            let number : n ≡ record { 0 = node } = sym at ∙ ap (λ (x : Export). x.node) same in
            (subst (λ (k : NodeId). Contains (nodes ++ n ∷ []) k) number (Contains-push nodes n), subst IsEntry same is)
      ]

      back : Contains (nodes ++ n ∷ []) (record { 0 = node }) × IsNamedNode tree node name type → Contains (entries ++ e ∷ []) (export_of name type node)
      back (has, named) = elim (Contains-push_cases nodes n (record { 0 = node }) has) [
        | inl before ↦ Contains-append_left entries (e ∷ []) (export_of name type node) ((are name type node).1 (before, named))
        | inr same ↦
            subst (λ (x : Export). Contains (entries ++ e ∷ []) x) (one_entry e (export_of name type node) (at ∙ same) is named) (Contains-push entries e)
      ]

  pub none_more : (nodes : List NodeId) (entries : List Export) (n : NodeId) → AreEntriesAmong nodes entries → name_of tree n.0 ≡ None →
      AreEntriesAmong (nodes ++ n ∷ []) entries
  none_more nodes entries n are unnamed name type node = (
    λ has. let h = (are name type node).0 has in (Contains-append_left nodes (n ∷ []) (record { 0 = node }) h.0, h.1),
    λ (has, named). elim (Contains-push_cases nodes n (record { 0 = node }) has) [
      | inl before ↦ (are name type node).1 (before, named)
      | inr same ↦ absurd (none-some (name, named.span) (sym unnamed ∙ ap (λ (k : NodeId). name_of tree k.0) same ∙ named.named))
    ],
  )

  pub all_entered : (nodes : List NodeId) (entries : List Export) → map (λ n. n.0) nodes ≡ exports tree → AreEntriesAmong nodes entries → AreEntriesOf tree entries
  all_entered nodes entries all are name type node = (
    λ has.
        let h = (are name type node).0 has in
        (subst (λ (ns : List ℕ). Contains ns node) all (numbered nodes (record { 0 = node }) h.0), h.1),
    λ (has, named). (are name type node).1 (of_number nodes node (subst (λ (ns : List ℕ). Contains ns node) (sym all) has), named),
  )

  -- ---- what is exported is one of the nodes

  root_or_child : (n : ℕ) → Contains (0 ∷ child_numbers tree 0) n → 0 < length tree.nodes → n < length tree.nodes
  root_or_child n (zero, inside, is) some = omega (arith, is, some)
  root_or_child n (suc k, inside, is) some =
      child_inside 0 tree.nodes (record { 0 = n }) (of_number (children_of 0 tree.nodes) n (k, omega (arith, inside), is))

  pub exported_inside : (nodes : List NodeId) (n : NodeId) → map (λ n. n.0) nodes ≡ exports tree → Contains nodes n → 0 < length tree.nodes → n.0 < length tree.nodes
  exported_inside nodes n all has some =
      let among : Contains (exports tree) n.0 = subst (λ (ns : List ℕ). Contains ns n.0) all (numbered nodes n has) in
      root_or_child n.0 (kept_from (is_named_node tree) (0 ∷ child_numbers tree 0) n.0 among).0 some
