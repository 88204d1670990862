-- What a symbol may lack.
use Rattle.std.proofs.Common.{ℕ, ◌≡◌, ◌==◌, false, List, [], Some, Contains, slice_get, sym, ap, ◌∙◌, true≢false, arith}
use Rattle.std.specs.Str.{bytes_eq}
use Rattle.std.proofs.lemmas.Option.{same_Some}
use Rattle.std.proofs.lemmas.Slice.Eq.{bytes_eq-Decides}
use Rattle.lw_base.specs.declared.token.Span.{Span}
use Rattle.lw_tree.specs.declared.node.Node.{Node}
use Rattle.lw_tree.specs.declared.node.Reference.{Reference}
use Rattle.lw_tree.specs.Parts.{Parts, name_of}
use Rattle.lw_scoping.specs.Links.{ByTest, Fits}
use Rattle.lw_scoping.specs.Worked.{is_same_type}

module _ (tree : Parts) (r : Reference) (n : ℕ) where
  pub wrong_type : (node : Node) → slice_get tree.nodes n ≡ Some node → is_same_type node.type_id.0 r.want.0 ≡ false → ¬ Fits (ByTest is_same_type) tree r n
  wrong_type node at unwanted (type, is, under) =
      let same : is.node ≡ node = same_Some is.node node (sym is.there ∙ at) in
      let typed : node.type_id.0 ≡ type = ap (λ (x : Node). x.type_id.0) (sym same) ∙ is.typed in
      true≢false (sym under ∙ ap (λ (t : ℕ). t == r.want.0) (sym typed) ∙ unwanted)

  pub wrong_name : (name : List ℕ) (s : Span) → name_of tree n ≡ Some (name, s) → bytes_eq name r.name ≡ false → ¬ Fits (ByTest is_same_type) tree r n
  wrong_name name s at unlike (type, is, under) =
      let same : name ≡ r.name = ap (λ (x : List ℕ × Span). x.0) (same_Some {A = List ℕ × Span} (name, s) (r.name, is.span) (sym at ∙ is.named)) in
      true≢false (sym ((bytes_eq-Decides name r.name).1 same) ∙ unlike)

pub none_in_nothing : {n : ℕ} → Contains [] n → ⊥
none_in_nothing (k, inside, is) = omega (arith, inside)
