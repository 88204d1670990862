use Rattle.std.proofs.Common.{◌≡◌, ◌∙◌, sym, ap, true, true≢false}
use Rattle.lw_tree.specs.Parts.{values_at}
use Rattle.lw_tree.proofs.tree.Tree.is_same.Goals as goal
use Rattle.lw_tree.proofs.tree.Tree.is_same.Goals.{then-are_same_nodes, else-are_same_nodes, then-is_same, else-is_same, then-are_same_references, else-are_same_references}

-- of the same tables the nodes, the values, the references and the tokens are told to be the same
pub returns-else-are_same_tokens : goal.returns-else-are_same_tokens
returns-else-are_same_tokens c = (
  λ told. absurd (true≢false (sym told ∙ c.if-are_same_tokens.false)),
  λ same.
      let one = c.self.view_is in
      let other = c.other.view_is in
      let nodes = c.are_same_nodes.ensures.1
      (c.as_slice.ensures.value ∙ ap (λ parts. parts.nodes) one ∙ same.nodes ∙ sym (ap (λ parts. parts.nodes) other) ∙ sym c.as_slice-2.ensures.value) in
      let values : c.if-are_same_nodes.value ≡ true = elim c.if-are_same_nodes.branch [
        | then-are_same_nodes w ↦ w.value-is ∙ w.is_same.ensures.1
            (λ n p. ap (λ parts. values_at n p parts.values) one ∙ same.values n p ∙ sym (ap (λ parts. values_at n p parts.values) other))
        | else-are_same_nodes w ↦ w.value-is ∙ nodes
      ] in
      let refs : c.if-is_same.value ≡ true = elim c.if-is_same.branch [
        | then-is_same w ↦ w.value-is ∙ w.are_same_references.ensures.1
            (w.as_slice-then-is_same.ensures.value ∙ ap (λ parts. parts.refs) one ∙ same.refs ∙ sym (ap (λ parts. parts.refs) other) ∙ sym w.as_slice-then-is_same-2.ensures.value)
        | else-is_same w ↦ w.value-is ∙ values
      ] in
      elim c.if-are_same_references.branch [
        | then-are_same_references w ↦ w.value-is ∙ w.are_same_tokens.ensures.1
            (w.as_slice-then-are_same_references.ensures.value ∙ ap (λ parts. parts.tokens) one ∙ same.tokens ∙ sym (ap (λ parts. parts.tokens) other)
            ∙ sym w.as_slice-then-are_same_references-2.ensures.value)
        | else-are_same_references w ↦ w.value-is ∙ refs
      ],
)
