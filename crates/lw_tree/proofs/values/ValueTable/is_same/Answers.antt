use Rattle.std.proofs.Common.{◌∙◌, sym, ap}
use Rattle.lw_tree.specs.Parts.{values_at}
use Rattle.lw_tree.proofs.SameKeyed.{same_where_alike}
use Rattle.lw_tree.proofs.values.ValueTable.is_same.Goals as goal

pub returns : goal.returns
returns c = (
  λ told n p. ap (λ l. values_at n p l)
      (sym c.self.view_is ∙ sym c.as_slice.ensures.value ∙ c.are_same_entries.ensures.0 told ∙ c.as_slice-2.ensures.value ∙ c.other.view_is),
  λ alike. c.are_same_entries.ensures.1
      (c.as_slice.ensures.value ∙ same_where_alike c.self.view_is c.other.view_is c.self.invariant c.other.invariant alike
      ∙ sym c.as_slice-2.ensures.value),
)
