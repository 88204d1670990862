use Rattle.std.proofs.Common.{◌∙◌, ap, ◌∷◌, []}
use Rattle.lw_builder.specs.declared.preorder.finished.Finished.{Finished}
use Rattle.lw_reading.specs.Grown.{Grow, Nothing}
use Rattle.lw_grammar_tests.proofs.preorder.root_alone.Goals as goal

pub returns : goal.returns
returns c = (
  Grow 5 (record { start = 3; end = 8 }) Nothing,
  record {
    nodes = c.in_ok-vec.ensures.items ∙ ap (λ (x : Finished). x ∷ []) c.root.ensures;
    values = c.new.ensures.items;
    refs = c.new-2.ensures.items;
  },
)
