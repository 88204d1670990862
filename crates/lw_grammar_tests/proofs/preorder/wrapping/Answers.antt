use Rattle.std.proofs.Common.{◌∙◌, ap₂, [], ◌∷◌}
use lib.IntN.{pos}
use Rattle.lw_base.specs.declared.token.Span.{Span}
use Rattle.lw_tree.specs.declared.node.Reference.{Reference}
use Rattle.lw_reading.specs.Grown.{Grown, Grow, Nothing, Puts, Takes, Points, Number, Truth}
use Rattle.lw_grammar_tests.proofs.preorder.wrapping.Goals as goal

pub returns : goal.returns
returns c =
    let s : Span = record { start = 3; end = 8 } in
    let a : Grown = Grow 0 s (Puts Nothing 0 (Number (pos 7) s)) in
    let b : Grown = Grow 1 s (Points (Takes Nothing 1 a) 2 0 c.in_ok-from_text.field-0 s) in
    let d : Grown = Grow 3 s Nothing in
    let whole : Grown = Grow 2 s (Takes (Points (Takes (Puts Nothing 0 (Truth s)) 1 b) 2 0 c.in_ok-from_text-2.field-0 s) 1 d) in (
      whole,
      record {
        nodes = cc (c.in_ok-finished.ensures.items, c.inner.ensures, c.inner-2.ensures, c.inner-3.ensures, c.root.ensures);
        values = c.in_ok-values.ensures.items;
        refs = c.in_ok-refs.ensures.items ∙ ap₂ (λ (x y : Reference). x ∷ y ∷ []) c.reference-first.ensures c.reference-second.ensures;
      },
    )
