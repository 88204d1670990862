use Rattle.std.proofs.Common.{◌≡◌, ℕ, ◌<◌, Some, List, length, get_or, map, slice_get, sym, refl, ap, ◌∙◌, arith}
use Rattle.std.proofs.lemmas.List.{length-map}
use Rattle.std.proofs.lemmas.Option.{same_Some, slice_get-get_or}
use Rattle.lw_base.specs.declared.numbers.NodeId.{NodeId}
use Rattle.lw_base.specs.declared.numbers.PropId.{PropId}
use Rattle.lw_tree.specs.declared.node.Value.{Value}
use Rattle.lw_tree.specs.Keyed.{Entries, values_of}
use Rattle.lw_places.specs.Shapes.{ValueShape, shape_of_value}
use Rattle.lw_rename.proofs.Listing.{mapped_at, not_both, one_below_more, same_by_places}
use Rattle.lw_rename.proofs.shape.have_shapes_of.Goals as goal

-- the shape of the value at a place
shape_at : (es : Entries) (i : ℕ) (d : NodeId × PropId × Value) → i < length es →
    slice_get (map shape_of_value (values_of es)) i ≡ Some (shape_of_value (get_or es i d).2)
shape_at es i d below =
    let e = get_or es i d in
    mapped_at shape_of_value (values_of es) i e.2 (mapped_at (λ (x : NodeId × PropId × Value). x.2) es i e (slice_get-get_or es i d below))

-- there are as many shapes as values
as_many : (es : Entries) → length (map shape_of_value (values_of es)) ≡ length es
as_many es = length-map (values_of es) shape_of_value ∙ length-map es (λ (x : NodeId × PropId × Value). x.2)

pub returns-then-not-has_shape_of : goal.returns-then-not-has_shape_of
returns-then-not-has_shape_of c =
    let entries = c.args.entries.now in
    let others = c.args.others.now in
    let i = c.comparing.i in
    let e = get_or entries i c.index-entries-i.result in
    let f = get_or others i c.index-others-i.result in
    let at = shape_at entries i c.index-entries-i.result (omega arith) in
    let there = shape_at others i c.index-others-i.result (omega arith) in (
      λ told. absurd (not_both told refl),
      λ same. absurd (not_both
          (c.has_shape_of.ensures.1
          (same_Some (shape_of_value e.2) (shape_of_value f.2) (sym at ∙ ap (λ (xs : List ValueShape). slice_get xs i) same ∙ there)))
          c.if-not-has_shape_of.true),
    )

pub comparing-preserved : goal.comparing-preserved
comparing-preserved c k below =
    let entries = c.args.entries.now in
    let others = c.args.others.now in
    let i = c.comparing.i in
    let at = shape_at entries i c.index-entries-i.result (omega arith) in
    let there = shape_at others i c.index-others-i.result (omega arith) in
    one_below_more {P = λ k. slice_get (map shape_of_value (values_of entries)) k ≡ slice_get (map shape_of_value (values_of others)) k} i k
    c.comparing.invariant (at ∙ ap Some (c.has_shape_of.ensures.0 c.if-not-has_shape_of.false) ∙ sym there) below

pub returns : goal.returns
returns c =
    let entries = c.args.entries.now in
    let others = c.args.others.now in
    let one = as_many entries in
    let other = as_many others in (
      λ _. same_by_places (map shape_of_value (values_of entries)) (map shape_of_value (values_of others)) (omega (arith, one, other))
          (λ k below. c.comparing.invariant k (omega (arith, one, below))),
      λ _. refl,
    )
