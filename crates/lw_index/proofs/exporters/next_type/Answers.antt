use Rattle.std.proofs.Common.{◌≡◌, [], sym, subst, ◌∙◌, arith, rules}
use Rattle.std.specs.declared.ops.Bound.TheVariants.{Included, Unbounded}
use Rattle.std.specs.BTreeMap.Range.{IsRangeOf, IsLeBy, IsEntryInRange}
use Rattle.std.specs.List.{slice_get, All}
use Rattle.std.specs.Option.{IsSome, IfSome}
use Rattle.std.proofs.lemmas.List.Elements.{All-head}
use Rattle.lw_index.specs.Slots.{Place, place_cmp, slot_in}
use Rattle.lw_index.proofs.Starts.{start_first, types_rise, none_unless}
use Rattle.lw_index.proofs.exporters.next_type.Goals as goal

pub returns-in-Some : goal.returns-in-Some
returns-in-Some c =
    let es = c.args.exporters.now in
    let start : Place = (c.args.from, c.from_string.result) in
    let range : IsRangeOf place_cmp (Included start) Unbounded es c.range.result = c.range.ensures.in_range (search rules) in
    let is = c.in-Some.ensures.steps in
    let empty : c.from_string.result ≡ [] = c.from_string.ensures ∙ c.new.ensures.bytes in
    let first : IsEntryInRange place_cmp (Included start) Unbounded es (c.in-Some.place.now, c.in-Some.field-0-1.now) = All-head (IsEntryInRange place_cmp (Included start) Unbounded es) _ _ (subst (All (IsEntryInRange place_cmp (Included start) Unbounded es)) is range.0) in
    let least : (q : Place) → IsLeBy place_cmp start q → IsSome (slot_in es q) → IsLeBy place_cmp c.in-Some.place.now q = λ q from some. subst (λ r. IfSome (slice_get r 0) (λ e. IsLeBy place_cmp e.0 q)) is (range.2 q (from, tt) some) in (
      types_rise start c.in-Some.place.now first.0.0,
      λ t u from lt. none_unless _ (λ some. omega (arith, types_rise c.in-Some.place.now (t, u) (least (t, u) (subst (λ v. IsLeBy place_cmp (c.args.from, v) (t, u)) (sym empty) (start_first c.args.from t u from)) some))),
    )

pub returns-in-None : goal.returns-in-None
returns-in-None c =
    let es = c.args.exporters.now in
    let start : Place = (c.args.from, c.from_string.result) in
    let range : IsRangeOf place_cmp (Included start) Unbounded es c.range.result = c.range.ensures.in_range (search rules) in
    let empty : c.from_string.result ≡ [] = c.from_string.ensures ∙ c.new.ensures.bytes in
    λ t u from. range.5 c.in-None.ensures.steps.0 (t, u) (subst (λ v. IsLeBy place_cmp (c.args.from, v) (t, u)) (sym empty) (start_first c.args.from t u from), tt)
