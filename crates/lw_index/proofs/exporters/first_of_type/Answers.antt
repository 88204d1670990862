use Rattle.std.proofs.Common.{◌≡◌, [], ◌∷◌, sym, ap, subst, ◌∙◌, rules}
use Rattle.std.specs.declared.ops.Bound.TheVariants.{Included, Unbounded}
use Rattle.std.specs.BTreeMap.Range.{IsRangeOf, entries_between}
use Rattle.lw_index.specs.declared.exporters.Slot.{Slot}
use Rattle.lw_index.specs.Slots.{Place, place_cmp}
use Rattle.lw_index.proofs.Ahead.{Ahead, ahead_of_range, ahead_behind, none_beyond, least_here}
use Rattle.lw_index.proofs.exporters.first_of_type.Goals as goal

pub loop-place-init : goal.loop-place-init
loop-place-init c =
    let es = c.args.exporters.now in
    let start : Place = (c.args.wanted, c.from_string.result) in
    let range : IsRangeOf place_cmp (Included start) Unbounded es c.range-place-items.result = c.range-place-items.ensures.in_range (search rules) in
    let between : c.range-place-items.result ≡ entries_between place_cmp (Included start) Unbounded es.entries = c.range-place-items.ensures.between (search rules) in
    let at : start ≡ (c.args.wanted, []) = ap (λ u. (let p : Place = (c.args.wanted, u) in p)) (c.from_string.ensures ∙ c.new.ensures.bytes) in
    let all : Ahead es c.args.wanted c.args.except c.range-place-items.result = ahead_of_range es c.args.wanted start c.range-place-items.result between c.args.except at c.range-place-items.ensures.ordered range in
    (tt, tt, subst (Ahead es c.args.wanted c.args.except) (sym c.into_iter-place-iterator.ensures.into_iter_gives) all)

pub loop-place-preserved : goal.loop-place-preserved
loop-place-preserved c =
    let es = c.args.exporters.now in
    let e : Place × Slot = (c.in-Some.place.now, c.in-Some.slot.now) in
    let ahead : Ahead es c.args.wanted c.args.except (e ∷ c.next.new.self) = subst (Ahead es c.args.wanted c.args.except) c.in-Some.ensures.steps c.loop-place.invariant.2 in
    (tt, tt, ahead_behind es c.args.wanted c.args.except e c.next.new.self ahead c.in_default.ensures)

pub returns-then-place-wanted : goal.returns-then-place-wanted
returns-then-place-wanted c =
    let es = c.args.exporters.now in
    let e : Place × Slot = (c.in-Some.place.now, c.in-Some.slot.now) in
    let ahead : Ahead es c.args.wanted c.args.except (e ∷ c.next.new.self) = subst (Ahead es c.args.wanted c.args.except) c.in-Some.ensures.steps c.loop-place.invariant.2 in
    none_beyond es c.args.wanted c.args.except e c.next.new.self ahead c.if-place-wanted.true

pub returns-in-Some-target_of : goal.returns-in-Some-target_of
returns-in-Some-target_of c =
    let es = c.args.exporters.now in
    let e : Place × Slot = (c.in-Some.place.now, c.in-Some.slot.now) in
    let ahead : Ahead es c.args.wanted c.args.except (e ∷ c.next.new.self) = subst (Ahead es c.args.wanted c.args.except) c.in-Some.ensures.steps c.loop-place.invariant.2 in
    least_here es c.args.wanted c.args.except e c.next.new.self ahead c.if-place-wanted.false c.in-Some-target_of.target c.in-Some-target_of.ensures.0 c.in-Some-target_of.ensures.1
