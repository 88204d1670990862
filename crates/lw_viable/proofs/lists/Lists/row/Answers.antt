-- One place more, and the end.
use Rattle.std.proofs.Common.{◌≡◌, ◌+◌, ◌-◌, ◌<◌, inl, [], ◌∷◌, None, ap, ◌∙◌, sym, arith}
use Rattle.lw_viable.specs.Growing.{changed, read}
use Rattle.lw_viable.specs.Moves.{side_by_side}
use Rattle.lw_viable.proofs.Made.{grows_on, made_as, made_place, side_by_side_more, row_whole}
use Rattle.lw_viable.proofs.lists.Lists.row.Goals as goal

pub loop-place-preserved : goal.loop-place-preserved
loop-place-preserved c =
    let place = c.loop-place.place - 1 in
    let end = c.args.end in
    let behind : place + 1 ≡ c.loop-place.place = omega arith in
    let before : place < end = omega arith in
    let count : (end - c.loop-place.place) + 1 ≡ end - place = omega arith in
    let more : place ∷ side_by_side c.loop-place.place (end - c.loop-place.place) ≡ side_by_side place (end - place) =
    sym (side_by_side_more place end before ∙ ap (λ p. place ∷ side_by_side p (end - p)) behind) in
    record {
      from = inl (omega arith);
      grows = grows_on c.loop-place.invariant.grows c.place.ensures.grows;
      made =
          made_as count (ap (λ places. changed (read c.args.self.now c.args.front) (None, places)) more)
          (made_place None (place ∷ []) (side_by_side c.loop-place.place (end - c.loop-place.place)) c.loop-place.invariant.made c.in_ok-made.ensures.made);
    }

pub returns-clause-made : goal.returns-clause-made
returns-clause-made c =
    let (count, places) = row_whole c.args.first c.args.end c.loop-place.place c.loop-place-test.false c.loop-place.invariant.from in
    made_as count (ap (λ places. changed (read c.args.self.now c.args.front) (None, places)) places) c.loop-place.invariant.made
