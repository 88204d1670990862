-- One place more.
use Rattle.std.proofs.Common.{◌≡◌, [], ◌∷◌, ◌++◌, None, map, reverse, sym, ap, ◌∙◌}
use Rattle.std.proofs.lemmas.List.{reverse-append, map-append, length-append}
use Rattle.lw_viable.specs.Growing.{changed, read}
use Rattle.lw_viable.proofs.Made.{grows_on, made_as, made_place}
use Rattle.lw_viable.proofs.lists.Lists.places.Goals as goal

pub loop-place-preserved : goal.loop-place-preserved
loop-place-preserved c =
    let before = c.loop-place.yielded in
    let more = c.in-Some.place ∷ [] in
    let turned : c.in-Some.place.now ∷ reverse (map (λ p. p.now) before) ≡ reverse (map (λ p. p.now) (before ++ more)) =
    sym (ap reverse (map-append (λ p. p.now) before more) ∙ reverse-append (map (λ p. p.now) before) (c.in-Some.place.now ∷ [])) in
    record {
      grows = grows_on c.loop-place.invariant.grows c.place.ensures.grows;
      made =
          made_as (sym (length-append before more)) (ap (λ places. changed (read c.args.self.now c.args.front) (None, places)) turned)
          (made_place None (c.in-Some.place.now ∷ []) (reverse (map (λ p. p.now) before)) c.loop-place.invariant.made c.in_ok-made.ensures.made);
    }
