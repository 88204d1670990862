use Rattle.std.proofs.Common.{◌≡◌, [], sym, ap, ◌∙◌, lit<, map, reverse}
use Rattle.std.proofs.lemmas.Iterator.Consumers.{YieldsList-at, YieldsList-end}
use Rattle.std.proofs.lemmas.Iterator.Splits.{YieldsList-from_str_split}
use Rattle.std.proofs.lemmas.List.{reverse-reverse}
use Rattle.std.specs.List.{fold}
use Rattle.lw_load.specs.Paths.{walk_on, segments}
use Rattle.lw_load.proofs.PathSegments.{segments-split, walk-fold}
use Rattle.lw_load.proofs.paths.walked_segments.Goals as goal

pub returns : goal.returns
returns c =
    let cut = YieldsList-from_str_split 47 c.args.path.now (lit< tt) c.split-segment-items.ensures.text c.split-segment-items.ensures.has_more c.split-segment-items.ensures.pattern in
    let all = YieldsList-end (YieldsList-at c.into_iter-segment-iterator.ensures.into_iter_gives cut) c.loop-segment.yielded _ c.loop-segment.yielded_by _ _ c.in-None.is c.next.ensures.steps in
    let yielded : map (λ s. s.now) c.loop-segment.yielded ≡ segments c.args.path.now = all.0 ∙ sym (segments-split c.args.path.now) in
    sym (reverse-reverse (map (λ s. s.now) c.loop-segment.kept.items))
    ∙ ap reverse (c.loop-segment.invariant ∙ ap (fold (walk_on c.args.absolute) []) yielded)
    ∙ sym (walk-fold c.args.absolute [] (segments c.args.path.now))
