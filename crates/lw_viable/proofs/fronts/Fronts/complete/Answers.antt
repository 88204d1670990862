-- A reading that may end, one more that may not, and none.
use Rattle.std.proofs.Common.{◌≡◌, All, Any, get_or, map, take, sym, ◌∙◌, subst, refl, true≢false}
use Rattle.std.specs.List.{AllByRecursion}
use Rattle.std.proofs.lemmas.List.{take_all}
use Rattle.std.proofs.lemmas.List.Elements.{All-map, All-more, All-contains, Contains-get_or}
use Rattle.lw_viable.specs.Fronts.{HoldReadings}
use Rattle.lw_viable.specs.Growing.{read}
use Rattle.lw_viable.specs.Readings.{KeptReading}
use Rattle.lw_viable.specs.Turning.{MayBePassed}
use Rattle.lw_viable.specs.declared.front.Front.{Front}
use Rattle.lw_viable.proofs.Exploring.{any_mapped, of_any}
use Rattle.lw_viable.proofs.Holding.{held_ends}
use Rattle.lw_viable.proofs.fronts.Fronts.complete.Goals as goal

empty : Front
empty = record { marks = record { 0 = 0 }; rest = record { 0 = 0 } }

pub returns-then-may_end : goal.returns-then-may_end
unfolding empty
returns-then-may_end c g kinds tasks aim ks hold =
    let here = subst (HoldReadings g kinds tasks aim ks) (sym c.self.view_is) hold in
    let lists = c.self.inside.lists in
    let items = c.deref-front-items.result.now in
    let i = c.loop-front.front-index in
    let MayEnd : KeptReading → Type 0 = λ r. AllByRecursion (MayBePassed c.self.inside.begins.now) r.rest in
    let some : Any MayEnd (map (read lists) items) =
    any_mapped MayEnd (read lists) items (get_or items i empty) (Contains-get_or items i empty c.loop-front-test.true) (c.may_end.ensures.0 c.if-may_end.true) in (
      λ is. (held_ends _ here).0 (subst (λ items. Any MayEnd (map (read lists) items)) c.deref-front-items.ensures.value some),
      λ whole. refl,
    )

pub loop-front-preserved : goal.loop-front-preserved
unfolding empty
loop-front-preserved c =
    All-more (λ front. ¬ AllByRecursion (MayBePassed c.self.inside.begins.now) (read c.self.inside.lists front).rest) c.deref-front-items.result.now c.loop-front.front-index empty
    c.loop-front-test.true c.loop-front.invariant (λ ends. true≢false (sym (c.may_end.ensures.1 ends) ∙ c.if-may_end.false))

pub returns : goal.returns
returns c g kinds tasks aim ks hold =
    let here = subst (HoldReadings g kinds tasks aim ks) (sym c.self.view_is) hold in
    let lists = c.self.inside.lists in
    let MayEnd : KeptReading → Type 0 = λ r. AllByRecursion (MayBePassed c.self.inside.begins.now) r.rest in
    let whole_list : take c.loop-front.front-index c.deref-front-items.result.now ≡ c.self.inside.kept.items =
    take_all c.loop-front.front-index c.deref-front-items.result.now c.loop-front-test.false ∙ c.deref-front-items.ensures.value in
    let none : All (λ r. ¬ MayEnd r) (map (read lists) c.self.inside.kept.items) =
    All-map (λ r. ¬ MayEnd r) (read lists) c.self.inside.kept.items (subst (All (λ front. ¬ MayEnd (read lists front))) whole_list c.loop-front.invariant) in (
      λ is. absurd (true≢false (sym is)),
      λ whole.
          let (r, has, ends) = of_any MayEnd (map (read lists) c.self.inside.kept.items) ((held_ends _ here).1 whole) in
          absurd (All-contains (λ r. ¬ MayEnd r) (map (read lists) c.self.inside.kept.items) r none has ends),
    )
