use Rattle.std.proofs.Common.{◌≡◌, ◌<◌, ◌∷◌, [], ltb, length, Some, slice_get, get_or, refl, sym, ap, ◌∙◌, subst, arith}
use Rattle.std.proofs.lemmas.List.{get_or_default}
use Rattle.std.proofs.lemmas.Option.{slice_get_read}
use Rattle.lw_first.specs.declared.heads.head.Head.TheVariants.{Nothing}
use Rattle.lw_first.specs.Sets.{AddsHeads, IsAmongHeads}
use Rattle.lw_look.specs.Sites.{Body}
use Rattle.lw_first.specs.Before.{CanBefore}
use Rattle.lw_first.specs.Rounds.{GrewOrSame}
use Rattle.lw_first.proofs.GrownSets.{grew_or_same}
use Rattle.lw_first.proofs.RoundSteps.{grows_at}
use Rattle.lw_first.proofs.rounds.Work.grow.Goals as goal

pub returns-clause-grows : goal.returns-clause-grows
returns-clause-grows c kinds are =
    let g = c.args.self.now.lexicon.g.now in
    let sets = c.args.sets.now in
    let within = c.requires.within in
    let own = get_or sets c.args.number c.index-sets-number.result in
    let rule = c.index-as_slice-number.result in
    let heads = c.element.new.into in
    let inside : c.args.number < length c.as_slice.result.now = omega (arith, within, c.requires.all, ap length c.as_slice.ensures) in
    let there : slice_get g.rules c.args.number ≡ Some rule =
    subst (λ rules. slice_get rules c.args.number ≡ Some rule) c.as_slice.ensures
    (slice_get_read c.as_slice.result.now (length c.as_slice.result.now) c.args.number rule refl inside c.index-as_slice-number.is) in
    grows_at g kinds c.args.self.now.k sets c.args.number own c.insert_all.new.self heads rule within (get_or_default sets c.args.number c.index-sets-number.result own within) there
    (subst (λ none. AddsHeads (CanBefore g kinds c.args.self.now.k sets (Body rule.body) (Nothing ∷ [])) none heads) c.new-heads.ensures (c.in_ok-element.ensures kinds are))
    (subst (λ found. AddsHeads (IsAmongHeads found) own c.insert_all.new.self) c.as_slice-2.ensures c.in_ok-insert_all.ensures.adds)

pub returns-clause-grew : goal.returns-clause-grew
returns-clause-grew c =
    let sets = c.args.sets.now in
    let within = c.requires.within in
    let own = get_or sets c.args.number c.index-sets-number.result in
    let new = c.insert_all.new.self in
    let test : ltb (length own) (length new) ≡ ltb c.len-before.result c.len.result =
    ap (λ n. ltb n (length new)) (sym c.len-before.ensures.count) ∙ ap (ltb c.len-before.result) (sym c.len.ensures.count) in
    subst (GrewOrSame sets _) test
    (grew_or_same sets c.args.number own new within (get_or_default sets c.args.number c.index-sets-number.result own within) c.in_ok-insert_all.field-0 c.len.ensures.few
    c.in_ok-insert_all.ensures.grows c.in_ok-insert_all.ensures.same)
