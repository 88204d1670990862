-- The readings stay, and those that go on by the kind tell.
use Rattle.std.proofs.Common.{◌↔◌, ◌∷◌, [], ◌++◌, IsTrue, not, map, vec_len, sym, ◌∙◌, subst}
use Rattle.std.proofs.lemmas.List.{length-map}
use Rattle.lw_viable.specs.Aims.{Fulfils, BeginsSome}
use Rattle.lw_viable.specs.Fronts.{HoldReadings}
use Rattle.lw_viable.specs.Growing.{AreHeldIn, read}
use Rattle.lw_viable.proofs.Ending.{begins_told}
use Rattle.lw_viable.proofs.Holding.{by_known, still, with_same}
use Rattle.lw_viable.proofs.fronts.Fronts.may_read.Goals as goal

pub returns-in_err-found-clause-same : goal.returns-in_err-found-clause-same
returns-in_err-found-clause-same c = still c.self.inside.program.now c.self.inside.begins.now c.explore.ensures.grows c.self.inside.kept.items c.self.invariant ∙ c.self.view_is

pub returns-clause-told : goal.returns-clause-told
returns-clause-told c g kinds tasks aim ks hold within supplied =
    let own = with_same c.sought-sought.ensures.program c.sought-sought.ensures.begins c.self.view_is in
    let found = c.in_ok-found.found in
    by_known _ (subst (HoldReadings g kinds tasks aim ks) (sym own) hold)
    (λ tasks. IsTrue (not c.is_empty.result) ↔ BeginsSome (Fulfils g kinds tasks aim) (ks ++ c.args.kind.0 ∷ []))
    (λ known keeps.
    let whole = Fulfils g kinds known.program.tasks aim in
    begins_told g kinds known whole (map (read c.explore.new.lists) found.items)
    (c.in_ok-found.ensures.keeps g kinds aim ks c.args.kind known c.sought-sought.ensures.kind within
    (subst (AreHeldIn g kinds known.program.tasks aim ks c.self.inside.lists) (sym c.as_slice.ensures.value) keeps))
    c.is_empty.result (vec_len found) supplied c.is_empty.ensures (found.ok.0 ∙ sym (length-map found.items (read c.explore.new.lists))))

pub returns-clause-same : goal.returns-clause-same
returns-clause-same c = still c.self.inside.program.now c.self.inside.begins.now c.explore.ensures.grows c.self.inside.kept.items c.self.invariant ∙ c.self.view_is
