-- The readings stay, and those at which a reference is put tell where one starts.
use Rattle.std.proofs.Common.{All, map, sym, ◌∙◌, subst}
use Rattle.std.specs.List.{AllZip}
use Rattle.std.proofs.lemmas.Result.{IfOk-weaker}
use Rattle.lw_viable.specs.Aims.{Fulfils}
use Rattle.lw_viable.specs.Growing.{read}
use Rattle.lw_viable.specs.ReferenceStarts.{IsBeforeStart, AreReferenceStarts}
use Rattle.lw_viable.specs.Visiting.{StandsBeforePut}
use Rattle.lw_viable.specs.declared.due.Due.TheVariants.{Reference}
use Rattle.lw_viable.proofs.Handed.{zip_mapped, puts_found, starts_found}
use Rattle.lw_viable.proofs.Holding.{by_found, can_visit, still, with_same}
use Rattle.lw_viable.proofs.fronts.Fronts.references.Goals as goal

pub visit-requires-clause-known : goal.visit-requires-clause-known
visit-requires-clause-known c =
    let (g, kinds, tasks, aim, ks, hold, told) = c.requires.known in
    let own = with_same c.sought-sought.ensures.program c.sought-sought.ensures.begins c.self.view_is in
    can_visit (Reference c.args.recipes) c.self.inside.lists own c.as_slice.ensures.value hold told

pub returns-in_err-found-clause-same : goal.returns-in_err-found-clause-same
returns-in_err-found-clause-same c = still c.self.inside.program.now c.self.inside.begins.now c.visit.ensures.grows c.self.inside.kept.items c.self.invariant ∙ c.self.view_is

pub reference_starts-requires-clause-put : goal.reference_starts-requires-clause-put
reference_starts-requires-clause-put c =
    let (g, kinds, tasks, aim, ks, hold, told) = c.requires.known in
    let own = with_same c.sought-sought.ensures.program c.sought-sought.ensures.begins c.self.view_is in
    let lists = c.visit.new.lists in
    subst (All (λ front. StandsBeforePut c.sought-sought.result.program.now (read lists front).rest)) (sym c.as_slice-2.ensures.value)
    (by_found (Reference c.args.recipes) c.self.inside.lists own c.as_slice.ensures.value hold told c.in_ok-found.ensures.finds
    (λ tasks. All (λ front. StandsBeforePut c.sought-sought.result.program.now (read lists front).rest) c.in_ok-found.found.items)
    (λ known keeps finds. puts_found g kinds known (Fulfils g kinds known.program.tasks aim) ks c.args.recipes lists c.in_ok-found.found.items finds))

pub returns-clause-starts : goal.returns-clause-starts
returns-clause-starts c g kinds tasks aim ks hold told =
    let own = with_same c.sought-sought.ensures.program c.sought-sought.ensures.begins c.self.view_is in
    let program = c.sought-sought.result.program.now in
    let lists = c.visit.new.lists in
    let found = c.in_ok-found.found.items in
    IfOk-weaker c.reference_starts.result (λ starts. AllZip (λ front. IsBeforeStart program (read lists front)) c.as_slice-2.result.now starts.items)
    (λ starts. AreReferenceStarts g kinds tasks c.args.recipes.now (Fulfils g kinds tasks aim) ks starts.items) (λ starts zip.
    by_found (Reference c.args.recipes) c.self.inside.lists own c.as_slice.ensures.value hold told c.in_ok-found.ensures.finds
    (λ tasks. AreReferenceStarts g kinds tasks c.args.recipes.now (Fulfils g kinds tasks aim) ks starts.items)
    (λ known keeps finds.
    starts_found g kinds known (Fulfils g kinds known.program.tasks aim) ks c.args.recipes (map (read lists) found) starts.items finds
    (zip_mapped (read lists) (IsBeforeStart program) found starts.items
    (subst (λ fronts. AllZip (λ front. IsBeforeStart program (read lists front)) fronts starts.items) c.as_slice-2.ensures.value zip)))) c.reference_starts.ensures

pub returns-clause-same : goal.returns-clause-same
returns-clause-same c = still c.self.inside.program.now c.self.inside.begins.now c.visit.ensures.grows c.self.inside.kept.items c.self.invariant ∙ c.self.view_is
