-- The readings stay, and those that are done give the wholes.
use Rattle.std.proofs.Common.{◌≡◌, List, map, ◌∙◌}
use Rattle.std.proofs.lemmas.Result.{IfOk-weaker}
use Rattle.lw_grammar.specs.Marks.{kinds_of}
use Rattle.lw_program.specs.declared.recipes.mark.TreeMark.{TreeMark}
use Rattle.lw_program.specs.Says.{Task}
use Rattle.lw_viable.specs.Aims.{Fulfils}
use Rattle.lw_viable.specs.Growing.{marks_of_each, read}
use Rattle.lw_viable.specs.Marked.{MeanExactly, MeanSome}
use Rattle.lw_viable.specs.declared.due.Due.TheVariants.{Nothing}
use Rattle.lw_viable.proofs.Handed.{by_marks, each_found, wholes_found}
use Rattle.lw_viable.proofs.Holding.{by_found, can_visit, still, with_same}
use Rattle.lw_viable.proofs.fronts.Fronts.sentences.Goals as goal

pub visit-requires-clause-known : goal.visit-requires-clause-known
visit-requires-clause-known c =
    let (g, kinds, tasks, aim, ks, hold) = c.requires.known in
    let own = with_same c.sought-sought.ensures.program c.sought-sought.ensures.begins c.self.view_is in
    can_visit Nothing c.self.inside.lists own c.as_slice.ensures.value hold tt

pub returns-in_err-found-clause-same : goal.returns-in_err-found-clause-same
returns-in_err-found-clause-same c = still c.self.inside.program.now c.self.inside.begins.now c.visit.ensures.grows c.self.inside.kept.items c.self.invariant ∙ c.self.view_is

pub returns-clause-all : goal.returns-clause-all
returns-clause-all c g kinds tasks aim ks hold =
    let own = with_same c.sought-sought.ensures.program c.sought-sought.ensures.begins c.self.view_is in
    let lists = c.visit.new.lists in
    let found = c.in_ok-found.found.items in
    let Told : List Task → List (List TreeMark) → Type 0 = λ tasks all. MeanExactly g (λ m. Fulfils g kinds tasks aim m × (kinds_of m ≡ ks)) all in
    IfOk-weaker c.all_marks.result (λ all. all.items ≡ marks_of_each lists c.as_slice-2.result.now) (λ all. Told tasks all.items)
    (λ all are.
    by_marks (Told tasks) lists are c.as_slice-2.ensures.value
    (by_found Nothing c.self.inside.lists own c.as_slice.ensures.value hold tt c.in_ok-found.ensures.finds
    (λ tasks. Told tasks (map (λ r. r.marks) (map (read lists) found)))
    (λ known keeps finds. wholes_found g kinds known (Fulfils g kinds known.program.tasks aim) ks (map (read lists) found) finds))) c.all_marks.ensures

pub returns-clause-each : goal.returns-clause-each
returns-clause-each c g kinds tasks aim ks hold =
    let own = with_same c.sought-sought.ensures.program c.sought-sought.ensures.begins c.self.view_is in
    let lists = c.visit.new.lists in
    let found = c.in_ok-found.found.items in
    IfOk-weaker c.all_marks.result (λ all. all.items ≡ marks_of_each lists c.as_slice-2.result.now) (λ all. MeanSome g all.items)
    (λ all are.
    by_marks (MeanSome g) lists are c.as_slice-2.ensures.value
    (by_found Nothing c.self.inside.lists own c.as_slice.ensures.value hold tt c.in_ok-found.ensures.finds
    (λ tasks. MeanSome g (map (λ r. r.marks) (map (read lists) found)))
    (λ known keeps finds. each_found g kinds known (Fulfils g kinds known.program.tasks aim) ks (map (read lists) found) finds))) c.all_marks.ensures

pub returns-clause-same : goal.returns-clause-same
returns-clause-same c = still c.self.inside.program.now c.self.inside.begins.now c.visit.ensures.grows c.self.inside.kept.items c.self.invariant ∙ c.self.view_is
