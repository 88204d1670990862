-- The readings stay, and with those at which a value ends they tell what was read.
use Rattle.std.proofs.Common.{List, map, sym, ◌∙◌, subst}
use Rattle.std.proofs.lemmas.Result.{IfOk-weaker}
use Rattle.lw_program.specs.Says.{Task}
use Rattle.lw_program.specs.declared.recipes.mark.TreeMark.{TreeMark}
use Rattle.lw_viable.specs.Aims.{Fulfils}
use Rattle.lw_viable.specs.Growing.{marks_of_each, read}
use Rattle.lw_viable.specs.Marked.{MeanExactly, MeanSome}
use Rattle.lw_viable.specs.ReadSoFar.{IsReadSoFar}
use Rattle.lw_viable.specs.Visiting.{AreWithEnded}
use Rattle.lw_viable.specs.declared.due.Due.TheVariants.{End}
use Rattle.lw_viable.proofs.Holding.{by_found, can_visit, still, with_same}
use Rattle.lw_viable.proofs.ReadSoFar.{each_read, handed_are, read_told}
use Rattle.lw_viable.proofs.fronts.Fronts.readings.Goals as goal

pub visit-requires-clause-known : goal.visit-requires-clause-known
visit-requires-clause-known c =
    let (g, kinds, tasks, aim, ks, hold) = c.requires.known in
    let own = with_same c.sought-sought.ensures.program c.sought-sought.ensures.begins c.self.view_is in
    can_visit End c.self.inside.lists own c.as_slice.ensures.value hold tt

pub returns-in_err-ends-clause-same : goal.returns-in_err-ends-clause-same
returns-in_err-ends-clause-same c = still c.self.inside.program.now c.self.inside.begins.now c.visit.ensures.grows c.self.inside.kept.items c.self.invariant ∙ c.self.view_is

pub returns-clause-all : goal.returns-clause-all
returns-clause-all c g kinds tasks aim ks hold some supplied =
    let own = with_same c.sought-sought.ensures.program c.sought-sought.ensures.begins c.self.view_is in
    let old = c.self.inside.lists in
    let kept = c.self.inside.kept.items in
    let lists = c.visit.new.lists in
    let found = c.in_ok-ends.ends.items in
    let Told : List Task → List (List TreeMark) → Type 0 = λ tasks all. MeanExactly g (IsReadSoFar (Fulfils g kinds tasks aim) ks) all in
    IfOk-weaker c.marks_with_ends.result (λ all. AreWithEnded (marks_of_each lists c.as_slice-2.result.now) (marks_of_each lists c.as_slice-3.result.now) all.items) (λ all. Told tasks all.items)
    (λ all are.
    let (ended, made, is) = handed_are c.visit.ensures.grows c.self.invariant c.as_slice-2.ensures.value c.as_slice-3.ensures.value are in
    by_found End old own c.as_slice.ensures.value hold tt c.in_ok-ends.ensures.finds (λ tasks. Told tasks all.items)
    (λ known keeps finds.
    subst (Told known.program.tasks) (sym is)
    (read_told g kinds known (Fulfils g kinds known.program.tasks aim) (map (read old) kept) (map (read lists) found) keeps finds ended made some supplied))) c.marks_with_ends.ensures

pub returns-clause-each : goal.returns-clause-each
returns-clause-each c g kinds tasks aim ks hold =
    let own = with_same c.sought-sought.ensures.program c.sought-sought.ensures.begins c.self.view_is in
    let old = c.self.inside.lists in
    let kept = c.self.inside.kept.items in
    let lists = c.visit.new.lists in
    let found = c.in_ok-ends.ends.items in
    IfOk-weaker c.marks_with_ends.result (λ all. AreWithEnded (marks_of_each lists c.as_slice-2.result.now) (marks_of_each lists c.as_slice-3.result.now) all.items) (λ all. MeanSome g all.items)
    (λ all are.
    let (ended, made, is) = handed_are c.visit.ensures.grows c.self.invariant c.as_slice-2.ensures.value c.as_slice-3.ensures.value are in
    by_found End old own c.as_slice.ensures.value hold tt c.in_ok-ends.ensures.finds (λ tasks. MeanSome g all.items)
    (λ known keeps finds.
    subst (MeanSome g) (sym is) (each_read g kinds known (Fulfils g kinds known.program.tasks aim) (map (read old) kept) (map (read lists) found) keeps finds ended made))) c.marks_with_ends.ensures

pub returns-clause-same : goal.returns-clause-same
returns-clause-same c = still c.self.inside.program.now c.self.inside.begins.now c.visit.ensures.grows c.self.inside.kept.items c.self.invariant ∙ c.self.view_is
