-- What is kept is what was found, in order, each once.
use Rattle.std.proofs.Common.{◌≡◌, inr, List, subst, sym}
use Rattle.std.specs.List.{dedup}
use Rattle.std.proofs.lemmas.List.Filters.{dedup_is}
use Rattle.lw_check.specs.declared.sorting.KeyedDiagnostic.{KeyedDiagnostic}
use Rattle.lw_check.specs.Sorting.{diagnostics_of}
use Rattle.lw_check.specs.Telling.{AreTold, IsTold}
use Rattle.lw_check.proofs.Gathered.{of_nothing}
use Rattle.lw_check.proofs.InOrder.{keyed_eq, kept, in_order}
use Rattle.lw_check.proofs.sorting.sorted_diagnostics.Goals as goal

pub returns : goal.returns
returns c g types =
    let found = c.in_ok-diagnostics.diagnostics.items in
    let sorted = c.sort_unstable.new.self.items in
    let moved = c.sort_unstable.ensures.permutation in
    let left : c.dedup.new.self.items ≡ dedup keyed_eq sorted = dedup_is keyed_eq _ _ c.dedup.ensures.filtered in
    let tells = c.in_ok-diagnostics.ensures g types in
    let P : List KeyedDiagnostic → Type 0 = λ ds. AreTold g c.args.tree.now c.args.answers.now c.args.doc.0 c.args.index.now (diagnostics_of ds) in
    subst P (sym left) (record {
      exact = λ e. (λ has. of_nothing (IsTold g c.args.tree.now c.args.answers.now c.args.doc.0 c.args.index.now) e ((tells.exact e).0 ((kept found sorted moved e).0 has)), λ is. (kept found sorted moved e).1 ((tells.exact e).1 (inr is)));
      ordered = in_order found sorted moved c.sort_unstable.ensures.sorted;
    })
