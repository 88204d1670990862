use Rattle.std.proofs.Common.{◌<◌, length, arith}
use Rattle.std.proofs.lemmas.Option.{slice_get-get_or}
use Rattle.lw_symbols.proofs.RunLemmas.{none_called, none_more, called_there, one_more, stands_for}
use Rattle.lw_symbols.proofs.runs.first_called.Goals as goal
use Rattle.lw_symbols.proofs.runs.first_called.Goals.{then-s-run-via-then-s-run, then-s-run-via-else-s-run+then-s-run-2, then-s-run-via-else-s-run+else-s-run-2+then-s-run-3}

pub returns-then-s-run : goal.returns-then-s-run
returns-then-s-run c =
    let inside : c.loop-place.place < length c.args.symbols.now = omega arith in
    none_called c.args.symbols.now c.args.tree.now c.args.name.now c.requires.symbols c.args.run c.args.from c.requires.there c.loop-place.place
    c.loop-place.auto.place c.loop-place.invariant _ (slice_get-get_or c.args.symbols.now c.loop-place.place _ inside)
    (λ in_run. elim c.then-s-run.branch [
      | then-s-run-via-then-s-run w ↦ w.if-s-run.true in_run.0.0
      | then-s-run-via-else-s-run+then-s-run-2 w ↦ w.if-s-run-2.true in_run.0.1
      | then-s-run-via-else-s-run+else-s-run-2+then-s-run-3 w ↦ w.if-s-run-3.true in_run.1
    ])

pub is_called-requires : goal.is_called-requires
is_called-requires c =
    let inside : c.loop-place.place < length c.args.symbols.now = omega arith in
    stands_for c.args.tree.now c.args.symbols.now c.loop-place.place _ c.requires.symbols (slice_get-get_or c.args.symbols.now c.loop-place.place _ inside)

pub returns-then-is_called : goal.returns-then-is_called
returns-then-is_called c =
    let inside : c.loop-place.place < length c.args.symbols.now = omega arith in
    called_there c.args.symbols.now c.args.tree.now c.args.name.now c.requires.symbols c.args.run c.args.from c.requires.there c.loop-place.place
    c.loop-place.auto.place c.loop-place.invariant _ (slice_get-get_or c.args.symbols.now c.loop-place.place _ inside)
    ((c.if-s-run.false, c.if-s-run-2.false), c.if-s-run-3.false) (c.is_called.ensures.yes c.if-is_called.true)

pub loop-place-preserved : goal.loop-place-preserved
loop-place-preserved c =
    let inside : c.loop-place.place < length c.args.symbols.now = omega arith in
    one_more c.args.symbols.now c.args.tree.now c.args.name.now c.requires.symbols c.args.run c.args.from c.requires.there c.loop-place.place
    c.loop-place.auto.place c.loop-place.invariant _ (slice_get-get_or c.args.symbols.now c.loop-place.place _ inside)
    (c.is_called.ensures.no c.if-is_called.false)

pub returns : goal.returns
returns c =
    none_more c.args.symbols.now c.args.tree.now c.args.name.now c.requires.symbols c.args.run c.args.from c.requires.there c.loop-place.place
    c.loop-place.auto.place c.loop-place.invariant (omega arith)
