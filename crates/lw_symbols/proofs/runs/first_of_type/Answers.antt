use Rattle.lw_symbols.proofs.Typed.{none_of_type, none_of_run, of_run}
use Rattle.lw_symbols.proofs.runs.first_of_type.Goals as goal

pub returns-in_err-place : goal.returns-in_err-place
returns-in_err-place c =
    rw c.from_residual.ensures
    (none_of_type c.args.container c.args.hash c.args.tree.now c.args.name.now c.args.type_id.0 c.args.symbols.now c.in_err-place.ensures)

pub returns-then-run-type_id : goal.returns-then-run-type_id
returns-then-run-type_id c =
    none_of_run c.args.container c.args.hash c.args.tree.now c.args.name.now c.args.type_id.0 c.args.symbols.now c.in_ok-place.place c.in_ok-place.run'
    c.in_ok-place.ensures c.if-run-type_id.true

pub returns : goal.returns
returns c =
    of_run c.args.container c.args.hash c.args.tree.now c.args.name.now c.args.type_id.0 c.args.symbols.now c.in_ok-place.place c.in_ok-place.run' c.in_ok-place.ensures
    c.if-run-type_id.false c.first_called.result c.first_called.ensures
