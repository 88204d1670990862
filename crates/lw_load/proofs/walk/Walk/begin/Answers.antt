use Rattle.std.proofs.Common.{IfSome, subst, ◌∙◌}
use Rattle.std.proofs.lemmas.Result.{err_from_is_err_and}
use Rattle.lw_load.specs.declared.walk.Walk.{Walk}
use Rattle.lw_load.specs.Opening.{IsFound, CannotLoad}
use Rattle.lw_load.proofs.Denied.{too_large_told, too_large_counts}
use Rattle.lw_load.proofs.walk.Walk.begin.Goals as goal

pub returns-in_err-add-clause-fault : goal.returns-in_err-add-clause-fault
returns-in_err-add-clause-fault g c =
    let p = err_from_is_err_and c.from_residual-in_err-add.result c.from_residual-in_err-add.ensures.1 in
    let is = subst (λ path. IsFound (g.F.Store.files c.args.store.now) path c.in_ok-file.file) c.in_ok-copy.ensures c.in_ok-file.ensures.found in
    let told = g.F.Store.files c.args.store.now in
    let found = c.in_err-add.field-0.0 in
    rw (p.1, p.2)
    (subst (λ size. IfSome told (λ files. CannotLoad files size c.args.root.now found)) c.in_ok-walk.ensures.size
    (too_large_told told c.in_ok-walk.walk.size c.args.root.now c.in_ok-file.file found is c.in_err-add.ensures.fault))

pub returns-in_err-add-clause-store : goal.returns-in_err-add-clause-store
returns-in_err-add-clause-store g c =
    let p = err_from_is_err_and c.from_residual-in_err-add.result c.from_residual-in_err-add.ensures.1 in
    rw (p.1, p.2)
    (too_large_counts Walk (g.F.Store.count c.args.store.now) (g.F.Store.count c.open.new.store) c.in_ok-walk.walk.size c.in_ok-file.file c.in_err-add.field-0.0 c.in_err-add.ensures.fault c.in_ok-file.ensures.store)

pub returns-clause-begins : goal.returns-clause-begins
returns-clause-begins g c = record {
  file = c.in_ok-file.file;
  is = subst (λ path. IsFound (g.F.Store.files c.args.store.now) path c.in_ok-file.file) c.in_ok-copy.ensures c.in_ok-file.ensures.found;
  empty = c.in_ok-walk.walk;
  whole = c.in_ok-walk.ensures.whole;
  texts = c.in_ok-walk.ensures.texts;
  waiting = c.in_ok-walk.ensures.waiting;
  size = c.in_ok-walk.ensures.size;
  adds = c.in_ok-add.ensures.adds;
  seen = c.in_ok-add.ensures.seen ∙ c.in_ok-walk.ensures.seen;
}
