use Rattle.std.proofs.Common.{IfSome, refl, ◌∙◌, subst, arith}
use Rattle.std.proofs.lemmas.List.{nil_from_length}
use Rattle.std.proofs.lemmas.Option.{IfSome_then}
use Rattle.std.proofs.lemmas.Result.{err_from_is_err_and}
use Rattle.lw_load.specs.declared.walk.Walk.{Walk}
use Rattle.lw_load.specs.Opening.{CannotLoad}
use Rattle.lw_load.specs.Walking.{Goes}
use Rattle.lw_load.proofs.Kept.{keeps_begins, keeps_goes, fewer_left}
use Rattle.lw_load.proofs.Ways.{Takes, told_begins, told_goes, told_stops, told_nowhere, root_stops, root_nowhere, way_ends, way_only}
use Rattle.lw_load.proofs.loader.load.Goals as goal

-- ---- the root

pub returns-in_err-walk-clause-fault : goal.returns-in_err-walk-clause-fault
returns-in_err-walk-clause-fault g c =
    let p = err_from_is_err_and c.from_residual.result c.from_residual.ensures.1 in
    rw (p.1, p.2) (IfSome_then (g.F.Store.files c.args.store.now) c.in_err-walk.ensures.fault (λ files why. root_stops files c.args.root.now c.in_err-walk.field-0.0 why))

pub returns-in_err-walk-clause-nothing : goal.returns-in_err-walk-clause-nothing
returns-in_err-walk-clause-nothing g c =
    let p = err_from_is_err_and c.from_residual.result c.from_residual.ensures.1 in
    rw (p.1, p.2) (IfSome_then (g.F.Store.files c.args.store.now) c.in_err-walk.ensures.fault (λ files why. root_nowhere files c.args.root.now c.in_err-walk.field-0.0 why))

pub walking-init : goal.walking-init
walking-init g c = record {
  keeps = keeps_begins (g.F.Store.files c.args.store.now) c.args.root.now c.in_ok-walk.walk c.in_ok-walk.ensures.begins;
  way = told_begins (g.F.Store.files c.args.store.now) c.args.root.now c.in_ok-walk.walk c.in_ok-walk.ensures.begins;
  files = c.in_ok-walk.ensures.files;
  count = c.in_ok-walk.ensures.store;
}

-- ---- the paths that wait

pub walking-smaller : goal.walking-smaller
walking-smaller g c =
    let old = c.walking.walk in
    let now : Walk = record old { waiting = c.pop.new.self } in
    let takes : Takes old c.in-Some.path now = record { whole = refl; texts = refl; seen = refl; size = refl; waiting = c.in-Some.ensures.items } in
    fewer_left c.in-Some.path old now c.walking.invariant.keeps takes (g.F.Store.files c.walking.store) c.visit.new.self c.in_ok-visit.ensures.goes

pub walking-preserved : goal.walking-preserved
walking-preserved g c =
    let old = c.walking.walk in
    let now : Walk = record old { waiting = c.pop.new.self } in
    let takes : Takes old c.in-Some.path now = record { whole = refl; texts = refl; seen = refl; size = refl; waiting = c.in-Some.ensures.items } in
    record {
      keeps = keeps_goes c.in-Some.path old now c.walking.invariant.keeps takes (g.F.Store.files c.walking.store) c.visit.new.self c.in_ok-visit.ensures.goes;
      way =
          told_goes (g.F.Store.files c.args.store.now) c.args.root.now c.in-Some.path old now c.visit.new.self c.walking.invariant.way takes
          (subst (λ told. Goes told c.in-Some.path now c.visit.new.self) c.walking.invariant.files c.in_ok-visit.ensures.goes);
      files = c.in_ok-visit.ensures.files ∙ c.walking.invariant.files;
      count = c.in_ok-visit.ensures.store ∙ c.walking.invariant.count;
    }

pub returns-in_err-visit-clause-fault : goal.returns-in_err-visit-clause-fault
returns-in_err-visit-clause-fault g c =
    let p = err_from_is_err_and c.from_residual-in_err-visit.result c.from_residual-in_err-visit.ensures.1 in
    let old = c.walking.walk in
    let now : Walk = record old { waiting = c.pop.new.self } in
    let takes : Takes old c.in-Some.path now = record { whole = refl; texts = refl; seen = refl; size = refl; waiting = c.in-Some.ensures.items } in
    let found = c.in_err-visit.field-0.0 in
    let why = subst (λ told. IfSome told (λ files. CannotLoad files old.size c.in-Some.path found)) c.walking.invariant.files c.in_err-visit.ensures.fault in
    rw (p.1, p.2) (told_stops (g.F.Store.files c.args.store.now) c.args.root.now c.in-Some.path old now found c.walking.invariant.way takes c.in_err-visit.ensures.fresh why)

pub returns-in_err-visit-clause-nothing : goal.returns-in_err-visit-clause-nothing
returns-in_err-visit-clause-nothing g c =
    let p = err_from_is_err_and c.from_residual-in_err-visit.result c.from_residual-in_err-visit.ensures.1 in
    let old = c.walking.walk in
    let now : Walk = record old { waiting = c.pop.new.self } in
    let takes : Takes old c.in-Some.path now = record { whole = refl; texts = refl; seen = refl; size = refl; waiting = c.in-Some.ensures.items } in
    let found = c.in_err-visit.field-0.0 in
    let why = subst (λ told. IfSome told (λ files. CannotLoad files old.size c.in-Some.path found)) c.walking.invariant.files c.in_err-visit.ensures.fault in
    rw (p.1, p.2) (told_nowhere (g.F.Store.files c.args.store.now) c.args.root.now c.in-Some.path old now found c.walking.invariant.way takes c.in_err-visit.ensures.fresh why)

-- ---- none waits

pub returns-clause-loads : goal.returns-clause-loads
returns-clause-loads g c =
    let over = nil_from_length c.walking.walk.waiting.items (omega (arith, c.in_default.ensures.cases.0, c.walking.walk.waiting.ok.0)) in
    rw c.into_loaded.ensures (IfSome_then (g.F.Store.files c.args.store.now) c.walking.invariant.way (λ files way. way_ends files c.args.root.now c.walking.walk way over))

pub returns-clause-only : goal.returns-clause-only
returns-clause-only g c =
    let over = nil_from_length c.walking.walk.waiting.items (omega (arith, c.in_default.ensures.cases.0, c.walking.walk.waiting.ok.0)) in
    rw c.into_loaded.ensures (IfSome_then (g.F.Store.files c.args.store.now) c.walking.invariant.way (λ files way. way_only files c.args.root.now c.walking.walk way over))

pub returns-clause-formed : goal.returns-clause-formed
returns-clause-formed g c = rw c.into_loaded.ensures c.walking.invariant.keeps.formed.formed

pub returns-clause-filled : goal.returns-clause-filled
returns-clause-filled g c = rw c.into_loaded.ensures c.walking.invariant.keeps.formed.filled
