use Rattle.std.proofs.Common.{ℕ, List, refl, ◌∙◌}
use Rattle.std.proofs.lemmas.Result.{IfErr-weaker, on_ok_weaker}
use Rattle.lw_load.specs.Walking.{Goes}
use Rattle.lw_load.proofs.Seen.{seen_before, seen_first}
use Rattle.lw_load.proofs.Denied.{too_large_told}
use Rattle.lw_load.proofs.walk.Walk.visit.Goals as goal

pub returns-then-not-branch-clause-goes : goal.returns-then-not-branch-clause-goes
returns-then-not-branch-clause-goes g c =
    let seen = c.args.self.now.seen.keys in
    let had = seen_before seen c.mark.new.seen.keys c.in_ok-copy.field-0 c.args.path c.in_ok-copy.ensures c.in_ok-mark.field-0 c.if-not-branch.true c.in_ok-mark.ensures.new c.in_ok-mark.ensures.keys in
    Goes.known had.0 (record { whole = refl; texts = refl; seen = had.1; waiting = refl {A = List (List ℕ)}; size = refl })

pub returns-clause-goes : goal.returns-clause-goes
returns-clause-goes g c =
    let seen = c.args.self.now.seen.keys in
    let file = c.in_ok-file.file in
    let new = seen_first seen c.mark.new.seen.keys c.in_ok-copy.field-0 c.args.path c.in_ok-copy.ensures c.in_ok-mark.field-0 c.if-not-branch.false c.in_ok-mark.ensures.new c.in_ok-mark.ensures.keys in
    on_ok_weaker c.add.result
    (λ adds. Goes.opened file new.0 c.in_ok-file.ensures.found
    (record { whole = adds.whole; texts = adds.texts; waiting = adds.waiting; size = adds.size; fits = adds.fits }) (c.add.ensures.seen ∙ new.1)) c.add.ensures.adds

pub returns-clause-fault : goal.returns-clause-fault
returns-clause-fault g c =
    IfErr-weaker c.add.result _ _ (λ found why. too_large_told (g.F.Store.files c.args.store.now) c.args.self.now.size c.args.path c.in_ok-file.file found c.in_ok-file.ensures.found why) c.add.ensures.fault
