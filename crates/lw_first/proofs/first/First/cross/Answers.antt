use Rattle.std.proofs.lemmas.Result.{on_ok_weaker}
use Rattle.lw_first.proofs.HeadLemmas.{adds_as}
use Rattle.lw_first.proofs.CallForms.{cross_before}
use Rattle.lw_first.proofs.first.First.cross.Goals as goal

pub returns-in-Some : goal.returns-in-Some
returns-in-Some c kinds are =
    let first = c.args.self.now in
    on_ok_weaker c.call.result (adds_as c.args.into.now c.call.new.into
    (cross_before first.lexicon.g.now kinds first.k first.heads.now c.in-Some.name.now c.args.after.now c.args.wanted.now c.args.written.now c.in-Some.ensures))
    (c.call.ensures kinds are)
