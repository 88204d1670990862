use Rattle.std.proofs.lemmas.Result.{on_ok_weaker}
use Rattle.lw_first.proofs.HeadLemmas.{adds_as}
use Rattle.lw_first.proofs.CallForms.{keyword_before}
use Rattle.lw_first.proofs.first.First.keyword.Goals as goal

pub returns-in-Some : goal.returns-in-Some
returns-in-Some c kinds are =
    on_ok_weaker c.token.result (adds_as c.args.into.now c.token.new.into
    (keyword_before c.args.self.now.lexicon.g.now kinds are c.args.self.now.k c.args.text.now c.args.after.now c.in-Some.kind.0 (c.in-Some.ensures kinds are)))
    c.token.ensures
