use Rattle.std.proofs.lemmas.Result.{on_ok_weaker}
use Rattle.lw_first.proofs.HeadLemmas.{adds_as, adds_none}
use Rattle.lw_first.proofs.CallForms.{token_before, called_before, nothing_before}
use Rattle.lw_first.proofs.first.First.call.Goals as goal

pub returns-in-Token : goal.returns-in-Token
returns-in-Token c kinds are =
    let first = c.args.self.now in
    on_ok_weaker c.token.result (adds_as c.args.into.now c.token.new.into
    (token_before first.lexicon.g.now kinds first.k first.heads.now c.args.name.now c.args.after.now c.in-Token.kind.0 (c.in-Token.ensures kinds are)))
    c.token.ensures

pub returns-in-Rule : goal.returns-in-Rule
returns-in-Rule c kinds are =
    let first = c.args.self.now in
    let (rule, is) = c.in-Rule.ensures kinds are in
    on_ok_weaker c.rule.result (adds_as c.args.into.now c.rule.new.into
    (called_before first.lexicon.g.now kinds first.k first.heads.now c.args.name.now c.args.after.now c.in-Rule.number rule is))
    c.rule.ensures

pub returns-in-Nothing : goal.returns-in-Nothing
returns-in-Nothing c kinds are =
    let first = c.args.self.now in
    let (no_token, no_rule) = c.in-Nothing.ensures kinds are in
    adds_none c.args.into.now (nothing_before first.lexicon.g.now kinds first.k first.heads.now c.args.name.now c.args.after.now no_token no_rule)
