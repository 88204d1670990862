use Rattle.std.proofs.lemmas.Result.{on_ok_weaker}
use Rattle.lw_terminals.proofs.CallForms.{call_put}
use Rattle.lw_terminals.proofs.patterns.scribe.Scribe.put_call.Goals as goal

pub returns : goal.returns
returns c s =
    let scribe = c.args.self.now in
    on_ok_weaker c.put-2.result
    (λ closes. call_put scribe.g.now scribe.numbers.now scribe.written.now c.requires.knows c.args.name.now s c.in-Some.place c.in-Some.ensures c.requires.ready
    c.index-self-place.result c.index-self-place.is c.args.draft.now c.put.new.self c.put_written.new.self c.put-2.new.self c.in_ok-put.ensures
    c.in_ok-put_written.ensures closes)
    c.put-2.ensures
