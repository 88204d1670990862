use Rattle.std.proofs.lemmas.Result.{on_ok_weaker}
use Rattle.lw_tokens.specs.Patterns.{unescaped}
use Rattle.lw_terminals.proofs.CallForms.{PutsText-grouped}
use Rattle.lw_terminals.proofs.patterns.writing.put_regex.Goals as goal

pub returns : goal.returns
returns c =
    on_ok_weaker c.put-2.result
    (PutsText-grouped (unescaped c.args.text.now) c.args.draft.now c.put.new.self c.put_unescaped.new.draft c.put-2.new.self c.in_ok-put.ensures c.in_ok-put_unescaped.ensures)
    c.put-2.ensures
