use Rattle.std.proofs.lemmas.Result.{on_ok_weaker}
use Rattle.lw_grammar.specs.Written.{term_calls}
use Rattle.lw_numbers.specs.Parts.{term_call_of}
use Rattle.lw_types.specs.NameUses.{called_uses}
use Rattle.lw_types.proofs.Reading.{put_all}
use Rattle.lw_types.proofs.naming.mentions.put_term.Goals as goal

pub returns : goal.returns
returns c =
    on_ok_weaker c.put_calls.result
    (put_all _ _ (called_uses c.args.file) term_call_of c.as_slice.result.now c.in_ok-calls.calls.items (term_calls c.args.body.now) c.as_slice.ensures.value
    c.in_ok-calls.ensures) c.put_calls.ensures
