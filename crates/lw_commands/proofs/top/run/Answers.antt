use Rattle.std.proofs.Common.{Err, None, inl, inr, refl}
use Rattle.std.specs.Option.{option_copied}
use Rattle.lw_commands.specs.declared.stop.Stop.TheVariants as stop
use Rattle.lw_commands.proofs.Commands.{named, reads_no_words}
use Rattle.lw_commands.proofs.Running.{runs}
use Rattle.lw_commands.proofs.top.run.Goals as goal

pub returns-in-Err : goal.returns-in-Err
returns-in-Err g c =
    runs c.one_outcome.ensures.files c.args.words.now _ _ _ _ (record {
      outcome = Err stop.Memory;
      comes_to = reads_no_words c.args.words.now _ _ _ _ _ _ _ _;
      status = c.finish.ensures.ends;
      path = None;
      named = inl refl;
      noted = c.finish.ensures.noted;
      unnoted = c.finish.ensures.unnoted;
      noted_part = c.finish.ensures.part;
    })

pub returns : goal.returns
returns g c =
    runs c.one_outcome.ensures.files c.args.words.now _ _ _ _ (record {
      outcome = c.act-outcome.result;
      comes_to = c.act-outcome.ensures c.args.words.now c.in-Ok.ensures;
      status = c.finish-2.ensures.ends;
      path = option_copied c.grammar_of-grammar.result;
      named = inr (named c.args.words.now c.grammar_of-grammar.result (c.grammar_of-grammar.ensures c.args.words.now c.in-Ok.ensures));
      noted = c.finish-2.ensures.noted;
      unnoted = c.finish-2.ensures.unnoted;
      noted_part = c.finish-2.ensures.part;
    })
