use Rattle.std.proofs.Common.{◌-◌, ◌≡◌, ℕ, List, false, length}
use Rattle.lw_conversation.specs.Standing.{beginning}
use Rattle.lw_frame.specs.declared.limits.TheConstants.{LONGEST_SESSION}
use Rattle.lw_commands.specs.Talking.{IsUnderway}
use Rattle.lw_commands.proofs.serve.converse.Given as goal

-- all that was taken so far was answered, and neither the source nor the sink has failed
abbrev pub invariant-taking : goal.invariant-taking
invariant-taking g l = record {
  way : (named : List (List ℕ × List ℕ)) → l.fn.session.standing ≡ beginning named → IsUnderway l.fn.session.setting (g.F.Store.files l.fn.store) named (g.S.Source.left l.fn.source) (g.S.Source.left l.source) (g.K.Sink.written l.fn.out) (g.K.Sink.written l.out) (g.F.Store.count l.fn.store, g.F.Store.count l.store) l.reader.stream l.session.standing;
  going_on : l.reader.stream.closed ≡ false;
  setting : l.session.setting ≡ l.fn.session.setting;
  taken : l.taken ≡ length l.reader.stream.fed;
  source : g.S.Source.count l.source ≡ g.S.Source.count l.fn.source;
  sink : g.K.Sink.count l.out ≡ g.K.Sink.count l.fn.out;
  files : g.F.Store.files l.store ≡ g.F.Store.files l.fn.store;
}

abbrev pub decreases-taking : goal.decreases-taking
decreases-taking g l = LONGEST_SESSION - l.taken
