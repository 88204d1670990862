use Rattle.std.proofs.Common.{◌≡◌, ◌∙◌, inl, ℕ, List, Ok, Err, length, refl, sym, ap, subst, arith}
use Rattle.lw_conversation.specs.Standing.{beginning}
use Rattle.lw_commands.specs.Talking.{IsUnderway}
use Rattle.lw_commands.proofs.Turns.{AfterTurn, too_long, underway_start}
use Rattle.lw_commands.proofs.Conversing.{lost, over, no_next, turned, taken_more, after_stop, sink_of_loss}
use Rattle.lw_commands.proofs.serve.converse.Goals as goal

pub taking-init : goal.taking-init
taking-init g c = record {
  way = λ named begins. underway_start c.args.session.now.setting (g.F.Store.files c.args.store.now) named (g.S.Source.left c.args.source.now) (g.K.Sink.written c.args.out.now) (g.F.Store.count c.args.store.now) c.new-reader.result.stream c.args.session.now.standing
      c.new-reader.ensures.stream begins;
  going_on = ap (λ s. s.closed) c.new-reader.ensures.stream;
  setting = refl;
  taken = sym (ap (λ s. length s.fed) c.new-reader.ensures.stream);
  source = refl;
  sink = refl;
  files = refl;
}

pub run_out-requires : goal.run_out-requires
run_out-requires g c =
    no_next _ _ _ _ _ (g.S.Source.left c.take_piece.new.source) _ _ _ _ _ _ (c.taking.invariant.way c.requires.0 c.requires.1) c.take_piece.new.reader.stream c.in-Ok-eq0.field-0 c.in-Ok-eq0.field-0-test c.in-Ok-eq0.ensures.taken

pub returns-in-Ok-eq0-clause-conversed : goal.returns-in-Ok-eq0-clause-conversed
returns-in-Ok-eq0-clause-conversed g c = λ named begins.
    over _ _ _ _ _ (g.S.Source.left c.take_piece.new.source) _ _ _ _ _ _ (c.taking.invariant.way named begins) c.take_piece.new.reader.stream c.in-Ok-eq0.field-0 c.run_out.result c.in-Ok-eq0.field-0-test
    (omega (arith, c.taking-test.true, c.taking.invariant.taken)) c.in-Ok-eq0.ensures.taken
    c.run_out.ensures

pub returns-in-Err-clause-conversed : goal.returns-in-Err-clause-conversed
returns-in-Err-clause-conversed g c = λ named begins.
    lost _ _ _ _ _ _ _ _ _ _ _ _ (c.taking.invariant.way named begins) c.in-Err.stop (omega (arith, c.taking-test.true, c.taking.invariant.taken)) c.in-Err.ensures.fault

pub returns-in-Err-clause-sink : goal.returns-in-Err-clause-sink
returns-in-Err-clause-sink g c = sink_of_loss _ _ _ c.in-Err.stop c.in-Err.ensures.fault _ _ c.taking.invariant.sink

pub taking-preserved : goal.taking-preserved
taking-preserved g c =
    let more = taken_more _ _ _ _ _ (g.S.Source.left c.take_piece.new.source) _ _ _ _ _ _ (c.taking.invariant.way c.requires.0 c.requires.1) (g.K.Sink.written c.answer_next.new.out) (g.F.Store.count c.answer_next.new.store) c.take_piece.new.reader.stream c.in-Ok.count c.in-Ok.count-test.1 (omega (arith, c.taking-test.true, c.in-Ok.ensures.within, c.taking.invariant.taken)) c.in-Ok.ensures.taken c.answer_next.new.reader.stream c.in-Ok-No.ensures.stream c.answer_next.new.session.standing (Ok c.in-Ok-No.field-0) c.taking.session.setting c.taking.invariant.setting _ c.taking.invariant.files c.in-Ok-No.ensures.answered in
    let way : (named : List (List ℕ × List ℕ)) → c.args.session.now.standing ≡ beginning named → IsUnderway c.args.session.now.setting (g.F.Store.files c.args.store.now) named (g.S.Source.left c.args.source.now) (g.S.Source.left c.take_piece.new.source) (g.K.Sink.written c.args.out.now) (g.K.Sink.written c.answer_next.new.out) (g.F.Store.count c.args.store.now, g.F.Store.count c.answer_next.new.store) c.answer_next.new.reader.stream c.answer_next.new.session.standing =
    λ named begins. subst (λ e. AfterTurn c.args.session.now.setting (g.F.Store.files c.args.store.now) named (g.S.Source.left c.args.source.now) (g.S.Source.left c.take_piece.new.source) (g.K.Sink.written c.args.out.now) (g.K.Sink.written c.answer_next.new.out) (g.F.Store.count c.args.store.now, g.F.Store.count c.answer_next.new.store) c.answer_next.new.reader.stream c.answer_next.new.session.standing (Ok e)) c.in-Ok-No.field-0-is
    (turned _ _ _ _ _ (g.S.Source.left c.take_piece.new.source) _ _ _ _ _ _ (c.taking.invariant.way named begins) (g.K.Sink.written c.answer_next.new.out) (g.F.Store.count c.answer_next.new.store) c.take_piece.new.reader.stream c.in-Ok.count c.in-Ok.count-test.1 (omega (arith, c.taking-test.true, c.in-Ok.ensures.within, c.taking.invariant.taken)) c.in-Ok.ensures.taken c.answer_next.new.reader.stream c.in-Ok-No.ensures.stream c.answer_next.new.session.standing (Ok c.in-Ok-No.field-0) c.taking.session.setting c.taking.invariant.setting _ c.taking.invariant.files c.in-Ok-No.ensures.answered) in
    record {
      way = way;
      going_on = (way c.requires.0 c.requires.1).going_on;
      setting = c.in-Ok-No.ensures.setting ∙ c.taking.invariant.setting;
      taken = omega (arith, more, c.taking.invariant.taken);
      source = c.in-Ok.ensures.source ∙ c.taking.invariant.source;
      sink = c.in-Ok-No.ensures.sink ∙ c.taking.invariant.sink;
      files = c.in-Ok-No.ensures.files ∙ c.taking.invariant.files;
    }

pub returns-in-Ok-Clean-clause-conversed : goal.returns-in-Ok-Clean-clause-conversed
returns-in-Ok-Clean-clause-conversed g c = λ named begins.
    subst (λ e. AfterTurn c.args.session.now.setting (g.F.Store.files c.args.store.now) named (g.S.Source.left c.args.source.now) (g.S.Source.left c.take_piece.new.source) (g.K.Sink.written c.args.out.now) (g.K.Sink.written c.answer_next.new.out) (g.F.Store.count c.args.store.now, g.F.Store.count c.answer_next.new.store) c.answer_next.new.reader.stream c.answer_next.new.session.standing (Ok e)) c.in-Ok-Clean.field-0-is
    (turned _ _ _ _ _ (g.S.Source.left c.take_piece.new.source) _ _ _ _ _ _ (c.taking.invariant.way named begins) (g.K.Sink.written c.answer_next.new.out) (g.F.Store.count c.answer_next.new.store) c.take_piece.new.reader.stream c.in-Ok.count c.in-Ok.count-test.1
    (omega (arith, c.taking-test.true, c.in-Ok.ensures.within, c.taking.invariant.taken)) c.in-Ok.ensures.taken c.answer_next.new.reader.stream c.in-Ok-Clean.ensures.stream c.answer_next.new.session.standing (Ok c.in-Ok-Clean.field-0) c.taking.session.setting c.taking.invariant.setting _ c.taking.invariant.files c.in-Ok-Clean.ensures.answered)

pub returns-in-Ok-Early-clause-conversed : goal.returns-in-Ok-Early-clause-conversed
returns-in-Ok-Early-clause-conversed g c = λ named begins.
    inl (subst (λ e. AfterTurn c.args.session.now.setting (g.F.Store.files c.args.store.now) named (g.S.Source.left c.args.source.now) (g.S.Source.left c.take_piece.new.source) (g.K.Sink.written c.args.out.now) (g.K.Sink.written c.answer_next.new.out) (g.F.Store.count c.args.store.now, g.F.Store.count c.answer_next.new.store) c.answer_next.new.reader.stream c.answer_next.new.session.standing (Ok e)) c.in-Ok-Early.field-0-is
    (turned _ _ _ _ _ (g.S.Source.left c.take_piece.new.source) _ _ _ _ _ _ (c.taking.invariant.way named begins) (g.K.Sink.written c.answer_next.new.out) (g.F.Store.count c.answer_next.new.store) c.take_piece.new.reader.stream c.in-Ok.count c.in-Ok.count-test.1
    (omega (arith, c.taking-test.true, c.in-Ok.ensures.within, c.taking.invariant.taken)) c.in-Ok.ensures.taken c.answer_next.new.reader.stream c.in-Ok-Early.ensures.stream c.answer_next.new.session.standing (Ok c.in-Ok-Early.field-0) c.taking.session.setting c.taking.invariant.setting _ c.taking.invariant.files c.in-Ok-Early.ensures.answered))

pub returns-in-Err-answer_next-clause-conversed : goal.returns-in-Err-answer_next-clause-conversed
returns-in-Err-answer_next-clause-conversed g c = λ named begins.
    after_stop c.args.session.now.setting (g.F.Store.files c.args.store.now) named (g.S.Source.left c.args.source.now) (g.S.Source.left c.take_piece.new.source) (g.K.Sink.written c.args.out.now) (g.K.Sink.written c.answer_next.new.out) (g.F.Store.count c.args.store.now, g.F.Store.count c.answer_next.new.store) c.in-Err-answer_next.stop
    (turned _ _ _ _ _ (g.S.Source.left c.take_piece.new.source) _ _ _ _ _ _ (c.taking.invariant.way named begins) (g.K.Sink.written c.answer_next.new.out) (g.F.Store.count c.answer_next.new.store) c.take_piece.new.reader.stream c.in-Ok.count c.in-Ok.count-test.1
    (omega (arith, c.taking-test.true, c.in-Ok.ensures.within, c.taking.invariant.taken)) c.in-Ok.ensures.taken c.answer_next.new.reader.stream c.in-Err-answer_next.ensures.stream c.answer_next.new.session.standing (Err c.in-Err-answer_next.stop) c.taking.session.setting c.taking.invariant.setting _ c.taking.invariant.files c.in-Err-answer_next.ensures.answered)

pub returns-clause-conversed : goal.returns-clause-conversed
returns-clause-conversed g c = λ named begins.
    too_long _ _ _ _ _ _ _ _ _ _ _ (c.taking.invariant.way named begins) (omega (arith, c.taking.invariant.taken, (c.taking.invariant.way named begins).within, c.taking-test.false))
