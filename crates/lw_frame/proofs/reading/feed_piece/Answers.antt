use Rattle.std.proofs.Common.{◌≡◌, ◌∙◌, [], sym, append-nil, Option, Some, None, true, false, is_some, Result, Ok, Err, IfOk, refl}
use Rattle.lw_frame.specs.declared.fault.FrameFault.{FrameFault}
use Rattle.lw_frame.proofs.Streams.{feeds, feeds_nothing}
use Rattle.lw_frame.proofs.reading.feed_piece.Goals as goal

none_is : (fault : Option FrameFault) → is_some fault ≡ false → fault ≡ None
none_is None h = refl
none_is (Some fault) h = cc

pub returns-then-is_some-clause-ok : goal.returns-then-is_some-clause-ok
returns-then-is_some-clause-ok c =
    let known : is_some c.args.fault ≡ true = sym c.is_some.ensures ∙ c.if-is_some.true in (
      [],
      sym (append-nil c.args.finished.now.items),
      record {
        bodies_are = λ fed r. (feeds_nothing c.args.fault fed c.args.piece.now c.args.incoming.now known r).0;
        reads_to = λ fed r. (feeds_nothing c.args.fault fed c.args.piece.now c.args.incoming.now known r).1;
      },
    )

ok_so : {A E : Type 0} (r : Result A E) (P Q : A → Type 0) → ((x : A) → P x → Q x) → IfOk r P → IfOk r Q
ok_so (Ok x) P Q so h = so x h
ok_so (Err e) P Q so h = tt

pub returns-clause-ok : goal.returns-clause-ok
returns-clause-ok c =
    let known = c.args.fault in
    let unknown : known ≡ None = none_is known (sym c.is_some.ensures ∙ c.if-is_some.false) in
    let old = c.args.incoming.now in
    let new = c.read_piece.new.incoming in
    ok_so c.read_piece.result _ _ (λ now told. (
      told.0,
      told.1,
      record {
        bodies_are = λ fed r. (feeds known now fed c.args.piece.now told.0 old new unknown told.2 r).0;
        reads_to = λ fed r. (feeds known now fed c.args.piece.now told.0 old new unknown told.2 r).1;
      },
    )) c.read_piece.ensures.ok
