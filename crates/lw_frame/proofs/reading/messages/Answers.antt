use Rattle.std.proofs.Common.{◌≡◌, ◌∙◌, ◌+◌, ◌++◌, [], ◌∷◌, sym, ap, subst}
use Rattle.lw_frame.specs.declared.incoming.Incoming.{Incoming}
use Rattle.lw_frame.proofs.Growth.{to_end}
use Rattle.lw_frame.proofs.Readings.{StandsAt, stands_end, stands_stop, stands_more}
use Rattle.lw_frame.proofs.reading.messages.Goals as goal

pub returns-then-not-is_whole : goal.returns-then-not-is_whole
returns-then-not-is_whole c =
    stands_stop c.args.start c.args.bytes.now c.messages.bodies.items c.messages.used c.in_ok-used.field-0 c.messages.incoming c.advance.new.self _ c.messages.invariant (to_end c.messages.used c.args.bytes.now)
    c.in_ok-used.ensures.ok (sym c.is_whole.ensures ∙ c.if-not-is_whole.true) c.in_ok-used.ensures.all

pub messages-preserved : goal.messages-preserved
messages-preserved c =
    let read = c.advance.new.self in
    let body_is : c.into_body.result ≡ read.body.items = c.into_body.ensures ∙ ap (λ (m : Incoming). m.body.items) c.replace.ensures.value in
    let items : c.push_back.new.self.items ≡ c.messages.bodies.items ++ read.body.items ∷ [] = c.in_ok-push_back.ensures.items ∙ ap (λ b. c.messages.bodies.items ++ b ∷ []) body_is in
    let next : StandsAt c.args.start c.args.bytes.now (c.messages.bodies.items ++ read.body.items ∷ []) (c.messages.used + c.in_ok-used.field-0) c.new-next.result =
    stands_more c.args.start c.args.bytes.now c.messages.bodies.items c.messages.used c.in_ok-used.field-0 c.messages.incoming read c.new-next.result _ c.messages.invariant (to_end c.messages.used c.args.bytes.now)
    c.in_ok-used.ensures.ok (sym c.is_whole.ensures ∙ c.if-not-is_whole.false) (c.new-next.ensures.start ∙ c.end.ensures) c.new-next.ensures.bytes c.new-next.ensures.read c.new-next.ensures.waiting in
    subst (λ bs. StandsAt c.args.start c.args.bytes.now bs (c.messages.used + c.in_ok-used.field-0) c.replace.new.dest) (sym items)
    (subst (λ m. StandsAt c.args.start c.args.bytes.now (c.messages.bodies.items ++ read.body.items ∷ []) (c.messages.used + c.in_ok-used.field-0) m) (sym c.replace.ensures.after) next)

pub returns : goal.returns
returns c = stands_end c.args.start c.args.bytes.now c.messages.bodies.items c.messages.used c.messages.incoming c.messages.invariant c.messages-test.false
