use Rattle.std.proofs.Common.{◌≡◌, ◌∙◌, ◌+◌, ◌++◌, [], ◌∷◌, length, drop, sym, ap, subst, append-nil, append_assoc, is_ok, if◌then◌else◌}
use Rattle.lw_frame.specs.Reading.{ReadsMessages, bytes_of}
use Rattle.lw_frame.specs.declared.incoming.Incoming.{Incoming}
use Rattle.lw_frame.proofs.Growth.{to_end}
use Rattle.lw_frame.proofs.Readings.{reads_on, reads_more}
use Rattle.lw_frame.proofs.reading.take.Goals as goal

pub returns-then-not-is_whole-clause-ok : goal.returns-then-not-is_whole-clause-ok
returns-then-not-is_whole-clause-ok c =
    ([], sym (append-nil c.args.finished.now.items), reads_on c.args.incoming.now c.advance.new.self c.args.piece.now c.in_ok-used.used c.in_ok-used.ensures.ok (sym c.is_whole.ensures ∙ c.if-not-is_whole.true) c.in_ok-used.ensures.all)

pub returns-clause-ok : goal.returns-clause-ok
returns-clause-ok c =
    let old = c.args.incoming.now in
    let read = c.advance.new.self in
    let bodies = c.in_ok-bodies.bodies.items in
    let was = c.args.finished.now.items in
    let body_is : c.into_body.result ≡ read.body.items = c.into_body.ensures ∙ ap (λ (m : Incoming). m.body.items) c.replace.ensures.value in
    let pushed : c.push_back_reserved.new.self.items ≡ was ++ read.body.items ∷ [] =
    c.push_back_reserved.ensures.items ∙ ap (λ bs. bs ++ c.into_body.result ∷ []) c.in_ok-reserve.ensures.items ∙ ap (λ b. was ++ b ∷ []) body_is in
    let items : c.append.new.self.items ≡ was ++ read.body.items ∷ bodies =
    c.append.ensures.items ∙ ap (λ r. if is_ok r then c.push_back_reserved.new.self.items ++ bodies else c.push_back_reserved.new.self.items) c.unwrap.ensures ∙ ap (λ bs. bs ++ bodies) pushed ∙ append_assoc was (read.body.items ∷ []) bodies in
    let rest = drop c.in_ok-used.used c.args.piece.now in
    let next : ReadsMessages (read.start + length (bytes_of read)) rest bodies c.in_ok-bodies.next =
    subst (λ s. ReadsMessages s rest bodies c.in_ok-bodies.next) c.end.ensures (subst (λ bs. ReadsMessages c.end.result bs bodies c.in_ok-bodies.next) (to_end c.in_ok-used.used c.args.piece.now) c.in_ok-bodies.ensures) in
    let all : ReadsMessages old.start (bytes_of old ++ c.args.piece.now) (read.body.items ∷ bodies) c.in_ok-bodies.next =
    reads_more old read c.in_ok-bodies.next c.args.piece.now c.in_ok-used.used bodies c.in_ok-used.ensures.ok (sym c.is_whole.ensures ∙ c.if-not-is_whole.false) next in
    (read.body.items ∷ bodies, items, subst (λ m. ReadsMessages old.start (bytes_of old ++ c.args.piece.now) (read.body.items ∷ bodies) m) (sym c.replace.ensures.after) all)
