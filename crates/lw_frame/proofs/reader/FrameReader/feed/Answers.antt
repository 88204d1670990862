use Rattle.std.proofs.Common.{◌≡◌, ◌∙◌, ◌+◌, ◌≤◌, ◌++◌, [], ℕ, List, length, take, sym, ap, subst, arith, Option, None, Some, IfNone, append-nil, Bool, false}
use Rattle.std.proofs.Math.Seq.{take-append_seam}
use Rattle.std.specs.List.{concat}
use Rattle.lw_frame.specs.Frames.{bodies_of, fault_of}
use Rattle.lw_frame.specs.Kept.{IsKept}
use Rattle.lw_frame.specs.Reading.{bytes_of}
use Rattle.lw_frame.specs.Stream.{Reader, needed}
use Rattle.lw_frame.specs.declared.fault.FrameFault.{FrameFault}
use Rattle.lw_frame.specs.declared.limits.TheConstants.{LONGEST_SESSION}
use Rattle.lw_frame.specs.declared.history.History.{History}
use Rattle.lw_frame.proofs.Growing.{fault_stays}
use Rattle.lw_frame.proofs.Streams.{held_is_needed, left_more, read_within}
use Rattle.lw_frame.proofs.reader.FrameReader.feed.Goals as goal

within_session : (fault : Option FrameFault) (at fed piece most : ℕ) → IfNone fault (at ≤ fed) → fed + piece ≤ most → IfNone fault (at + piece ≤ most)
within_session None at fed piece most h k = omega arith
within_session (Some fault) at fed piece most h k = tt

pub feed_piece-requires-clause-session : goal.feed_piece-requires-clause-session
feed_piece-requires-clause-session c =
    let a = c.self.inside in
    let same : a.history.fed ≡ c.args.self.now.stream.fed = ap (λ (r : Reader). r.stream.fed) c.self.view_is in
    within_session a.fault (a.incoming.start + length (bytes_of a.incoming)) (length a.history.fed) (length c.args.piece.now) LONGEST_SESSION
    (read_within a.fault a.history.fed (bodies_of a.history.fed) a.incoming c.self.invariant.rest) (omega (arith, ap length same, c.requires.session))

pub invariant_of-self-2 : goal.invariant_of-self-2
invariant_of-self-2 c =
    let a = c.self.inside in
    let fed = c.in_ok-self-inside.ensures.ok in
    let left = left_more a _ _ _ _ _ c.self.invariant fed.2 fed.1 in
    subst (λ (h : History). IsKept (record { finished = c.feed_piece.new.finished; incoming = c.feed_piece.new.incoming; fault = c.in_ok-self-inside.field-0; closed = a.closed; alloc = a.alloc; history = h })) (sym c.after-self-inside.ensures)
    (record { finished = left.0; given = left.1; rest = fed.2.reads_to a.history.fed c.self.invariant.rest })

pub returns-in_err-self-inside-clause-held : goal.returns-in_err-self-inside-clause-held
returns-in_err-self-inside-clause-held c =
    let a = c.self.inside in
    let same = c.in_err-self-inside.ensures.same in
    let held : concat c.feed_piece.new.finished.items ++ bytes_of c.feed_piece.new.incoming ≡ concat a.finished.items ++ bytes_of a.incoming =
    ap (λ bs. concat bs ++ bytes_of c.feed_piece.new.incoming) c.in_err-self-inside.ensures.err ∙ ap (λ bs. concat a.finished.items ++ (bs ++ c.feed_piece.new.incoming.body.items)) same.header ∙ ap (λ bs. concat a.finished.items ++ (a.incoming.header.items ++ bs)) same.body in
    held ∙ held_is_needed a.finished.items a.incoming a.fault a.history.fed a.history.given a.closed c.self.invariant.finished c.self.invariant.rest

-- that a fault of one stream is one of another
Stays : List ℕ → List ℕ → Type 0
Stays fed now = (fault : FrameFault) → fault_of fed false ≡ Some fault → (bodies_of now ≡ bodies_of fed) × ((closed : Bool) → fault_of now closed ≡ Some fault)

pub returns-in_err-self-inside-clause-fault_stays : goal.returns-in_err-self-inside-clause-fault_stays
unfolding Stays
returns-in_err-self-inside-clause-fault_stays c =
    let a = c.self.inside in
    let same : a.history.fed ≡ c.args.self.now.stream.fed = ap (λ (r : Reader). r.stream.fed) c.self.view_is in
    let stays : Stays a.history.fed a.history.fed = subst (Stays a.history.fed) (append-nil a.history.fed) (fault_stays a.history.fed []) in
    subst (λ fed. Stays fed a.history.fed) same stays

pub returns-clause-held : goal.returns-clause-held
returns-clause-held c =
    let a = c.self.inside in
    let fed = c.in_ok-self-inside.ensures.ok in
    let left = left_more a _ _ _ _ _ c.self.invariant fed.2 fed.1 in
    subst (λ (h : History). concat c.feed_piece.new.finished.items ++ bytes_of c.feed_piece.new.incoming ≡ needed (record { fed = h.fed; closed = a.closed; given = h.given })) (sym c.after-self-inside.ensures)
    (held_is_needed c.feed_piece.new.finished.items c.feed_piece.new.incoming c.in_ok-self-inside.field-0 (a.history.fed ++ c.args.piece.now) a.history.given a.closed left.0 (fed.2.reads_to a.history.fed c.self.invariant.rest))

pub returns-clause-bodies_stay : goal.returns-clause-bodies_stay
returns-clause-bodies_stay c =
    let a = c.self.inside in
    let fed = c.in_ok-self-inside.ensures.ok in
    let was = bodies_of a.history.fed in
    let stay : take (length was) (bodies_of (a.history.fed ++ c.args.piece.now)) ≡ was = ap (take (length was)) (fed.2.bodies_are a.history.fed c.self.invariant.rest) ∙ take-append_seam was fed.0 in
    let same : a.history.fed ≡ c.args.self.now.stream.fed = ap (λ (r : Reader). r.stream.fed) c.self.view_is in
    subst (λ f. take (length (bodies_of f)) (bodies_of c.after-self-inside.result.fed) ≡ bodies_of f) same
    (subst (λ (h : History). take (length was) (bodies_of h.fed) ≡ was) (sym c.after-self-inside.ensures) stay)

pub returns-clause-fault_stays : goal.returns-clause-fault_stays
unfolding Stays
returns-clause-fault_stays c =
    let a = c.self.inside in
    let same : a.history.fed ≡ c.args.self.now.stream.fed = ap (λ (r : Reader). r.stream.fed) c.self.view_is in
    let stays : Stays a.history.fed (a.history.fed ++ c.args.piece.now) = fault_stays a.history.fed c.args.piece.now in
    subst (λ f. Stays f c.after-self-inside.result.fed) same (subst (λ (h : History). Stays a.history.fed h.fed) (sym c.after-self-inside.ensures) stays)
