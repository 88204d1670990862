use Rattle.std.proofs.Common.{ℕ, List, length, arith, ◌∷◌, ◌≡◌, ◌∙◌, ◌+◌, ◌++◌, [], drop, sym, ap, subst, drop-drop, refl, None}
use Rattle.std.specs.List.{concat}
use Rattle.lw_frame.specs.Frames.{bodies_of, fault_of}
use Rattle.lw_frame.specs.Reading.{bytes_of}
use Rattle.lw_frame.specs.Stream.{Stream, Reader, answer_next, handed, needed, next_answer, next_body}
use Rattle.lw_frame.specs.declared.history.History.{History}
use Rattle.lw_frame.proofs.Streams.{held_is_needed, no_body, answers_by_case}
use Rattle.lw_frame.proofs.reader.FrameReader.next.Goals as goal
use Rattle.lw_frame.proofs.reader.FrameReader.next.Goals.{in-Some-fault_now, in-None}

pub returns-in-Some-clause-held : goal.returns-in-Some-clause-held
returns-in-Some-clause-held c =
    let a = c.self.inside in
    let left : c.pop_front.new.self.items ≡ drop (a.history.given + 1) (bodies_of a.history.fed) = c.in-Some.ensures.rest ∙ ap (drop 1) c.self.invariant.finished ∙ drop-drop 1 a.history.given (bodies_of a.history.fed) in
    subst (λ (h : History). concat c.pop_front.new.self.items ++ bytes_of a.incoming ≡ needed (record { fed = h.fed; closed = a.closed; given = h.given })) (sym c.after-self-inside.ensures)
    (held_is_needed c.pop_front.new.self.items a.incoming a.fault a.history.fed (a.history.given + 1) a.closed left c.self.invariant.rest)

none_left : (bodies : List (List ℕ)) → length bodies ≡ 0 → bodies ≡ []
none_left [] h = refl
none_left (body ∷ bodies) h = absurd (omega arith)

-- nothing was there to hand out
nothing_there : (c : goal.Joined-fault_now) → next_body c.args.self.now.stream ≡ None
nothing_there c =
    let a = c.self.inside in
    let same : record { fed = a.history.fed; closed = a.closed; given = a.history.given } ≡ c.args.self.now.stream = ap (λ (r : Reader). r.stream) c.self.view_is in
    let left : drop a.history.given (bodies_of a.history.fed) ≡ [] = sym c.self.invariant.finished ∙ none_left a.finished.items (let told = c.in_default.ensures.cases in omega arith) in
    ap next_body (sym same) ∙ no_body (record { fed = a.history.fed; closed = a.closed; given = a.history.given }) left

-- what is answered then
answered : (c : goal.Joined-fault_now) → c.match-fault_now.result ≡ next_answer c.args.self.now.stream
answered c =
    let a = c.self.inside in
    let same : record { fed = a.history.fed; closed = a.closed; given = a.history.given } ≡ c.args.self.now.stream = ap (λ (r : Reader). r.stream) c.self.view_is in
    let fault_is : c.fault_now.result ≡ fault_of c.args.self.now.stream.fed c.args.self.now.stream.closed =
    c.fault_now.ensures a.history.fed c.self.invariant.rest ∙ ap (λ (s : Stream). fault_of s.fed s.closed) same in
    let told : answer_next None c.fault_now.result ≡ next_answer c.args.self.now.stream = ap (answer_next None) fault_is ∙ ap (λ o. answer_next o (fault_of c.args.self.now.stream.fed c.args.self.now.stream.closed)) (sym (nothing_there c)) in
    elim c.match-fault_now.branch [
      | in-Some-fault_now w ↦ w.result-is ∙ ap (answer_next None) (sym w.in-Some-fault_now.is) ∙ told
      | in-None w ↦ w.result-is ∙ ap (answer_next None) (sym w.in-None.is) ∙ told
    ]

pub returns-clause-answer : goal.returns-clause-answer
returns-clause-answer c = answered c

pub returns-clause-cases : goal.returns-clause-cases
returns-clause-cases c = answers_by_case c.args.self.now.stream c.match-fault_now.result (answered c)

pub returns-clause-stream : goal.returns-clause-stream
returns-clause-stream c =
    let same : record { fed = c.self.inside.history.fed; closed = c.self.inside.closed; given = c.self.inside.history.given } ≡ c.args.self.now.stream = ap (λ (r : Reader). r.stream) c.self.view_is in
    same ∙ ap (λ o. handed o c.args.self.now.stream) (sym (nothing_there c))

pub returns-clause-held : goal.returns-clause-held
returns-clause-held c =
    let a = c.self.inside in
    held_is_needed c.pop_front.new.self.items a.incoming a.fault a.history.fed a.history.given a.closed (sym c.in_default.ensures.items ∙ c.self.invariant.finished) c.self.invariant.rest
