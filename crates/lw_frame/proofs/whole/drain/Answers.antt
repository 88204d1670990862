use Rattle.std.proofs.Common.{◌≡◌, ◌∙◌, ◌≤◌, ◌++◌, ◌∷◌, [], ℕ, List, Bool, Option, Some, None, Ok, length, drop, sym, ap, subst, arith, append_assoc, append-nil}
use Rattle.std.proofs.Math.ListN.{drop_of_length-le}
use Rattle.lw_frame.specs.Frames.{bodies_of, fault_of}
use Rattle.lw_frame.specs.Stream.{Stream, AnswersStream, next_body}
use Rattle.lw_frame.specs.declared.fault.FrameFault.{FrameFault}
use Rattle.lw_frame.proofs.Handing.{HandsOut, hands_out, none_left}
use Rattle.lw_frame.proofs.whole.drain.Goals as goal

-- one body more
more : (c : goal.In_ok-push-in-Ok-Some) → HandsOut c.bodies.reader.stream c.next.new.self.stream c.in-Ok-Some.body
more c =
    let told : next_body c.bodies.reader.stream ≡ Some c.in-Ok-Some.body = subst (λ o. AnswersStream c.bodies.reader.stream (Ok o)) c.in-Ok-Some.field-0-is c.in-Ok-Some.ensures.cases in
    hands_out c.bodies.reader.stream c.next.new.self.stream c.in-Ok-Some.body told c.in-Ok-Some.ensures.stream

pub bodies-smaller : goal.bodies-smaller
bodies-smaller c =
    let h = more c in
    omega (arith, h.given, h.within, ap (λ fed. length (bodies_of fed)) c.bodies.invariant.fed)

pub bodies-preserved : goal.bodies-preserved
bodies-preserved c =
    let h = more c in
    let all = bodies_of c.args.reader.now.stream.fed in
    let same : bodies_of c.bodies.reader.stream.fed ≡ all = ap bodies_of c.bodies.invariant.fed in
    let first : drop c.bodies.reader.stream.given all ≡ c.in-Ok-Some.body ∷ drop c.next.new.self.stream.given all =
    subst (λ bs. drop c.bodies.reader.stream.given bs ≡ c.in-Ok-Some.body ∷ drop c.next.new.self.stream.given bs) same h.first in
    record {
      fed = h.fed ∙ c.bodies.invariant.fed;
      closed = h.closed ∙ c.bodies.invariant.closed;
      given = omega (arith, h.given, h.within, ap length same);
      bodies = ap (λ bs. bs ++ drop c.next.new.self.stream.given all) c.in_ok-push-in-Ok-Some.ensures.ok ∙ append_assoc c.bodies.bodies (c.in-Ok-Some.body ∷ []) (drop c.next.new.self.stream.given all)
          ∙ ap (λ bs. c.bodies.bodies ++ bs) (sym first) ∙ c.bodies.invariant.bodies;
    }

-- the end, where a stream s of the same bytes has none left
all_given : (s : Stream) (fed : List ℕ) (got was : List (List ℕ)) (given : ℕ) → s.fed ≡ fed → length (bodies_of s.fed) ≤ s.given → got ++ drop s.given (bodies_of fed) ≡ was ++ drop given (bodies_of fed) → got ≡ was ++ drop given (bodies_of fed)
all_given s fed got was given e h all =
    let none : drop s.given (bodies_of fed) ≡ [] = drop_of_length-le (bodies_of fed) (let size = ap (λ f. length (bodies_of f)) e in omega arith) in
    sym (append-nil got) ∙ ap (λ bs. got ++ bs) (sym none) ∙ all

same_fault : (s : Stream) (fed : List ℕ) (closed : Bool) (fault : Option FrameFault) → s.fed ≡ fed → s.closed ≡ closed → fault_of s.fed s.closed ≡ fault → fault ≡ fault_of fed closed
same_fault s fed closed fault e f h = sym h ∙ ap (λ bs. fault_of bs s.closed) e ∙ ap (fault_of fed) f

pub returns-in-Ok-None-clause-bodies : goal.returns-in-Ok-None-clause-bodies
returns-in-Ok-None-clause-bodies c =
    let s = c.bodies.reader.stream in
    let told = subst (λ o. AnswersStream s (Ok o)) c.in-Ok-None.field-0-is c.in-Ok-None.ensures.cases in
    all_given s c.args.reader.now.stream.fed c.bodies.bodies c.args.bodies.now c.args.reader.now.stream.given c.bodies.invariant.fed (none_left s c.next.new.self.stream told.0 c.in-Ok-None.ensures.stream).1 c.bodies.invariant.bodies

pub returns-in-Ok-None-clause-given : goal.returns-in-Ok-None-clause-given
returns-in-Ok-None-clause-given c =
    let s = c.bodies.reader.stream in
    let told = subst (λ o. AnswersStream s (Ok o)) c.in-Ok-None.field-0-is c.in-Ok-None.ensures.cases in
    let left = none_left s c.next.new.self.stream told.0 c.in-Ok-None.ensures.stream in
    omega (arith, ap (λ (t : Stream). t.given) left.0, left.1, c.bodies.invariant.given, ap (λ f. length (bodies_of f)) c.bodies.invariant.fed)

pub returns-in-Ok-None-clause-fault : goal.returns-in-Ok-None-clause-fault
returns-in-Ok-None-clause-fault c =
    let s = c.bodies.reader.stream in
    let told = subst (λ o. AnswersStream s (Ok o)) c.in-Ok-None.field-0-is c.in-Ok-None.ensures.cases in
    same_fault s c.args.reader.now.stream.fed c.args.reader.now.stream.closed None c.bodies.invariant.fed c.bodies.invariant.closed told.1

pub returns-in-Err-clause-bodies : goal.returns-in-Err-clause-bodies
returns-in-Err-clause-bodies c =
    let s = c.bodies.reader.stream in
    all_given s c.args.reader.now.stream.fed c.bodies.bodies c.args.bodies.now c.args.reader.now.stream.given c.bodies.invariant.fed (none_left s c.next.new.self.stream c.in-Err.ensures.cases.0 c.in-Err.ensures.stream).1 c.bodies.invariant.bodies

pub returns-in-Err-clause-given : goal.returns-in-Err-clause-given
returns-in-Err-clause-given c =
    let s = c.bodies.reader.stream in
    let left = none_left s c.next.new.self.stream c.in-Err.ensures.cases.0 c.in-Err.ensures.stream in
    omega (arith, ap (λ (t : Stream). t.given) left.0, left.1, c.bodies.invariant.given, ap (λ f. length (bodies_of f)) c.bodies.invariant.fed)

pub returns-in-Err-clause-fed : goal.returns-in-Err-clause-fed
returns-in-Err-clause-fed c = ap (λ (t : Stream). t.fed) (none_left c.bodies.reader.stream c.next.new.self.stream c.in-Err.ensures.cases.0 c.in-Err.ensures.stream).0 ∙ c.bodies.invariant.fed

pub returns-in-Err-clause-fault : goal.returns-in-Err-clause-fault
returns-in-Err-clause-fault c =
    same_fault c.bodies.reader.stream c.args.reader.now.stream.fed c.args.reader.now.stream.closed (Some c.in-Err.fault) c.bodies.invariant.fed c.bodies.invariant.closed c.in-Err.ensures.cases.1
