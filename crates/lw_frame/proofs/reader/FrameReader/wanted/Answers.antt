use Rattle.std.proofs.Common.{◌≡◌, ◌∙◌, sym, ℕ, List, Option, Some, None, ap, subst, true, false, is_some}
use Rattle.lw_frame.specs.Frames.{bodies_of}
use Rattle.lw_frame.specs.Reading.{ReadsTo, EndsBehind, left_at, bytes_of}
use Rattle.lw_frame.specs.Stream.{Reader}
use Rattle.lw_frame.specs.Wanted.{StaysWithin, wanted_of}
use Rattle.lw_frame.proofs.Wanted.{stays_within, stays_faulty, wanted_waiting, wanted_faulty, leaves_nothing}
use Rattle.lw_frame.specs.declared.fault.FrameFault.{FrameFault}
use Rattle.lw_frame.specs.declared.incoming.Incoming.{Incoming}
use Rattle.lw_frame.proofs.reader.FrameReader.wanted.Goals as goal

wanted_then : (fault : Option FrameFault) (fed : List ℕ) (m : Incoming) → ReadsTo fault 0 fed (bodies_of fed) m → is_some fault ≡ true → 1 ≡ wanted_of fed
wanted_then None fed m w some = cc
wanted_then (Some fault) fed m e some = wanted_faulty fault fed m e

within : (fault : Option FrameFault) (fed : List ℕ) (m : Incoming) (most : ℕ) → ReadsTo fault 0 fed (bodies_of fed) m → EndsBehind m.start (bytes_of m) most → StaysWithin fed most
within None fed m most w behind = stays_within fed m most w behind
within (Some fault) fed m most e behind = stays_faulty fault fed m most e

wanted_else : (fault : Option FrameFault) (fed : List ℕ) (m : Incoming) → ReadsTo fault 0 fed (bodies_of fed) m → is_some fault ≡ false → left_at m.stage m.header.items ≡ wanted_of fed
wanted_else None fed m w none = wanted_waiting fed m w
wanted_else (Some fault) fed m e none = cc

pub returns-then-is_some-clause-exact : goal.returns-then-is_some-clause-exact
returns-then-is_some-clause-exact c =
    let a = c.self.inside in
    wanted_then a.fault a.history.fed a.incoming c.self.invariant.rest (sym c.is_some.ensures ∙ c.if-is_some.true) ∙ ap (λ (r : Reader). wanted_of r.stream.fed) c.self.view_is

pub returns-clause-exact : goal.returns-clause-exact
returns-clause-exact c =
    let a = c.self.inside in
    c.wanted.ensures.exact ∙ wanted_else a.fault a.history.fed a.incoming c.self.invariant.rest (sym c.is_some.ensures ∙ c.if-is_some.false) ∙ ap (λ (r : Reader). wanted_of r.stream.fed) c.self.view_is

pub returns-clause-within : goal.returns-clause-within
returns-clause-within c =
    let a = c.self.inside in
    subst (λ fed. StaysWithin fed c.wanted.result) (ap (λ (r : Reader). r.stream.fed) c.self.view_is) (within a.fault a.history.fed a.incoming c.wanted.result c.self.invariant.rest c.wanted.ensures.behind)

pub returns-clause-leaves : goal.returns-clause-leaves
returns-clause-leaves c = leaves_nothing c.args.self.now.stream c.wanted.result (returns-clause-within c)
