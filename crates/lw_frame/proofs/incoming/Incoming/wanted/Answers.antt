use Rattle.std.proofs.Common.{◌≡◌, ◌∙◌, ◌-◌, max, length, drop, sym, subst, ap}
use Rattle.lw_frame.specs.Stage.{IsAt}
use Rattle.lw_frame.specs.Reading.{EndsBehind, left_at, bytes_of}
use Rattle.lw_frame.specs.Wanted.{fewest_left, shortest_header}
use Rattle.lw_frame.proofs.Ends.{header_ends}
use Rattle.lw_frame.proofs.Growth.{to_end}
use Rattle.lw_frame.proofs.incoming.Incoming.wanted.Goals as goal

-- the number inside a header part
is_left : (c : goal.After-max) → c.max.result ≡ max (shortest_header - length c.args.self.now.header.items) (fewest_left (drop c.in-Header.line c.args.self.now.header.items))
is_left c =
    let short : c.saturating_sub.result ≡ shortest_header - length c.args.self.now.header.items = c.saturating_sub.ensures ∙ ap (λ n. 20 - n) (c.len.ensures ∙ sym c.deref.ensures.len ∙ ap length c.deref.ensures.value) in
    let behind : c.least_behind.result ≡ fewest_left (drop c.in-Header.line c.args.self.now.header.items) =
    c.least_behind.ensures.exact ∙ ap fewest_left (to_end c.in-Header.line c.deref.result.now) ∙ ap (λ bs. fewest_left (drop c.in-Header.line bs)) c.deref.ensures.value in
    c.max.ensures ∙ ap (λ n. max n c.least_behind.result) short ∙ ap (max (shortest_header - length c.args.self.now.header.items)) behind

pub returns-in-Header-clause-behind : goal.returns-in-Header-clause-behind
returns-in-Header-clause-behind c =
    let self = c.args.self.now in
    let at = subst (λ s. IsAt s self.start self.header.items self.body.items) c.in-Header.is c.requires.read in
    subst (λ n. EndsBehind self.start (bytes_of self) n) (sym (is_left c)) (header_ends self.start self.header.items self.body.items c.in-Header.line c.in-Header.given at)

pub returns-in-Header-clause-exact : goal.returns-in-Header-clause-exact
returns-in-Header-clause-exact c = is_left c ∙ ap (λ s. left_at s c.args.self.now.header.items) (sym c.in-Header.is)
