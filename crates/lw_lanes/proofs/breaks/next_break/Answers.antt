use Rattle.std.proofs.Common.{◌≡◌, ◌+◌, ◌<◌, ◌≤◌, ◌∙◌, ap, ℕ, Some, take, drop, arith}
use Rattle.std.proofs.lemmas.Grind.{common_steps}
use Rattle.std.specs.List.{position_or_len}
use Rattle.lw_lanes.specs.LineBreak.{is_break, next_break}
use Rattle.lw_lanes.proofs.FirstBreak.{next_break-here, next_break-further, next_break-least, next_break-none}
use Rattle.lw_lanes.proofs.breaks.next_break.Goals as goal

pub returns-then-clear-lt-BLOCK : goal.returns-then-clear-lt-BLOCK
returns-then-clear-lt-BLOCK c =
    let short : position_or_len is_break (take 32 (drop c.whole.at c.args.bytes.now)) < 32 = omega (arith, c.first_break_in-clear.ensures) in
    let value : Some (c.whole.at + c.first_break_in-clear.result) ≡ next_break c.args.bytes.now c.args.from =
    ap (λ (n : ℕ). Some (c.whole.at + n)) c.first_break_in-clear.ensures
    ∙ next_break-here c.args.bytes.now c.whole.at 32 (omega arith) short
    ∙ c.whole.invariant.same
    in
    record { value = value; least = next_break-least c.args.bytes.now c.args.from _ value; none = next_break-none c.args.bytes.now c.args.from _ value }

pub whole-preserved : goal.whole-preserved
whole-preserved c =
    let full : 32 ≤ position_or_len is_break (take 32 (drop c.whole.at c.args.bytes.now)) = omega (arith, c.first_break_in-clear.ensures) in
    record {
      within = omega arith;
      same = next_break-further c.args.bytes.now c.whole.at 32 (omega arith) full ∙ c.whole.invariant.same;
    }

pub returns : goal.returns
returns c =
    let value : c.map.result ≡ next_break c.args.bytes.now c.args.from = grind (arith, common_steps) in
    record { value = value; least = next_break-least c.args.bytes.now c.args.from _ value; none = next_break-none c.args.bytes.now c.args.from _ value }
