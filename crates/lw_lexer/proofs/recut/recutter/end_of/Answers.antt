use Rattle.std.proofs.Common.{◌≡◌, ◌+◌, ◌-◌, ◌<◌, ◌≤◌, ℕ, length, take, ap, ◌∙◌, arith}
use Rattle.lw_matching.specs.Front.{end_from}
use Rattle.lw_lexer.proofs.FrontEnds.{end_of_more}
use Rattle.lw_lexer.proofs.recut.recutter.end_of.Goals as goal

pub returns-in-Some : goal.returns-in-Some
returns-in-Some c =
    let tokens = c.args.tokens.now in
    let told : (1 ≤ c.args.count) × (c.in-Some.last ≡ c.args.count - 1) = c.in-Some.ensures in
    let inside : c.in-Some.last < length tokens = omega (arith, c.requires, told.0, told.1) in
    let count : c.in-Some.last + 1 ≡ c.args.count = omega (arith, told.0, told.1) in
    end_of_more tokens c.in-Some.last _ inside ∙ ap (λ (n : ℕ). end_from 0 (take n tokens)) count
