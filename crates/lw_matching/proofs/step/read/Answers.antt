use Rattle.std.proofs.Common.{ℕ, ◌+◌, ◌∙◌, ap, sym, option_and_then, arith}
use Rattle.lw_matching.specs.Steps.{gives_over, match_end}
use Rattle.lw_matching.proofs.StepLemmas.{over_byte}
use Rattle.lw_matching.proofs.step.read.Goals as goal

pub returns-in-Some : goal.returns-in-Some
returns-in-Some c = (
  record { state = c.in-Some.ensures.within; at = omega arith },
  λ more. let go = λ (r : ℕ). gives_over c.args.nfa.now c.args.text.now more r (c.args.at + 1) in
      ap match_end (over_byte c.args.nfa.now c.args.text.now more c.args.id c.args.at c.args.state (sym c.requires.state) c.requires.reads c.if-at-text.true
      ∙ ap (option_and_then go) (sym c.in-Some.ensures.is)),
)

pub returns-in-None : goal.returns-in-None
returns-in-None c more =
    let go = λ (r : ℕ). gives_over c.args.nfa.now c.args.text.now more r (c.args.at + 1) in
    ap match_end (over_byte c.args.nfa.now c.args.text.now more c.args.id c.args.at c.args.state (sym c.requires.state) c.requires.reads c.if-at-text.true
    ∙ ap (option_and_then go) (sym c.in-None.ensures.is))
