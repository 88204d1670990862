use Rattle.std.proofs.Common.{◌≡◌, true≢false, sym, ◌∙◌}
use Rattle.lw_faults.specs.Faults.{fault}
use Rattle.lw_faults.specs.Reads.{MayRead}
use Rattle.lw_kinds.proofs.Exact.{reads_nothing_if, passes_if}
use Rattle.lw_kinds.proofs.FindsLemmas.{Finds-none, Finds-same}
use Rattle.lw_kinds.proofs.derivations.names.Names.tell_repeated.Goals as goal

pub returns-in_ok-add : goal.returns-in_ok-add
returns-in_ok-add c =
    let g = c.args.self.now.g.now in
    let part = c.args.part.now in
    let rule = c.args.rule.now in
    Finds-same (λ f. f ≡ fault 9 rule.file c.args.span rule.name) (λ f. MayRead g part 0 × (f ≡ fault 9 rule.file c.args.span rule.name))
    (λ f. (λ is. (reads_nothing_if g c.args.nothing.now c.requires.nothing part (c.passes.ensures.0 c.if-passes.true), is), λ both. both.1)) c.args.found.now c.add.new.self
    c.in_ok-add.ensures

pub returns-else-passes : goal.returns-else-passes
returns-else-passes c =
    let g = c.args.self.now.g.now in
    let part = c.args.part.now in
    let rule = c.args.rule.now in
    Finds-none (λ f. MayRead g part 0 × (f ≡ fault 9 rule.file c.args.span rule.name))
    (λ f both. true≢false (sym (c.passes.ensures.1 (passes_if g c.args.nothing.now c.requires.nothing part both.0)) ∙ c.if-passes.false)) c.args.found.now
