use Rattle.std.proofs.Common.{◌≡◌, get_or, sym, subst, refl, length}
use Rattle.std.proofs.lemmas.Option.{slice_get_read}
use Rattle.lw_grammar.specs.declared.rule.Rule.{Rule}
use Rattle.lw_kinds.specs.Passing.{Passes}
use Rattle.lw_kinds.proofs.RoundLemmas.{just_more}
use Rattle.lw_kinds.proofs.derivations.names.Names.visit.Goals as goal

pub returns-clause-just : goal.returns-clause-just
returns-clause-just c just =
    let g = c.args.self.now.g.now in
    let item = c.index-as_slice-rule.result in
    just_more g c.args.tokens c.args.flags.now c.args.rule item
    (slice_get_read g.rules (length g.rules) c.args.rule item refl c.requires.within
    (subst (λ rules. item ≡ get_or rules c.args.rule item) c.as_slice.ensures c.index-as_slice-rule.is))
    (subst (λ (x : Rule). Passes g c.args.tokens c.args.flags.now x.body) (sym c.index-as_slice-rule.is) (c.passes.ensures.0 c.if-not-passes.false)) just
