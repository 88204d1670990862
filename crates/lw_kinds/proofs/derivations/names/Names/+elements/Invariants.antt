use Rattle.std.proofs.Common.{drop}
use Rattle.lw_kinds.specs.Passing.{EachPasses, SomePass}
use Rattle.lw_kinds.proofs.derivations.names.Names.+elements.Given as goal

abbrev pub invariant-all_pass-loop-element : goal.invariant-all_pass-loop-element
invariant-all_pass-loop-element l =
    EachPasses l.self.g.now l.tokens l.flags (drop l.element-index l.elements) → EachPasses l.self.g.now l.tokens l.flags l.elements

abbrev pub invariant-some_pass-loop-element : goal.invariant-some_pass-loop-element
invariant-some_pass-loop-element l =
    SomePass l.self.g.now l.tokens l.flags l.elements → SomePass l.self.g.now l.tokens l.flags (drop l.element-index l.elements)
