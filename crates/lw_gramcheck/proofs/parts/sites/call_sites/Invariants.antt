use Rattle.std.proofs.Common.{[], map, take}
use Rattle.lw_grammar.specs.declared.grammar.Grammar.{Grammar}
use Rattle.lw_numbers.specs.NameTable.{AreNameRulesOf}
use Rattle.lw_numbers.specs.Parts.{leaf_of}
use Rattle.lw_faults.specs.Finding.{Finds, OfSome}
use Rattle.lw_gramcheck.specs.Sites.{site_of, LeafSites}
use Rattle.lw_gramcheck.proofs.parts.sites.call_sites.Given as goal

abbrev pub invariant-loop-leaf : goal.invariant-loop-leaf
invariant-loop-leaf l = (g : Grammar) → AreNameRulesOf g l.fn.name_rules →
    Finds (OfSome (λ leaf. LeafSites g (leaf_of leaf)) (take l.leaf-index l.leaf-items)) [] (map site_of l.sites.items)
