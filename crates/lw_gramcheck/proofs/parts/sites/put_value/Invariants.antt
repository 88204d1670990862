use Rattle.std.proofs.Common.{map, take}
use Rattle.lw_grammar.specs.declared.grammar.Grammar.{Grammar}
use Rattle.lw_numbers.specs.NameTable.{AreNameRulesOf}
use Rattle.lw_numbers.specs.Parts.{value_leaf_of}
use Rattle.lw_faults.specs.Finding.{Finds, OfSome}
use Rattle.lw_gramcheck.specs.Sites.{site_of, how_of, PartCalls}
use Rattle.lw_gramcheck.proofs.parts.sites.put_value.Given as goal

abbrev pub invariant-loop-part : goal.invariant-loop-part
invariant-loop-part l = (g : Grammar) → AreNameRulesOf g l.fn.name_rules →
    Finds (OfSome (λ part. PartCalls g (how_of l.fn.manner) (value_leaf_of part)) (take l.part-index l.part-items)) (map site_of l.fn.sites.items)
    (map site_of l.sites.items)
