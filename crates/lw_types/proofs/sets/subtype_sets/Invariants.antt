use Rattle.std.proofs.Common.{◌≡◌, length}
use Rattle.lw_grammar.specs.declared.grammar.Grammar.{Grammar}
use Rattle.lw_numbers.specs.Tables.{AreNumbersOf}
use Rattle.lw_numbers.specs.Kinship.{AreSubtypesOf}
use Rattle.lw_types.specs.Sets.{AreSetsOf}
use Rattle.lw_types.proofs.sets.subtype_sets.Given as goal

abbrev pub invariant-loop-number : goal.invariant-loop-number
invariant-loop-number l = record {
  all : length l.sets.items ≡ l.count;
  exact : (g : Grammar) → AreNumbersOf g l.numbers → AreSubtypesOf g l.subtypes → AreSetsOf l.subtypes l.count l.number l.sets.items;
}
