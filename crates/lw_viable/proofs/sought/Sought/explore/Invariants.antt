-- What is known of the readings that are still to be explored and of those that were found. The former get lighter.
use Rattle.std.proofs.Common.{◌≡◌, ℕ, ◌<◌, List, Some, All, map}
use Rattle.lw_base.specs.declared.numbers.KindId.{KindId}
use Rattle.lw_grammar.specs.declared.grammar.Grammar.{Grammar}
use Rattle.lw_grammar.specs.Kinds.{Kinds, kind_count}
use Rattle.lw_viable.specs.Aims.{Aim, Fulfils}
use Rattle.lw_viable.specs.Fronts.{IsKnownProgram}
use Rattle.lw_viable.specs.Growing.{AreHeldIn, GrowsLists, HasLists, read, fronts_weight}
use Rattle.lw_viable.proofs.Exploring.{IsExploring}
use Rattle.lw_viable.proofs.sought.Sought.explore.Given as goal

abbrev pub invariant-turns : goal.invariant-turns
invariant-turns l = record {
  grows : GrowsLists l.fn.lists l.lists;
  within : All (HasLists l.lists) l.work.items;
  found_within : All (HasLists l.lists) l.found.items;
  explored : (g : Grammar) (kinds : Kinds) (aim : Aim) (ks : List ℕ) (kind : KindId) (known : IsKnownProgram g kinds l.self.program.now l.self.begins.now) →
      l.self.kind ≡ Some kind → kind.0 < kind_count kinds → AreHeldIn g kinds known.program.tasks aim ks l.fn.lists l.kept →
      IsExploring g kinds known (Fulfils g kinds known.program.tasks aim) ks kind (map (read l.lists) l.work.items) (map (read l.lists) l.found.items);
}

abbrev pub decreases-turns : goal.decreases-turns
decreases-turns l = fronts_weight l.lists l.work.items
