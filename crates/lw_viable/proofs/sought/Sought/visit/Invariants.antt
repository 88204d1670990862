-- What is known of the readings that are still to be explored and of those that were found. The former get lighter.
use Rattle.std.proofs.Common.{ℕ, List, All, map}
use Rattle.lw_grammar.specs.declared.grammar.Grammar.{Grammar}
use Rattle.lw_grammar.specs.Kinds.{Kinds}
use Rattle.lw_viable.specs.Aims.{Aim, Fulfils}
use Rattle.lw_viable.specs.Fronts.{IsKnownProgram}
use Rattle.lw_viable.specs.Growing.{AreHeldIn, GrowsLists, HasLists, read, fronts_weight}
use Rattle.lw_viable.specs.Visiting.{IsToldDue}
use Rattle.lw_viable.proofs.Visited.{IsVisiting}
use Rattle.lw_viable.proofs.sought.Sought.visit.Given as goal

abbrev pub invariant-visits : goal.invariant-visits
invariant-visits l = record {
  grows : GrowsLists l.fn.lists l.lists;
  within : All (HasLists l.lists) l.work.items;
  found_within : All (HasLists l.lists) l.found.items;
  visited : (g : Grammar) (kinds : Kinds) (aim : Aim) (ks : List ℕ) (known : IsKnownProgram g kinds l.self.program.now l.self.begins.now) →
      AreHeldIn g kinds known.program.tasks aim ks l.fn.lists l.kept → IsToldDue g l.due →
      IsVisiting g kinds known (Fulfils g kinds known.program.tasks aim) l.due ks (map (read l.lists) l.work.items) (map (read l.lists) l.found.items);
}

abbrev pub decreases-visits : goal.decreases-visits
decreases-visits l = fronts_weight l.lists l.work.items
