use Rattle.std.proofs.Common.{take}
use Rattle.lw_program.specs.Drafted.{AreDrafted}
use Rattle.lw_program.proofs.recipes.recipes.Recipes.of.Given as goal

abbrev pub invariant-loop-rule : goal.invariant-loop-rule
invariant-loop-rule l = AreDrafted l.lexicon.g.now (take l.rule-index l.lexicon.g.now.rules) l.draft l.types.items
