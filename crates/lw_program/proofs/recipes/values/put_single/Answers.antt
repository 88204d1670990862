use Rattle.std.proofs.Common.{refl}
use Rattle.lw_program.specs.Drafted.{IsValueRecipe}
use Rattle.lw_program.proofs.Adding.{adds_one}
use Rattle.lw_program.proofs.Assigned.{is_value_recipe}
use Rattle.lw_program.proofs.recipes.values.put_single.Goals as goal

pub returns : goal.returns
returns c s goes stands =
    let g = c.args.lexicon.g.now in
    adds_one (IsValueRecipe g) s _ c.args.recipes.now.items _ (is_value_recipe g c.args.target s c.args.value.now _ goes stands refl c.in_ok-content.ensures)
    c.in_ok-push.ensures.items
