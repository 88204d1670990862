use Rattle.std.proofs.Common.{refl, sym, subst, ◌<◌, length}
use Rattle.lw_program.specs.Making.{RecipeLists}
use Rattle.lw_builder.proofs.Ending.{ended, value_ends, recipe_of_ended}
use Rattle.lw_builder.proofs.builder.Builder.end.Goals as goal

pub take_value-ended-requires : goal.take_value-ended-requires
take_value-ended-requires c =
    let r = c.requires in
    value_ends r.0 c.args.self.now r.1.0 r.1.1 r.1.3 r.1.4

pub value-recipe-requires : goal.value-recipe-requires
value-recipe-requires c =
    let r = c.requires in
    let old = c.args.self.now in
    let mid = c.take_value-ended.new.self in
    subst (λ (l : RecipeLists). c.take_value-ended.result.put < length l.made) (sym c.take_value-ended.ensures.reading.over.recipes)
    (recipe_of_ended r.0 old mid c.take_value-ended.result r.1.0 r.1.1 r.1.2 r.1.3 r.1.4
    (record { same = c.take_value-ended.ensures.kept; brackets = c.take_value-ended.ensures.brackets }))

pub returns-clause-ended : goal.returns-clause-ended
returns-clause-ended c = λ g bs after over h change.
    ended g c.args.self.now c.take_value-ended.new.self c.worth.new.self _ c.take_value-ended.result c.value-recipe.result.now _ bs after over h change
    (record { same = c.take_value-ended.ensures.kept; brackets = c.take_value-ended.ensures.brackets }) c.take_value-ended.ensures.reading c.value-recipe.ensures
    c.in_ok-value.ensures.worth c.worth.ensures.others refl refl c.in_ok-push.ensures.items refl refl
