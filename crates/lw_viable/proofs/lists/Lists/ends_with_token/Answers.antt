-- The latest mark is a token.
use Rattle.std.proofs.Common.{List, [], ◌∷◌, ◌++◌, reverse, refl, ap, ◌∙◌}
use Rattle.std.proofs.lemmas.Grind.{reverse_onto}
use Rattle.lw_viable.specs.Chains.{chain}
use Rattle.lw_program.specs.declared.recipes.mark.TreeMark.{TreeMark}
use Rattle.lw_viable.proofs.lists.Lists.ends_with_token.Goals as goal

pub returns-in-Some-Token-default : goal.returns-in-Some-Token-default
returns-in-Some-Token-default c =
    let latest = c.in-Some-Token-default in
    let others : List TreeMark = chain c.args.self.now.marks latest.field-0-1.0 in (
      λ is. (
        reverse others,
        latest.field-0-0-0,
        ap reverse latest.ensures.0 ∙ reverse_onto others latest.field-0-0 [] ∙ ap (λ mark. reverse others ++ mark ∷ []) latest.field-0-0-is,
      ),
      λ ends. refl,
    )
