use Rattle.std.proofs.Common.{List, sym, subst}
use Rattle.lw_program.specs.declared.recipes.mark.TreeMark.{TreeMark}
use Rattle.lw_tokens.specs.Cut.{kinds, visible}
use Rattle.lw_parse.specs.Readings.{MeanReadings}
use Rattle.lw_parse.proofs.opened.opening.open_trees.Goals as goal

pub trees_of-requires-clause-known : goal.trees_of-requires-clause-known
trees_of-requires-clause-known c =
    let (g, of, k, faultless, are) = c.requires.known in (
      g,
      of,
      k,
      faultless,
      subst (λ (found : List (List TreeMark)). MeanReadings g of c.args.parser.now.entry (kinds (visible c.args.tokens.now)) found) (sym c.as_slice.ensures.value)
          (c.in_ok-readings.ensures g of k faultless are),
    )

pub returns : goal.returns
returns c g of k faultless are =
    c.trees_of.ensures g of k faultless
    (subst (λ (found : List (List TreeMark)). MeanReadings g of c.args.parser.now.entry (kinds (visible c.args.tokens.now)) found) (sym c.as_slice.ensures.value)
    (c.in_ok-readings.ensures g of k faultless are))
