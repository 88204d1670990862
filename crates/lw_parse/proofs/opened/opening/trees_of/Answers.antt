-- A tree that is pushed, and one that is among them.
use Rattle.std.proofs.Common.{◌≤◌, ◌+◌, List, take, length, get_or, sym, ap, subst, ◌∙◌, arith, true≢false}
use Rattle.lw_reading.specs.Trees.{IsOpenedTree}
use Rattle.lw_program.specs.declared.recipes.mark.TreeMark.{TreeMark}
use Rattle.lw_program.specs.Making.{AreRecipesOf}
use Rattle.lw_program.specs.Meant.{AreMeant}
use Rattle.lw_grammar.specs.Marks.{Mark}
use Rattle.lw_tokens.specs.Cut.{kinds, visible}
use Rattle.lw_parse.specs.Readings.{IsReading}
use Rattle.lw_parse.proofs.Begun.{reading_grows}
use Rattle.lw_parse.proofs.TreesSoFar.{AreTreesOf, IsGiven, all_trees, known_tree, next_tree}
use Rattle.lw_parse.proofs.opened.opening.trees_of.Goals as goal
use Rattle.lw_parse.proofs.opened.opening.trees_of.Goals.{then-not-is_among+in_ok-push, else-not-is_among}

pub opened_tree-requires-clause-known : goal.opened_tree-requires-clause-known
opened_tree-requires-clause-known c =
    let (g, of, k, faultless, are) = c.requires.known in
    let (m, means, is) = are.each c.readings.marks-index c.marks-item.result c.readings-test.true in (
      g,
      m,
      subst (AreRecipesOf g) (sym c.recipes-recipes.ensures) faultless.parser.recipes,
      subst (λ (xs : List TreeMark). AreMeant g xs m) (sym (c.as_slice.ensures ∙ c.marks-item.is)) means,
      reading_grows g of k c.args.parser.now faultless c.args.text.now (visible c.args.tokens.now) m is,
    )

pub readings-preserved : goal.readings-preserved
readings-preserved c g of k faultless are =
    let parser = c.args.parser.now in
    let text = c.args.text.now in
    let tokens = c.args.tokens.now in
    let readings = c.args.readings.now in
    let i = c.readings.marks-index in
    let trees = c.readings.trees.items in
    let tree = c.in_ok-tree.tree in
    let so_far = c.readings.invariant g of k faultless are in
    let opened : (m : List Mark) → AreMeant g (get_or readings i c.marks-item.result) m → IsReading g of parser.entry (kinds (visible tokens)) m →
    IsOpenedTree g text m (visible tokens) tokens tree =
    λ m means is.
    c.in_ok-tree.ensures g m (subst (AreRecipesOf g) (sym c.recipes-recipes.ensures) faultless.parser.recipes)
    (subst (λ (xs : List TreeMark). AreMeant g xs m) (sym (c.as_slice.ensures ∙ c.marks-item.is)) means)
    (reading_grows g of k parser faultless text (visible tokens) m is) in
    elim c.if-not-is_among.branch [
      | then-not-is_among+in_ok-push w ↦
          let new : ¬ IsGiven tree trees =
          λ among. true≢false (sym (c.is_among.ensures.1 (subst (IsGiven tree) (sym c.as_slice-in-readings.ensures.value) among)) ∙ w.if-not-is_among.true) in
          subst (AreTreesOf g of parser.entry text tokens (take (i + 1) readings)) (sym (ap (λ all. all.items) w.trees-is ∙ w.in_ok-push.ensures.items))
          (next_tree g of parser.entry text tokens readings i c.marks-item.result c.readings-test.true trees tree are so_far opened new)
      | else-not-is_among w ↦
          let among : IsGiven tree trees = subst (IsGiven tree) c.as_slice-in-readings.ensures.value (c.is_among.ensures.0 w.if-not-is_among.false) in
          subst (AreTreesOf g of parser.entry text tokens (take (i + 1) readings)) (sym (ap (λ all. all.items) w.trees-is))
          (known_tree g of parser.entry text tokens readings i c.marks-item.result c.readings-test.true trees tree are so_far opened among)
    ]

pub returns : goal.returns
returns c g of k faultless are =
    let readings = c.args.readings.now in
    let past : length readings ≤ c.readings.marks-index = omega (arith, c.readings-test.false) in
    all_trees g of c.args.parser.now.entry c.args.text.now c.args.tokens.now readings c.readings.marks-index c.readings.trees.items past are
    (c.readings.invariant g of k faultless are)
