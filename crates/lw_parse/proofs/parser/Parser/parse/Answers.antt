-- The tree of the marks, and where there are none the fault.
use Rattle.std.proofs.Common.{[], ◌∷◌, MatchOption, sym, subst}
use Rattle.lw_grammar.specs.Sentences.{IsWhole}
use Rattle.lw_reading.specs.Brackets.{Root}
use Rattle.lw_reading.specs.Follows as follows
use Rattle.lw_program.specs.Making.{AreRecipesOf}
use Rattle.lw_program.specs.Meant.{AreMeant}
use Rattle.lw_parse.specs.Marked.{MeanOnlySentence}
use Rattle.lw_parse.specs.Outcomes.{IsParseFault, kinds_seen}
use Rattle.lw_parse.specs.Parsers.{AreOfKinds}
use Rattle.lw_parse.proofs.Parsed.{meant_by, grows_root, only_tree}
use Rattle.lw_parse.proofs.parser.Parser.parse.Goals as goal

pub returns-in-Ok-None-clause-fault : goal.returns-in-Ok-None-clause-fault
returns-in-Ok-None-clause-fault c = λ g kinds k is all.
    let value = c.as_slice-in-Ok-None.ensures.value in
    let none = subst (λ found. MatchOption found (¬ IsWhole g kinds (kinds_seen c.as_slice.result.now)) (λ marks. MeanOnlySentence g kinds (kinds_seen c.as_slice.result.now) marks.items))
    c.in-Ok-None.field-0-is (c.in-Ok-None.ensures g kinds k is.parser is.supplied) in
    subst (λ ts. IsParseFault g kinds ts c.fault.result) value
    (c.fault.ensures g kinds k is.parser is.supplied (subst (AreOfKinds kinds) (sym value) all)
    (subst (λ ts. ¬ IsWhole g kinds (kinds_seen ts)) (sym value) (subst (λ ts. ¬ IsWhole g kinds (kinds_seen ts)) c.as_slice.ensures.value none)))

pub tree_of-requires-clause-follows : goal.tree_of-requires-clause-follows
tree_of-requires-clause-follows c =
    let (g, kinds, k, is, all) = c.requires.known in
    let mean = meant_by g kinds c.as_slice.result.now c.args.tokens.items c.in-Ok-Some.field-0 c.in-Ok-Some.marks (λ marks. marks.items) c.in-Ok-Some.field-0-is c.as_slice.ensures.value
    (c.in-Ok-Some.ensures g kinds k is.parser is.supplied) in
    let grows = grows_root g kinds is.types is.checks c.args.text.now c.args.tokens.items mean in (
      g,
      mean.sentence,
      Root grows.0 ∷ [],
      grows.0,
      subst (λ parts. AreRecipesOf g parts.recipes) (sym c.self.view_is) is.parser.recipes,
      subst (λ marks. AreMeant g marks mean.sentence) (sym c.as_slice-in-Ok-Some.ensures.value) mean.meant,
      grows.1,
      follows.root,
    )

pub returns-clause-tree : goal.returns-clause-tree
returns-clause-tree c = λ g kinds k is.
    let mean = meant_by g kinds c.as_slice.result.now c.args.tokens.items c.in-Ok-Some.field-0 c.in-Ok-Some.marks (λ marks. marks.items) c.in-Ok-Some.field-0-is c.as_slice.ensures.value
    (c.in-Ok-Some.ensures g kinds k is.parser is.supplied) in
    let grows = grows_root g kinds is.types is.checks c.args.text.now c.args.tokens.items mean in
    only_tree g kinds is.types is.checks c.args.text.now c.args.tokens.items mean
    (c.in-Ok.ensures g mean.sentence (Root grows.0 ∷ []) grows.0 (subst (λ parts. AreRecipesOf g parts.recipes) (sym c.self.view_is) is.parser.recipes)
    (subst (λ marks. AreMeant g marks mean.sentence) (sym c.as_slice-in-Ok-Some.ensures.value) mean.meant) grows.1 follows.root)
