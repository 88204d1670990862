-- What is known of the trees before a reference that comes next, and of the reference behind them.
use Rattle.std.proofs.Common.{◌≡◌, ◌<◌, ℕ, List, [], ◌∷◌, ◌++◌, Some, length, slice_get, get_or, refl, sym, ap, subst, ◌∙◌}
use Rattle.std.proofs.lemmas.List.{append-nil}
use Rattle.std.proofs.lemmas.List.Elements.{All-contains}
use Rattle.std.proofs.lemmas.Option.{get_or_from_slice_get, slice_get_within}
use Rattle.lw_grammar.specs.declared.grammar.Grammar.{Grammar}
use Rattle.lw_grammar.specs.Kinds.{AreKinds, Kinds}
use Rattle.lw_reading.specs.Trees.{IsOpenedTree}
use Rattle.lw_numbers.specs.Numbering.{type_names}
use Rattle.lw_places.specs.Starting.{IsFrontTree, ReferenceNext, marks_with}
use Rattle.lw_reading.specs.Known.{HasOneRoot}
use Rattle.lw_reading.proofs.Enclosed.{tree_encloses}
use Rattle.lw_reading.proofs.OneRoot.{one_root}
use Rattle.lw_reading.proofs.Typed.{opened_tree_known}
use Rattle.lw_parse.specs.Parsers.{ParserParts, ParsesFaultless}
use Rattle.lw_program.specs.declared.recipes.mark.TreeMark.{TreeMark}
use Rattle.lw_program.specs.declared.recipes.mark.TreeMark.TheVariants as numbered
use Rattle.lw_program.specs.Making.{AreRecipesOf, RecipeLists}
use Rattle.lw_program.specs.Meant.{AreMeant}
use Rattle.lw_program.specs.Meant as meant
use Rattle.lw_reading.specs.Growing.{GrowsOpen}
use Rattle.lw_scoping.specs.Outward.{ContainersComeFirst}
use Rattle.lw_grammar.specs.Marks.{Mark}
use Rattle.lw_tokens.specs.Cut.{visible}
use Rattle.lw_tree.specs.declared.node.Reference.{Reference}
use Rattle.lw_tree.specs.Parts.{Parts}
use Rattle.lw_viable.specs.declared.reference_start.ReferenceStart.{ReferenceStart}
use Rattle.lw_viable.proofs.Meaning.{meant_joined}
use Rattle.lw_complete.specs.declared.starting.FrontTrees.{FrontTrees}
use Rattle.lw_complete.specs.declared.typing.Typing.{Typing}
use Rattle.lw_complete.specs.Starts.{AreFrontTrees, ComesAt}
use Rattle.lw_complete.specs.Typing.{grammar_of}
use Rattle.lw_complete.proofs.BlankTrees.{marks_are}
use Rattle.lw_complete.proofs.FrontTrees.{both_grow, reference_behind}

-- the reference that an index gives
pub item_there : {X : Type 0} (xs : List X) (i : ℕ) (x y : X) → slice_get xs i ≡ Some x → y ≡ get_or xs i y → y ≡ x
item_there xs i x y at is = is ∙ get_or_from_slice_get xs i x y at

-- ---- how the trees are made, by the recipes that the parser lends

module _ (typing : Typing) (start : ReferenceStart) (of : Kinds) (next : ReferenceNext) (at : ComesAt of typing next start) (parser : ParserParts)
    (by : (kinds : Kinds) × AreKinds (grammar_of typing) kinds × (k : ℕ) × ParsesFaultless (grammar_of typing) kinds k parser) (recipes : RecipeLists)
    (lent : recipes ≡ parser.recipes) where
  abbrev g : Grammar
  g = grammar_of typing

  faultless : ParsesFaultless g by.0 by.2 parser
  faultless = by.3

  are_recipes : AreRecipesOf g recipes
  are_recipes = subst (AreRecipesOf g) (sym lent) faultless.parser.recipes

  grow : GrowsOpen g typing.front.now next.before (visible typing.tokens.now) × GrowsOpen g typing.front.now (marks_with next []) (visible typing.tokens.now)
  grow =
      both_grow g of faultless.types faultless.checks next typing.tokens.now at.comes typing.front.now parser.recipes.naming faultless.parser.recipes.name

  -- what is asked for, and what is got, where a tree of these marks is made
  abbrev pub Asks : List TreeMark → Type 0
  Asks marks =
      (grammar : Grammar) × (m : List Mark) × AreRecipesOf grammar recipes × AreMeant grammar marks m
      × GrowsOpen grammar typing.front.now m (visible typing.tokens.now)

  abbrev pub Gets : List TreeMark → Parts → Type 0
  Gets marks tree =
      (grammar : Grammar) (m : List Mark) → AreRecipesOf grammar recipes → AreMeant grammar marks m →
      GrowsOpen grammar typing.front.now m (visible typing.tokens.now) →
      IsOpenedTree grammar typing.front.now m (visible typing.tokens.now) typing.tokens.now tree

  before_meant : (marks : List TreeMark) → marks ≡ start.marks → AreMeant g marks next.before
  before_meant marks same = subst (λ (xs : List TreeMark). AreMeant g xs next.before) (sym same) at.is_start.meant

  pub asks_before : (marks : List TreeMark) → marks ≡ start.marks → Asks marks
  asks_before marks same = (g, next.before, are_recipes, before_meant marks same, grow.0)

  behind_meant : (marks : List TreeMark) → marks ≡ start.marks ++ (numbered.Put start.put ∷ numbered.End ∷ []) → AreMeant g marks (marks_with next [])
  behind_meant marks same =
      subst (λ (xs : List TreeMark). AreMeant g xs (marks_with next [])) (sym same)
      (subst (AreMeant g (start.marks ++ (numbered.Put start.put ∷ numbered.End ∷ []))) (marks_are next [] ∙ append-nil (marks_with next []))
      (meant_joined g at.is_start.meant (meant.more at.is_start.puts (meant.more meant.ends meant.none))))

  pub asks_behind : (marks : List TreeMark) → marks ≡ start.marks ++ (numbered.Put start.put ∷ numbered.End ∷ []) → Asks marks
  asks_behind marks same = (g, marks_with next [], are_recipes, behind_meant marks same, grow.1)

  pub both_made : (marks all : List TreeMark) → marks ≡ start.marks → all ≡ start.marks ++ (numbered.Put start.put ∷ numbered.End ∷ []) →
      (tree behind : Parts) → Gets marks tree → Gets all behind → AreFrontTrees of typing next record { tree = tree; behind = behind }
  both_made marks all same same_all tree behind gets gets_behind =
      let is = gets g next.before are_recipes (before_meant marks same) grow.0 in
      let was = gets_behind g (marks_with next []) are_recipes (behind_meant all same_all) grow.1 in
      let (r, reference) = reference_behind g of faultless.types faultless.checks next typing.tokens.now at.comes typing.front.now is was in
      record { r = r; is_tree = record { opened = is; behind = behind; opened_behind = was; reference = reference }; behind = refl }

-- ---- what is known of them

module _ (typing : Typing) (of : Kinds) (next : ReferenceNext) (trees : FrontTrees) (made : AreFrontTrees of typing next trees) where
  pub outwards : ContainersComeFirst trees.tree
  outwards = (tree_encloses made.is_tree.opened.grown typing.tokens.now trees.tree.name trees.tree made.is_tree.opened.parts).0

  pub root : HasOneRoot trees.tree
  root = one_root made.is_tree.opened.grown typing.tokens.now trees.tree.name trees.tree made.is_tree.opened.parts

  there : slice_get trees.behind.refs (length trees.tree.refs) ≡ Some made.r
  there = ap (λ (tree : Parts). slice_get tree.refs (length trees.tree.refs)) (sym made.behind) ∙ made.is_tree.reference

  within : length trees.tree.refs < length trees.behind.refs
  within = slice_get_within trees.behind.refs (length trees.tree.refs) made.r there

  -- the references of both, as they are lent
  module _ (refs behind : List Reference) (same : refs ≡ trees.tree.refs) (also : behind ≡ trees.behind.refs) where
    pub inside : length refs < length behind
    inside =
        subst (λ (rs : List Reference). length refs < length rs) (sym also)
        (subst (λ (rs : List Reference). length rs < length trees.behind.refs) (sym same) within)

    module _ (r : Reference) (is : r ≡ get_or behind (length refs) r) where
      at_end : r ≡ get_or trees.behind.refs (length trees.tree.refs) r
      at_end =
          is ∙ ap (λ (rs : List Reference). get_or rs (length refs) r) also
          ∙ ap (λ (rs : List Reference). get_or trees.behind.refs (length rs) r) same

      pub known : r.want.0 < length (type_names (grammar_of typing))
      known =
          All-contains (λ (s : Reference). s.want.0 < length (type_names (grammar_of typing))) trees.behind.refs r
          (opened_tree_known (grammar_of typing) typing.front.now (marks_with next []) (visible typing.tokens.now) typing.tokens.now trees.behind
          (subst (IsOpenedTree (grammar_of typing) typing.front.now (marks_with next []) (visible typing.tokens.now) typing.tokens.now) made.behind
          made.is_tree.opened_behind)).refs (length trees.tree.refs, within, sym at_end)

      pub is_front : IsFrontTree (grammar_of typing) of typing.front.now typing.tokens.now next trees.tree r
      is_front =
          subst (λ (s : Reference). IsFrontTree (grammar_of typing) of typing.front.now typing.tokens.now next trees.tree s)
          (sym (item_there trees.behind.refs (length trees.tree.refs) made.r r there at_end)) made.is_tree
