-- What stands against a rename, by what is seen of documents, or that nothing does.
use Rattle.std.specs.Prelude.{ℕ, List, Option, length}
use Rattle.lw_base.specs.declared.token.Span.{Span}
use Rattle.lw_grammar.specs.declared.grammar.Grammar.{Grammar}
use Rattle.lw_query.specs.declared.view.View.{View}
use Rattle.lw_tree.specs.Parts.{Parts}
use Rattle.lw_rename.specs.Afterwards.{trees_after}
use Rattle.lw_rename.specs.Rereading.{AreAllAgain, IsFirstSpoiled}
use Rattle.lw_rename.specs.Staying.{IsFirstRebound, StayAmongFirst}
use Rattle.lw_rename.specs.declared.fault.RenameFault.{RenameFault}

module _ (g : Grammar) (new : List ℕ) (views : List View) (spans : List (List Span)) where
  -- all that is edited can be read and has its shape, and no link is another
  pub record StandsNothingAgainst : Type 0 where
    pub trees : List (Option Parts)
    pub again : AreAllAgain g new views spans trees
    pub stay : StayAmongFirst g views (trees_after views trees) trees (length views)

  -- the first that stands against it
  pub data StandsAgainst (fault : RenameFault) : Type 0 where
    spoiled : IsFirstSpoiled g new views spans fault → StandsAgainst fault
    rebound : {trees : List (Option Parts)} → AreAllAgain g new views spans trees → IsFirstRebound g views (trees_after views trees) trees fault → StandsAgainst fault
