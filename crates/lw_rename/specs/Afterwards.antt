-- The trees of all documents once some were read again.
use Rattle.std.specs.Prelude.{ℕ, ◌≡◌, ◌≢◌, List, [], ◌∷◌, Option, Some, None, AllPairs, slice_get, if◌then◌else◌}
use Rattle.std.specs.Str.{bytes_eq}
use Rattle.lw_query.specs.Built.{tree_seen}
use Rattle.lw_query.specs.declared.view.View.{View}
use Rattle.lw_scoping.specs.Links.{Trees}
use Rattle.lw_tree.specs.Parts.{Parts}

-- the new tree, where there is one, else the old
abbrev pub later : Option Parts → Option Parts → Option Parts
later None old = old
later (Some new) old = Some new

-- the trees by address
abbrev pub trees_after : List View → List (Option Parts) → Trees
trees_after [] trees address = None
trees_after (v ∷ views) [] address = None
trees_after (v ∷ views) (t ∷ trees) address = if bytes_eq v.uri.now address then later t (tree_seen v) else trees_after views trees address

-- each address and each number stands once
pub record AreApart (views : List View) : Type 0 where
  pub numbers : AllPairs (λ v w. v.doc.0 ≢ w.doc.0) views
  pub addresses : AllPairs (λ v w. v.uri.now ≢ w.uri.now) views

-- a document with its new tree
pub record StandsWith (views : List View) (trees : List (Option Parts)) (k : ℕ) (v : View) (t : Option Parts) : Type 0 where
  pub view : slice_get views k ≡ Some v
  pub new : slice_get trees k ≡ Some t
