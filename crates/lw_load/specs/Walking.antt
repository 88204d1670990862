-- How a walk over the files of a grammar goes on.
use Rattle.std.specs.Prelude.{ℕ, ◌≡◌, ◌+◌, ◌≤◌, List, [], ◌∷◌, ◌++◌, Option, map, reverse, Contains}
use Rattle.lw_grammar.specs.Size.{size}
use Rattle.lw_gramread.specs.Syntax.{bare_grammar}
use Rattle.lw_load.specs.declared.limits.TheConstants.{LARGEST_GRAMMAR}
use Rattle.lw_load.specs.declared.opening.Opened.{Opened}
use Rattle.lw_load.specs.declared.walk.Walk.{Walk}
use Rattle.lw_load.specs.Paths.{walked, import_path}
use Rattle.lw_load.specs.Loading.{Files, with_file}
use Rattle.lw_load.specs.Opening.{IsFound}

-- the file is put behind those that were loaded, and what it imports before all that waited
pub record Adds (old : Walk) (file : Opened) (new : Walk) : Type 0 where
  pub whole : new.whole ≡ with_file old.whole file.path file.says
  pub texts : new.texts ≡ old.texts ++ file.text ∷ []
  pub waiting : new.waiting.items ≡ old.waiting.items ++ reverse (map (λ i. import_path file.path i.path) file.says.imports)
  pub size : new.size ≡ old.size + size file.says
  pub fits : new.size ≤ LARGEST_GRAMMAR

-- the root was loaded
pub record BeginsWalk (told : Option Files) (root : List ℕ) (walk : Walk) : Type 0 where
  pub file : Opened
  pub is : IsFound told root file
  pub empty : Walk
  pub whole : empty.whole ≡ bare_grammar file.says.name []
  pub texts : empty.texts ≡ []
  pub waiting : empty.waiting.items ≡ []
  pub size : empty.size ≡ 0
  pub adds : Adds empty file walk
  pub seen : walk.seen.keys ≡ walked root ∷ []

-- all that counts is the same
pub record IsAsFar (old new : Walk) : Type 0 where
  pub whole : new.whole ≡ old.whole
  pub texts : new.texts ≡ old.texts
  pub seen : new.seen.keys ≡ old.seen.keys
  pub waiting : new.waiting.items ≡ old.waiting.items
  pub size : new.size ≡ old.size

-- the path was looked at: its file was loaded before, or it was found and put in
pub data Goes (told : Option Files) (path : List ℕ) (old new : Walk) : Type 0 where
  known : Contains old.seen.keys path → IsAsFar old new → Goes told path old new
  opened : (file : Opened) → ¬ Contains old.seen.keys path → IsFound told path file → Adds old file new → new.seen.keys ≡ old.seen.keys ++ path ∷ [] →
      Goes told path old new
