-- What is meant at an offset, by what is seen of documents: a node of a numbered document.
use Rattle.std.specs.Prelude.{ℕ, ◌≡◌, ◌≢◌, List, Option, Some, None, Contains, slice_get}
use Rattle.lw_index.specs.declared.parts.Answer.{Answer}
use Rattle.lw_index.specs.declared.parts.Answer.TheVariants.{Found, Missing}
use Rattle.lw_index.specs.declared.parts.Target.{Target}
use Rattle.lw_places.specs.Places.{IsPlaceAt}
use Rattle.lw_places.specs.declared.place.Place.{Place}
use Rattle.lw_places.specs.declared.place.Place.TheVariants.{Named, Refers}
use Rattle.lw_query.specs.Built.{tree_seen}
use Rattle.lw_query.specs.declared.view.View.{View}
use Rattle.lw_tree.specs.Parts.{Parts}

abbrev pub target_led : Option Answer → Option Target
target_led None = None
target_led (Some Missing) = None
target_led (Some (Found target)) = Some target

-- what a place leads to
abbrev pub place_target : View → Place → Option Target
place_target v (Named n) = Some (record { doc = v.doc; node = n })
place_target v (Refers i) = target_led (slice_get v.answers.now i.0)

-- in one document
pub data MeansAt (v : View) (offset : ℕ) : Option Target → Type 0 where
  treeless : tree_seen v ≡ None → MeansAt v offset None
  nothing : {tree : Parts} → tree_seen v ≡ Some tree → IsPlaceAt tree offset None → MeansAt v offset None
  something : {tree : Parts} {p : Place} {target : Option Target} → tree_seen v ≡ Some tree → IsPlaceAt tree offset (Some p) → target ≡ place_target v p →
      MeansAt v offset target

-- in the document at an address
pub data IsMeantAmong (views : List View) (address : List ℕ) (offset : ℕ) : Option Target → Type 0 where
  nowhere : ((v : View) → Contains views v → v.uri.now ≢ address) → IsMeantAmong views address offset None
  there : {v : View} {target : Option Target} → Contains views v → v.uri.now ≡ address → MeansAt v offset target → IsMeantAmong views address offset target
