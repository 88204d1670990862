-- What the values of a list say, each of them by one shape, or by one rule.
use Rattle.std.specs.Prelude.{List, [], ◌∷◌, Option, Some, None}
use Rattle.serde_json.specs.Data.{Data, Items, no_items, item}

-- one thing and those that come behind it, if there are such
abbrev pub followed : {A : Type 0} → Option A → Option (List A) → Option (List A)
followed (Some one) (Some others) = Some (one ∷ others)
followed (Some one) None = None
followed None others = None

-- what these values say, where each of them says something
abbrev pub items_by : {A : Type 0} → (Data → Option A) → Items → Option (List A)
items_by shape no_items = Some []
items_by shape (item value others) = followed (shape value) (items_by shape others)

-- the values are these things, one each, as it is told of one value and one thing
pub data AreEach {A : Type 0} (Is : Data → A → Type 0) : Items → List A → Type 0 where
  none : AreEach Is no_items []
  next : {d : Data} {others : Items} {one : A} {more : List A} → Is d one → AreEach Is others more → AreEach Is (item d others) (one ∷ more)
