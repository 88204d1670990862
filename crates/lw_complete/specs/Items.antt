-- What is handed out as an offer.
use Rattle.std.specs.Prelude.{ℕ, ◌≡◌, ◌++◌, List, map}
use Rattle.lw_places.specs.Offers.{Offer}
use Rattle.lw_complete.specs.declared.item.Item.{Item}

-- the offer that an item stands for
abbrev pub offer_of : Item → Offer
offer_of item = record { label = item.label; kind = item.kind }

-- the item of a kind for a label, in place of what stands between these offsets
abbrev pub item_of : ℕ → ℕ → ℕ → List ℕ → Item
item_of kind from to label = record { label = label; kind = kind; from = from; to = to }

-- those of keywords, and behind them those of names
abbrev pub items_of : ℕ → ℕ → List (List ℕ) → List (List ℕ) → List Item
items_of from to keywords names = map (item_of 14 from to) keywords ++ map (item_of 18 from to) names

-- the item takes the place of what stands between these offsets
abbrev pub TakesThePlace : ℕ → ℕ → Item → Type 0
TakesThePlace from to item = (item.from ≡ from) × (item.to ≡ to)
