-- Each place that the tables of a tree name is of a node.
use Rattle.std.proofs.Common.{ℕ, ◌+◌, ◌-◌, ◌≤◌, ◌<◌, List, [], ◌∷◌, ◌++◌, All, arith}
use Rattle.std.proofs.lemmas.List.Elements.{All-nil, All-append, All-push, All-same}
use Rattle.lw_base.specs.declared.numbers.NodeId.{NodeId}
use Rattle.lw_base.specs.declared.numbers.PropId.{PropId}
use Rattle.lw_tree.specs.declared.node.Reference.{Reference}
use Rattle.lw_tree.specs.declared.node.Value.{Value}
use Rattle.lw_tree.specs.declared.node.Value.TheVariants.{Child, Refers}
use Rattle.lw_reading.specs.Grown.{Plain, Text, Number, Huge, Raw, Truth, as_value, Grown, Grow, Held, Nothing, Puts, Takes, Points, size, size_of}
use Rattle.lw_reading.specs.Trees.{points_of}
use Rattle.lw_builder.specs.Finishing.{IsPlaceWithin}
use Rattle.lw_builder.specs.Tables.{put_in, owned, stored, stored_in, pointed, pointed_in}
use Rattle.lw_builder.specs.Renaming.{HasPlaces}
use Rattle.lw_builder.proofs.PreorderLengths.{size_positive}
use Rattle.lw_builder.proofs.Joining.{owned-push}

plain_within : (m : ℕ) (v : Plain) → IsPlaceWithin m (as_value v)
plain_within m (Text text s) = tt
plain_within m (Number n s) = tt
plain_within m (Huge s) = tt
plain_within m (Raw text s) = tt
plain_within m (Truth s) = tt

one_more_within : (m : ℕ) (o : NodeId) (xs : List (PropId × Value)) (e : PropId × Value) → o.0 < m → IsPlaceWithin m e.1 → All (HasPlaces m) (owned o xs) →
    All (HasPlaces m) (owned o (xs ++ e ∷ []))
one_more_within m o xs e lt within before =
    All-same (HasPlaces m) (owned o (xs ++ e ∷ [])) (owned o xs ++ (o, e.0, e.1) ∷ []) (owned-push o xs e)
    (All-push (HasPlaces m) (owned o xs) (o, e.0, e.1) before (lt, within))

own_within : (m o b r : ℕ) (held : Held) → o < m → b + size_of held ≤ m → All (HasPlaces m) (owned (record { 0 = o }) (put_in b r held))
own_within m o b r Nothing lt room = All-nil (HasPlaces m)
own_within m o b r (Puts held p v) lt room =
    one_more_within m (record { 0 = o }) (put_in b r held) (record { 0 = p }, as_value v) lt (plain_within m v) (own_within m o b r held lt room)
own_within m o b r (Points held p want name s) lt room =
    one_more_within m (record { 0 = o }) (put_in b r held) (record { 0 = p }, Refers (record { 0 = r + points_of held })) lt tt (own_within m o b r held lt room)
own_within m o b r (Takes held p x) lt room =
    one_more_within m (record { 0 = o }) (put_in b r held) (record { 0 = p }, Child (record { 0 = b + size_of held + size x - 1 })) lt
    (omega (arith, room, size_positive x)) (own_within m o b r held lt (omega (arith, room)))

mutual
  pub stored_within : (m b r : ℕ) (x : Grown) → b + size x ≤ m → All (HasPlaces m) (stored b r x)
  stored_within m b r (Grow t s held) room =
      All-append (HasPlaces m) (stored_in b r held) (owned (record { 0 = b + size_of held }) (put_in b r held)) (stored_in_within m b r held (omega (arith, room)))
      (own_within m (b + size_of held) b r held (omega (arith, room)) (omega (arith, room)))

  stored_in_within : (m b r : ℕ) (held : Held) → b + size_of held ≤ m → All (HasPlaces m) (stored_in b r held)
  stored_in_within m b r Nothing room = All-nil (HasPlaces m)
  stored_in_within m b r (Puts held p v) room = stored_in_within m b r held room
  stored_in_within m b r (Points held p want name s) room = stored_in_within m b r held room
  stored_in_within m b r (Takes held p x) room =
      All-append (HasPlaces m) (stored_in b r held) (stored (b + size_of held) (r + points_of held) x) (stored_in_within m b r held (omega (arith, room)))
      (stored_within m (b + size_of held) (r + points_of held) x (omega (arith, room)))

-- the owner of a reference is of the first m nodes
abbrev pub OwnerWithin : ℕ → Reference → Type 0
OwnerWithin m r = r.owner.0 < m

mutual
  pub pointed_within : (m b : ℕ) (x : Grown) → b + size x ≤ m → All (OwnerWithin m) (pointed b x)
  pointed_within m b (Grow t s held) room = pointed_in_within m (record { 0 = b + size_of held }) b held (omega (arith, room)) (omega (arith, room))

  pointed_in_within : (m : ℕ) (o : NodeId) (b : ℕ) (held : Held) → o.0 < m → b + size_of held ≤ m → All (OwnerWithin m) (pointed_in o b held)
  pointed_in_within m o b Nothing lt room = All-nil (OwnerWithin m)
  pointed_in_within m o b (Puts held p v) lt room = pointed_in_within m o b held lt room
  pointed_in_within m o b (Points held p want name s) lt room =
      All-push (OwnerWithin m) (pointed_in o b held) (record { owner = o; prop = record { 0 = p }; want = record { 0 = want }; name = name; span = s })
      (pointed_in_within m o b held lt room) lt
  pointed_in_within m o b (Takes held p x) lt room =
      All-append (OwnerWithin m) (pointed_in o b held) (pointed (b + size_of held) x) (pointed_in_within m o b held lt (omega (arith, room)))
      (pointed_within m (b + size_of held) x (omega (arith, room)))
