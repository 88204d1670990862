-- Each reference stands in a node of its tree.
use Rattle.std.proofs.Common.{ℕ, ◌≡◌, ◌+◌, ◌<◌, ◌≤◌, Option, Some, None, length, All, refl, arith}
use Rattle.std.proofs.lemmas.List.{length-append}
use Rattle.std.proofs.lemmas.List.Elements.{All-nil, All-append, All-push}
use Rattle.lw_base.specs.declared.numbers.PropId.{PropId}
use Rattle.lw_base.specs.declared.numbers.NodeId.{NodeId}
use Rattle.lw_tree.specs.declared.node.Reference.{Reference}
use Rattle.lw_reading.specs.Grown.{Grown, Grow, Held, Nothing, Puts, Takes, Points, size, size_of, nodes, nodes_of}
use Rattle.lw_reading.specs.Trees.{refs, refs_of}

mutual
  count : (above : Option NodeId) (p : Option PropId) (n : ℕ) (x : Grown) → length (nodes above p n x) ≡ size x
  count above p n (Grow type s held) = omega (arith, count_inside n (n + 1) held)

  count_inside : (number n : ℕ) (held : Held) → length (nodes_of number n held) ≡ size_of held
  count_inside number n Nothing = refl
  count_inside number n (Puts held p v) = count_inside number n held
  count_inside number n (Points held p want name s) = count_inside number n held
  count_inside number n (Takes held p x) =
      omega (
        arith,
        length-append (nodes_of number n held) (nodes (Some (record { 0 = number })) (Some (record { 0 = p })) (n + size_of held) x),
        count_inside number n held,
        count (Some (record { 0 = number })) (Some (record { 0 = p })) (n + size_of held) x,
      )

-- the owner of a reference is one of the first nodes
abbrev IsOwnedBelow : ℕ → Reference → Type 0
IsOwnedBelow m r = r.owner.0 < m

mutual
  owned : (m n : ℕ) (x : Grown) → n + size x ≤ m → All (IsOwnedBelow m) (refs n x)
  owned m n (Grow type s held) room = owned_inside m n (n + 1) held (omega (arith, room)) (omega (arith, room))

  owned_inside : (m number n : ℕ) (held : Held) → number < m → n + size_of held ≤ m → All (IsOwnedBelow m) (refs_of number n held)
  owned_inside m number n Nothing lt room = All-nil (IsOwnedBelow m)
  owned_inside m number n (Puts held p v) lt room = owned_inside m number n held lt room
  owned_inside m number n (Points held p want name s) lt room =
      All-push (IsOwnedBelow m) (refs_of number n held)
      (record { owner = record { 0 = number }; prop = record { 0 = p }; want = record { 0 = want }; name = name; span = s })
      (owned_inside m number n held lt room) lt
  owned_inside m number n (Takes held p x) lt room =
      All-append (IsOwnedBelow m) (refs_of number n held) (refs (n + size_of held) x) (owned_inside m number n held lt (omega (arith, room)))
      (owned m (n + size_of held) x (omega (arith, room)))

pub refs_owned : (x : Grown) → All (IsOwnedBelow (length (nodes None None 0 x))) (refs 0 x)
refs_owned x = owned (length (nodes None None 0 x)) 0 x (omega (arith, count None None 0 x))
