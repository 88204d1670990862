-- What is alike has as many nodes and as many references.
use Rattle.std.proofs.Common.{◌≡◌, ◌+◌, ℕ, List, [], ◌∷◌, length, refl, arith}
use Rattle.std.proofs.lemmas.List.{length-append}
use Rattle.lw_base.specs.declared.token.Token.{Token}
use Rattle.lw_reading.specs.Brackets.{Bracket}
use Rattle.lw_reading.specs.Grown.{Grown, Grow, Held, Nothing, Puts, Takes, Points, size, size_of}
use Rattle.lw_reading.specs.Trees.{points, points_of, refs, refs_of}
use Rattle.lw_tree.specs.declared.node.Reference.{Reference}
use Rattle.lw_substitution.specs.Growth.{AreAlikeGrown, AreAlikeHeld, AreAlikeOpen, AreAlikeCovered, points_open}
use Rattle.lw_substitution.specs.Growth as alike

module _ (place : ℕ) where
  mutual
    pub same_size : {from : ℕ} {x y : Grown} → AreAlikeGrown place from x y → size x ≡ size y
    same_size (alike.grow is) = omega (arith, same_size_of is)

    pub same_size_of : {from : ℕ} {held kept : Held} → AreAlikeHeld place from held kept → size_of held ≡ size_of kept
    same_size_of alike.nothing = refl
    same_size_of (alike.puts is like) = same_size_of is
    same_size_of (alike.takes is like) = omega (arith, same_size_of is, same_size like)
    same_size_of (alike.points_to is named) = same_size_of is

  mutual
    pub same_points : {from : ℕ} {x y : Grown} → AreAlikeGrown place from x y → points x ≡ points y
    same_points (alike.grow is) = same_points_of is

    pub same_points_of : {from : ℕ} {held kept : Held} → AreAlikeHeld place from held kept → points_of held ≡ points_of kept
    same_points_of alike.nothing = refl
    same_points_of (alike.puts is like) = same_points_of is
    same_points_of (alike.takes is like) = omega (arith, same_points_of is, same_points like)
    same_points_of (alike.points_to is named) = omega (arith, same_points_of is)

  module _ (text other : List ℕ) (ts us : List Token) where
    mutual
      pub same_points_open : {bs cs : List Bracket} → AreAlikeOpen text other place ts us bs cs → points_open bs ≡ points_open cs
      same_points_open alike.none = refl
      same_points_open (alike.root is below) = omega (arith, same_points is, same_points_covered below)
      same_points_open (alike.node is below) = omega (arith, same_points_of is, same_points_covered below)
      same_points_open (alike.finished is below) = omega (arith, same_points is, same_points_covered below)
      same_points_open (alike.begun since below) = same_points_covered below

      same_points_covered : {bs cs : List Bracket} → AreAlikeCovered text other place ts us bs cs → points_open bs ≡ points_open cs
      same_points_covered (alike.bare is) = same_points_open is
      same_points_covered (alike.covered is) = same_points_covered is

-- how many references a tree has

mutual
  pub count_refs : (n : ℕ) (x : Grown) → length (refs n x) ≡ points x
  count_refs n (Grow type s held) = count_refs_of n (n + 1) held

  pub count_refs_of : (number n : ℕ) (held : Held) → length (refs_of number n held) ≡ points_of held
  count_refs_of number n Nothing = refl
  count_refs_of number n (Puts held p v) = count_refs_of number n held
  count_refs_of number n (Points held p want name s) =
      let r : Reference = record { owner = record { 0 = number }; prop = record { 0 = p }; want = record { 0 = want }; name = name; span = s } in
      omega (arith, length-append (refs_of number n held) (r ∷ []), count_refs_of number n held)
  count_refs_of number n (Takes held p x) =
      omega (arith, length-append (refs_of number n held) (refs (n + size_of held) x), count_refs_of number n held, count_refs (n + size_of held) x)
