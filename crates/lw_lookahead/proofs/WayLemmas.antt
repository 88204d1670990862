-- What ways have, put one after the other.
use Rattle.std.proofs.Common.{◌≡◌, ℕ, zero, suc, ◌+◌, ◌<◌, ◌≤◌, List, [], ◌∷◌, ◌++◌, Some, length, map, take, get_or, slice_get, refl, sym, ap, ◌∙◌, subst, arith}
use Rattle.std.proofs.lemmas.Option.{none-some, same_Some}
use Rattle.std.proofs.lemmas.List.{take_all, take_more, map-append}
use Rattle.lw_grammar.specs.declared.grammar.Grammar.{Grammar}
use Rattle.lw_grammar.specs.Kinds.{Kinds}
use Rattle.lw_look.specs.Sites.{Part}
use Rattle.lw_first.specs.declared.heads.head.Head.{Head}
use Rattle.lw_first.specs.Sets.{AddsHeads}
use Rattle.lw_first.proofs.HeadLemmas.{adds_to_none}
use Rattle.lw_first.specs.Before.{CanBefore}
use Rattle.lw_lookahead.specs.Ways.{HasExactly, AreWaysInto}

-- what is put into an empty set is all that it has
pub exactly : (P : List ℕ → Type 0) (old new : List Head) → old ≡ [] → AddsHeads P old new → HasExactly P new
exactly P old new none adds h = adds_to_none {P = P} new (subst (λ heads. AddsHeads P heads new) none adds) h

module _ (g : Grammar) (kinds : Kinds) (k : ℕ) (sets : List (List Head)) (after : List Head) where
  pub ways_none : (ways : List (List Head)) → ways ≡ [] → AreWaysInto g kinds k sets [] after ways
  ways_none ways none = subst (AreWaysInto g kinds k sets [] after) (sym none) (record { all = refl; each = λ i x way at there. absurd (none-some x at) })

  ways_before : (parts : List Part) (ways : List (List Head)) (x : Part) (way : List Head) → HasExactly (CanBefore g kinds k sets x after) way →
      AreWaysInto g kinds k sets parts after ways → AreWaysInto g kinds k sets (x ∷ parts) after (way ∷ ways)
  ways_before parts ways x way is rest = record { all = ap suc rest.all; each = each }
    where
      each : (i : ℕ) (y : Part) (other : List Head) → slice_get (x ∷ parts) i ≡ Some y → slice_get (way ∷ ways) i ≡ Some other →
          HasExactly (CanBefore g kinds k sets y after) other
      each zero y other at there =
          subst (λ y. HasExactly (CanBefore g kinds k sets y after) other) (same_Some x y at)
          (subst (λ heads. HasExactly (CanBefore g kinds k sets x after) heads) (same_Some way other there) is)
      each (suc i) y other at there = rest.each i y other at there

  push_way : (parts : List Part) (ways : List (List Head)) (x : Part) (way : List Head) → AreWaysInto g kinds k sets parts after ways →
      HasExactly (CanBefore g kinds k sets x after) way → AreWaysInto g kinds k sets (parts ++ x ∷ []) after (ways ++ way ∷ [])
  push_way [] [] x way are is = ways_before [] [] x way is are
  push_way [] (w ∷ ways) x way are is = absurd (omega (arith, are.all))
  push_way (p ∷ parts) [] x way are is = absurd (omega (arith, are.all))
  push_way (p ∷ parts) (w ∷ ways) x way are is =
      ways_before (parts ++ x ∷ []) (ways ++ way ∷ []) p w (are.each 0 p w refl refl)
      (push_way parts ways x way (record { all = less are.all; each = λ i y other at there. are.each (suc i) y other at there }) is)
    where
      less : suc (length ways) ≡ suc (length parts) → length ways ≡ length parts
      less same = omega arith

  module _ {X : Type 0} (part_of : X → Part) where
    pub ways_more : (xs : List X) (i : ℕ) (x : X) (ways : List (List Head)) (way : List Head) (new : List (List Head)) → new ≡ ways ++ way ∷ [] → i < length xs →
        x ≡ get_or xs i x → AreWaysInto g kinds k sets (map part_of (take i xs)) after ways → HasExactly (CanBefore g kinds k sets (part_of x) after) way →
        AreWaysInto g kinds k sets (map part_of (take (i + 1) xs)) after new
    ways_more xs i x ways way new grown inside is are has =
        subst (λ found. AreWaysInto g kinds k sets (map part_of (take (i + 1) xs)) after found) (sym grown)
        (subst (λ parts. AreWaysInto g kinds k sets parts after (ways ++ way ∷ [])) (sym next) (push_way (map part_of (take i xs)) ways (part_of x) way are has))
      where
        next : map part_of (take (i + 1) xs) ≡ map part_of (take i xs) ++ part_of x ∷ []
        next =
            ap (map part_of) (take_more xs i x inside ∙ ap (λ y. take i xs ++ y ∷ []) (sym is)) ∙ map-append part_of (take i xs) (x ∷ [])

    pub ways_all : (xs : List X) (i : ℕ) (ways : List (List Head)) → length xs ≤ i → AreWaysInto g kinds k sets (map part_of (take i xs)) after ways →
        AreWaysInto g kinds k sets (map part_of xs) after ways
    ways_all xs i ways past are = subst (λ ys. AreWaysInto g kinds k sets (map part_of ys) after ways) (take_all i xs past) are
