-- Choices put one after the other.
use Rattle.std.proofs.Common.{◌≡◌, ℕ, zero, suc, List, [], ◌∷◌, ◌++◌, Some, Result, Ok, Err, length, take, slice_get, refl, sym, ap, ◌∙◌, subst, append_assoc, append-nil, arith}
use Rattle.std.specs.Result.{IsErrAnd}
use Rattle.std.proofs.lemmas.Option.{none-some, same_Some}
use Rattle.std.proofs.Math.Seq.{take-append_seam}
use Rattle.lw_grammar.specs.declared.grammar.Grammar.{Grammar}
use Rattle.lw_grammar.specs.Kinds.{Kinds}
use Rattle.lw_first.specs.declared.heads.head.Head.{Head}
use Rattle.lw_look.specs.Sites.{PartSite}
use Rattle.lw_look.specs.Choices.{choice_sites}
use Rattle.lw_lookahead.specs.declared.points.point.Point.{Point}
use Rattle.lw_lookahead.specs.declared.points.point.PointsFault.{PointsFault}
use Rattle.lw_lookahead.specs.declared.points.point.PointsFault.TheVariants.{TooMany, NoMemory}
use Rattle.lw_lookahead.specs.Points.{IsPointAt, ArePoints, CausesNoPoints}
use Rattle.lw_lookahead.specs.Counted.{IsPutPoint}
use Rattle.lw_lookahead.specs.Gathering.{PutsPoints, GathersPoints}

module _ (g : Grammar) (kinds : Kinds) (k : ℕ) (heads followers : List (List Head)) where
  -- ---- the points of sites

  are_none : ArePoints g kinds k heads followers [] []
  are_none = record { all = refl; each = λ n s point at there. absurd (none-some s at) }

  are_more : (s : PartSite) (point : Point) (sites : List PartSite) (points : List Point) → IsPointAt g kinds k heads followers s point →
      ArePoints g kinds k heads followers sites points → ArePoints g kinds k heads followers (s ∷ sites) (point ∷ points)
  are_more s point sites points first rest = record { all = ap suc rest.all; each = each }
    where
      each : (n : ℕ) (t : PartSite) (other : Point) → slice_get (s ∷ sites) n ≡ Some t → slice_get (point ∷ points) n ≡ Some other →
          IsPointAt g kinds k heads followers t other
      each zero t other at there = subst (λ p. IsPointAt g kinds k heads followers t p) (same_Some point other there) (subst (λ t. IsPointAt g kinds k heads followers t point) (same_Some s t at) first)
      each (suc n) t other at there = rest.each n t other at there

  are_both : (xs ys : List PartSite) (ps qs : List Point) → ArePoints g kinds k heads followers xs ps → ArePoints g kinds k heads followers ys qs →
      ArePoints g kinds k heads followers (xs ++ ys) (ps ++ qs)
  are_both [] ys [] qs one two = two
  are_both [] ys (p ∷ ps) qs one two = absurd (omega (arith, one.all))
  are_both (x ∷ xs) ys [] qs one two = absurd (omega (arith, one.all))
  are_both (x ∷ xs) ys (p ∷ ps) qs one two =
      are_more x p (xs ++ ys) (ps ++ qs) (one.each 0 x p refl refl) (are_both xs ys ps qs (record { all = less one.all; each = λ n s point at there. one.each (suc n) s point at there }) two)
    where
      less : suc (length ps) ≡ suc (length xs) → length ps ≡ length xs
      less same = omega arith

  -- ---- put one after the other

  pub puts_none : (sites : List PartSite) (old : List Point) → PutsPoints g kinds k heads followers sites sites old old
  puts_none sites old = record { front = []; parts = refl; points = []; are = are_none; grown = sym (append-nil old) }

  pub puts_one : (s : PartSite) (point : Point) (old new : List Point) → IsPointAt g kinds k heads followers s point → new ≡ old ++ point ∷ [] →
      PutsPoints g kinds k heads followers (s ∷ []) [] old new
  puts_one s point old new is grown = record { front = s ∷ []; parts = refl; points = point ∷ []; are = are_more s point [] [] is are_none; grown = grown }

  -- of sites that were left some are left
  puts_more : (sites xs more left : List PartSite) (old mid new : List Point) → PutsPoints g kinds k heads followers sites (xs ++ left) old mid →
      PutsPoints g kinds k heads followers xs more mid new → PutsPoints g kinds k heads followers sites (more ++ left) old new
  puts_more sites xs more left old mid new one two = record {
    front = one.front ++ two.front;
    parts = append_assoc one.front two.front (more ++ left) ∙ ap (λ ys. one.front ++ ys) (sym (append_assoc two.front more left) ∙ ap (λ ys. ys ++ left) two.parts) ∙ one.parts;
    points = one.points ++ two.points;
    are = are_both one.front two.front one.points two.points one.are two.are;
    grown = two.grown ∙ ap (λ ps. ps ++ two.points) one.grown ∙ append_assoc old one.points two.points;
  }

  pub puts_on : (sites xs left : List PartSite) (old mid new : List Point) → PutsPoints g kinds k heads followers sites (xs ++ left) old mid →
      PutsPoints g kinds k heads followers xs [] mid new → PutsPoints g kinds k heads followers sites left old new
  puts_on sites xs left old mid new one two = puts_more sites xs [] left old mid new one two

  pub fails_on : (sites xs left : List PartSite) (old mid new : List Point) (fault : PointsFault) → PutsPoints g kinds k heads followers sites (xs ++ left) old mid →
      GathersPoints g kinds k heads followers xs mid new (Err fault) → GathersPoints g kinds k heads followers sites old new (Err fault)
  fails_on sites xs left old mid new TooMany one (more, two, many) = (more ++ left, puts_more sites xs more left old mid new one two, many)
  fails_on sites xs left old mid new NoMemory one two = tt

  -- what is left was gathered
  pub gathers_on : (sites xs : List PartSite) (old mid new : List Point) (result : Result (Unit {0}) PointsFault) → PutsPoints g kinds k heads followers sites xs old mid →
      GathersPoints g kinds k heads followers xs mid new result → GathersPoints g kinds k heads followers sites old new result
  gathers_on sites xs old mid new (Ok u) one two = puts_on sites xs [] old mid new (subst (λ ys. PutsPoints g kinds k heads followers sites ys old mid) (sym (append-nil xs)) one) two
  gathers_on sites xs old mid new (Err fault) one two =
      fails_on sites xs [] old mid new fault (subst (λ ys. PutsPoints g kinds k heads followers sites ys old mid) (sym (append-nil xs)) one) two

  -- one point was put, or too many heads were found with it
  pub put_gathers : (s : PartSite) (point : Point) (old new : List Point) (result : Result (Unit {0}) PointsFault) → IsPointAt g kinds k heads followers s point →
      IsPutPoint point old new result → GathersPoints g kinds k heads followers (s ∷ []) old new result
  put_gathers s point old new (Ok u) is put = puts_one s point old new is put
  put_gathers s point old new (Err TooMany) is put = ([], puts_one s point old new is put.0, put.1)
  put_gathers s point old new (Err NoMemory) is put = tt

  -- no memory is told with nothing
  pub no_memory_gathers : (sites : List PartSite) (old new : List Point) (result : Result (Unit {0}) PointsFault) → IsErrAnd result (λ fault. fault ≡ NoMemory) →
      GathersPoints g kinds k heads followers sites old new result
  no_memory_gathers sites old new (Ok u) not = absurd not
  no_memory_gathers sites old new (Err fault) is = subst (λ fault. GathersPoints g kinds k heads followers sites old new (Err fault)) (sym is) tt

  -- ---- at the end

  pub all_points : (sites : List PartSite) (points : List Point) → PutsPoints g kinds k heads followers sites [] [] points →
      ArePoints g kinds k heads followers sites points
  all_points sites points puts =
      subst (λ ps. ArePoints g kinds k heads followers sites ps) (sym puts.grown)
      (subst (λ xs. ArePoints g kinds k heads followers xs puts.points) (sym (append-nil puts.front) ∙ puts.parts) puts.are)

  pub causes : (points : List Point) (fault : PointsFault) → GathersPoints g kinds k heads followers (choice_sites g) [] points (Err fault) →
      CausesNoPoints g kinds k heads followers fault
  causes points TooMany (left, puts, many) = (
    length puts.front,
    points,
    subst (λ ps. ArePoints g kinds k heads followers (take (length puts.front) (choice_sites g)) ps) (sym puts.grown)
        (subst (λ xs. ArePoints g kinds k heads followers xs puts.points)
        (sym (take-append_seam puts.front left) ∙ ap (take (length puts.front)) puts.parts) puts.are),
    many,
  )
  causes points NoMemory gathers = tt
