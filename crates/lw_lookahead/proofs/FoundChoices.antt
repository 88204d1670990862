-- The choices that are found with the heads of their ways: their windows, how many they have, and why they are too many.
use Rattle.std.proofs.Common.{◌≡◌, ℕ, ◌≤◌, List, zero, suc, [], ◌∷◌, Some, All, Result, Ok, Err, IsErrAnd, IfErr, take, get_or, slice_get, sym, subst, arith}
use Rattle.std.proofs.lemmas.Option.{slice_get-get_or, slice_get_within}
use Rattle.lw_grammar.specs.declared.grammar.Grammar.{Grammar}
use Rattle.lw_grammar.specs.Kinds.{Kinds}
use Rattle.lw_grammar.specs.Size.{size}
use Rattle.lw_look.specs.Choices.{choice_sites}
use Rattle.lw_look.specs.Heads.{AreClosedAfters, AreClosedHeads, AreTrueAfters, AreTrueHeads}
use Rattle.lw_look.specs.Sites.{PartSite}
use Rattle.lw_look.specs.Strings.{HasMoreStrings}
use Rattle.lw_look.proofs.ChoiceSites.{all_listed, listed_once}
use Rattle.lw_first.specs.declared.heads.head.Head.{Head}
use Rattle.lw_first.specs.Sets.{IsInSet}
use Rattle.lw_lookahead.specs.declared.points.point.Point.{Point}
use Rattle.lw_lookahead.specs.declared.points.point.PointsFault.{PointsFault}
use Rattle.lw_lookahead.specs.declared.points.point.PointsFault.TheVariants as points
use Rattle.lw_lookahead.specs.declared.points.point.TheConstants.{MOST_STRINGS}
use Rattle.lw_lookahead.specs.Points.{ArePoints, CausesNoPoints, strings_in}
use Rattle.lw_lookahead.specs.declared.fault.LookFault.{LookFault}
use Rattle.lw_lookahead.specs.Faults.{look_fault}
use Rattle.lw_lookahead.specs.Seen.{AreSeen, CausesNoChoices, IsSeenAt}
use Rattle.lw_lookahead.specs.Shared.{AreFewHeads}
use Rattle.lw_lookahead.proofs.Counting.{item_of, more_strings, no_more_strings}
use Rattle.lw_lookahead.proofs.PointWindows.{few_heads, seen_at}

module _ (g : Grammar) (kinds : Kinds) (k : ℕ) (heads followers : List (List Head)) (true_heads : AreTrueHeads g kinds k (IsInSet heads))
    (true_afters : AreTrueAfters g kinds k (IsInSet heads) (IsInSet followers)) (small : size g ≤ 65535) where
  few_at : (sites : List PartSite) (points : List Point) → ArePoints g kinds k heads followers sites points → (n : ℕ) (point : Point) → slice_get points n ≡ Some point →
      AreFewHeads k point
  few_at sites points are n point at =
      let (s, there) = item_of sites n (omega (arith, are.all, slice_get_within points n point at)) in
      few_heads g kinds k heads followers s point (are.each n s point there at) true_heads true_afters small

  pub choices_few : (points : List Point) → ArePoints g kinds k heads followers (choice_sites g) points → All (AreFewHeads k) points
  choices_few points are n d inside = few_at (choice_sites g) points are n (get_or points n d) (slice_get-get_or points n d inside)

  module _ (closed : AreClosedHeads g kinds k (IsInSet heads)) (closed_afters : AreClosedAfters g kinds k (IsInSet heads) (IsInSet followers)) where
    each_seen : (sites : List PartSite) (points : List Point) → ArePoints g kinds k heads followers sites points → (n : ℕ) (s : PartSite) (point : Point) →
        slice_get sites n ≡ Some s → slice_get points n ≡ Some point → IsSeenAt g kinds k s point
    each_seen sites points are n s point there at =
        seen_at g kinds k heads followers s point (are.each n s point there at) true_heads true_afters closed closed_afters

    pub choices_seen : (points : List Point) → ArePoints g kinds k heads followers (choice_sites g) points → AreSeen g kinds k points
    choices_seen points are = record { all = are.all; each = each_seen (choice_sites g) points are }

    pub strings_few : (points : List Point) → ArePoints g kinds k heads followers (choice_sites g) points → strings_in points ≤ MOST_STRINGS → ¬ HasMoreStrings g kinds k MOST_STRINGS
    strings_few points are few = no_more_strings g kinds k (λ s is. all_listed g s is) points are.all (each_seen (choice_sites g) points are) MOST_STRINGS few

    -- those in front of some place are at their own numbers
    front : {A : Type 0} (xs : List A) (n i : ℕ) (x : A) → slice_get (take n xs) i ≡ Some x → slice_get xs i ≡ Some x
    front xs zero i x at = cc
    front [] (suc n) i x at = at
    front (y ∷ xs) (suc n) zero x at = at
    front (y ∷ xs) (suc n) (suc i) x at = front xs n i x at

    pub fault_causes : (f : PointsFault) → CausesNoPoints g kinds k heads followers f → CausesNoChoices g kinds k (look_fault f)
    fault_causes points.NoMemory causes = tt
    fault_causes points.TooMany (n, found, are, many) =
        let sites = take n (choice_sites g) in
        more_strings g kinds k sites found
        (λ i j s at also. listed_once g i j s (front (choice_sites g) n i s at) (front (choice_sites g) n j s also)) are.all (each_seen sites found are)
        (λ m i point own at there.
        let (s, site) = item_of sites m (omega (arith, are.all, slice_get_within found m point at)) in (are.each m s point site at).distinct i own there)
        (λ m point at. (few_at sites found are m point at).short) MOST_STRINGS many

pub err_causes : {T : Type 0} (r : Result T LookFault) (f : LookFault) (P : LookFault → Type 0) → IsErrAnd r (λ look. look ≡ f) → P f → IfErr r P
err_causes (Ok x) f P is p = tt
err_causes (Err e) f P is p = subst P (sym is) p
