-- Texts in which a name is written between what stands before and behind it: their tokens.
use Rattle.std.proofs.Common.{◌≡◌, ◌+◌, ◌-◌, ◌≤◌, ℕ, Bool, true, false, List, [], ◌∷◌, ◌++◌, cond, not, map, length, take, drop, slice_range, refl, sym, ap, subst, ◌∙◌, arith}
use Rattle.std.proofs.lemmas.List.{append-nil, append_assoc, drop_at, drop-drop, drop-append-le, take-append-le, length-drop}
use Rattle.lw_base.specs.declared.token.Token.{Token}
use Rattle.lw_grammar.specs.declared.grammar.Grammar.{Grammar}
use Rattle.lw_reading.specs.Follows.{MakesReference}
use Rattle.lw_places.specs.Starting.{ReferenceNext, moved_by}
use Rattle.lw_reading.specs.Within.{IsInText, StandInRow}
use Rattle.lw_reading.specs.Within as within
use Rattle.lw_tokens.specs.Cut.{visible}
use Rattle.lw_substitution.specs.Places.{DifferInReference, IsReferencePlace}
use Rattle.lw_substitution.specs.Tokens.{IsSameToken, AreSameTokens}
use Rattle.lw_substitution.proofs.Placed.{place_moves}

-- ---- what stands in a front, and what stands behind one

slice_in_front : (front rest : List ℕ) (start end : ℕ) → start ≤ end → end ≤ length front → slice_range (front ++ rest) start end ≡ slice_range front start end
slice_in_front front rest start end low inside =
    ap (λ (bytes : List ℕ). take (end - start) bytes) (drop-append-le start front rest (omega (arith, low, inside)))
    ∙ take-append-le (end - start) (drop start front) rest (omega (arith, low, inside, length-drop start front))

slice_behind : (front rest : List ℕ) (start end : ℕ) → slice_range (front ++ rest) (length front + start) (length front + end) ≡ slice_range rest start end
slice_behind front rest start end =
    let same : (length front + end) - (length front + start) ≡ end - start = omega arith in
    ap (λ (n : ℕ). take n (drop (length front + start) (front ++ rest))) same
    ∙ ap (λ (bytes : List ℕ). take (end - start) bytes)
    (sym (drop-drop start (length front) (front ++ rest)) ∙ ap (λ (bytes : List ℕ). drop start bytes) (drop_at front rest (length front) refl))

pub front_kept : (front one other : List ℕ) {from : ℕ} (ts : List Token) → StandInRow front from ts → AreSameTokens (front ++ one) (front ++ other) ts ts
front_kept front one other [] within.none = tt
front_kept front one other (t ∷ ts) (within.more after inside row) = (
  record {
    kind = refl;
    bytes = slice_in_front front one t.span.start t.span.end inside.0 inside.1 ∙ sym (slice_in_front front other t.span.start t.span.end inside.0 inside.1);
  },
  front_kept front one other ts row,
)

module _ (text other : List ℕ) where
  both_visible : (hidden : Bool) (t u : Token) (ts us : List Token) → IsSameToken text other t u → AreSameTokens text other ts us →
      AreSameTokens text other (cond (not hidden) (t ∷ ts) ts) (cond (not hidden) (u ∷ us) us)
  both_visible true t u ts us same all = all
  both_visible false t u ts us same all = (same, all)

pub rest_moved : (one other rest : List ℕ) (ts : List Token) →
    AreSameTokens (one ++ rest) (other ++ rest) (visible (map (moved_by (length one)) ts)) (visible (map (moved_by (length other)) ts))
rest_moved one other rest [] = tt
rest_moved one other rest (t ∷ ts) =
    both_visible (one ++ rest) (other ++ rest) t.hidden (moved_by (length one) t) (moved_by (length other) t)
    (visible (map (moved_by (length one)) ts)) (visible (map (moved_by (length other)) ts))
    (record {
      kind = refl;
      bytes = slice_behind one rest t.span.start t.span.end ∙ sym (slice_behind other rest t.span.start t.span.end);
    })
    (rest_moved one other rest ts)

-- ---- the two texts

module _ (g : Grammar) (next : ReferenceNext) (makes : MakesReference next.op next.value) (front rest : List ℕ) (tokens others : List Token) (place : ℕ)
    (row : StandInRow front 0 (visible tokens)) (is : IsReferencePlace g front next (visible tokens) place) where
  -- either begins with the front
  differ_written : (one other x y : List ℕ) → one ≡ front ++ x → other ≡ front ++ y →
      DifferInReference g (one ++ rest) (other ++ rest) next place (visible tokens) (visible tokens) (visible (map (moved_by (length one)) others))
      (visible (map (moved_by (length other)) others))
  differ_written one other x y begins ends = record {
    makes = makes;
    place_of =
        place_moves g front (one ++ rest) next (visible tokens) (visible tokens) place
        (subst (λ (text : List ℕ). AreSameTokens text (one ++ rest) (visible tokens) (visible tokens)) (append-nil front)
        (subst (λ (text : List ℕ). AreSameTokens (front ++ []) text (visible tokens) (visible tokens)) (sym (begun one x begins))
        (front_kept front [] (x ++ rest) (visible tokens) row)))
        is;
    same_front =
        subst (λ (text : List ℕ). AreSameTokens text (other ++ rest) (visible tokens) (visible tokens)) (sym (begun one x begins))
        (subst (λ (text : List ℕ). AreSameTokens (front ++ (x ++ rest)) text (visible tokens) (visible tokens)) (sym (begun other y ends))
        (front_kept front (x ++ rest) (y ++ rest) (visible tokens) row));
    same_rest = rest_moved one other rest others;
  }
    where
      begun : (text z : List ℕ) → text ≡ front ++ z → text ++ rest ≡ front ++ (z ++ rest)
      begun text z same = ap (λ (bytes : List ℕ). bytes ++ rest) same ∙ append_assoc front z rest

  pub name_for_blank : (name : List ℕ) →
      DifferInReference g (front ++ rest) (front ++ name ++ rest) next place (visible tokens) (visible tokens) (visible (map (moved_by (length front)) others))
      (visible (map (moved_by (length (front ++ name))) others))
  name_for_blank name = differ_written front (front ++ name) [] name (sym (append-nil front)) refl

  pub name_for_name : (name other : List ℕ) →
      DifferInReference g (front ++ name ++ rest) (front ++ other ++ rest) next place (visible tokens) (visible tokens)
      (visible (map (moved_by (length (front ++ name))) others)) (visible (map (moved_by (length (front ++ other))) others))
  name_for_name name other = differ_written (front ++ name) (front ++ other) name other refl refl
