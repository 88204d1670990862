-- The place of a reference is the number of those before it.
use Rattle.std.proofs.Common.{◌≡◌, ◌⊎◌, inl, inr, ℕ, List, [], ◌∷◌, ◌++◌, Some, length, slice_get, refl, sym, ap, subst, ◌∙◌, arith}
use Rattle.std.proofs.lemmas.List.{append-nil}
use Rattle.std.proofs.lemmas.Option.{slice_get_within}
use Rattle.lw_base.specs.declared.token.Token.{Token}
use Rattle.lw_grammar.specs.declared.grammar.Grammar.{Grammar}
use Rattle.lw_grammar.specs.declared.rule.Op.{Op}
use Rattle.lw_grammar.specs.declared.rule.Value0.{Value0}
use Rattle.lw_grammar.specs.Kinds.{Kinds}
use Rattle.lw_reading.specs.Brackets.{Bracket, InNode}
use Rattle.lw_reading.specs.Follows.{Closes, FollowsMarks}
use Rattle.lw_reading.specs.Grown.{Grown}
use Rattle.lw_reading.specs.Trees.{points, refs}
use Rattle.lw_reading.proofs.OneTree.{one_follows}
use Rattle.lw_grammar.specs.Marks.{Mark}
use Rattle.lw_reading.specs.Growing.{ReadMarks}
use Rattle.lw_tokens.specs.Cut.{kinds, visible}
use Rattle.lw_tree.specs.declared.node.Reference.{Reference}
use Rattle.lw_tree.specs.Parts.{Parts}
use Rattle.lw_places.specs.Starting.{IsFrontTree, ReferenceNext, marks_with}
use Rattle.lw_substitution.specs.Growth.{points_open}
use Rattle.lw_substitution.specs.Places.{IsReferencePlace}
use Rattle.lw_substitution.specs.Tokens.{AreSameTokens}
use Rattle.lw_substitution.proofs.Counting.{count_refs, same_points_open}
use Rattle.lw_substitution.proofs.Going.{as_going, kinds_read}
use Rattle.lw_substitution.proofs.LeftOut.{AreOneOrWhole, close_both}
use Rattle.lw_substitution.proofs.LeftOut as left
use Rattle.lw_substitution.proofs.OneReference.{ReadsReference, reads, reads_reference, end_of_reference, start_of}
use Rattle.lw_substitution.proofs.Stepping.{follow_alike}

module _ (g : Grammar) (text : List ℕ) where
  -- with or without the reference the same is left, or nothing is left out
  one_or_whole : {before : List Mark} {p : List ℕ} {op : Op} {c : Value0} {front mid : List Token} {stack bs : List Bracket} {ts : List Token} {x y : Grown} →
      ReadsReference g text before p op c front mid stack → FollowsMarks g text before front bs → Closes g text ts bs x → Closes g text ts stack y →
      (x ≡ y) ⊎ (points x ≡ points_open bs)
  one_or_whole {ts} {x} (reads follows number put) was closes closed =
      let same = one_follows g text was follows refl refl in
      elim (close_both g text left.node (subst (λ (bs : List Bracket). Closes g text ts bs x) same closes) closed) [
        | inl one ↦ inl one
        | inr whole ↦ inr (whole.0 ∙ ap points_open (sym same))
      ]

  more_inside : (x y : Grown) (before behind : List Reference) (r : Reference) → before ≡ refs 0 x → behind ≡ refs 0 y →
      slice_get behind (length before) ≡ Some r → x ≡ y → ⊥
  more_inside x y before behind r is was at same =
      omega (arith, slice_get_within behind (length before) r at, ap length is, ap length was, ap (λ (z : Grown). length (refs 0 z)) same)

  pub front_counts : (of : Kinds) (tokens : List Token) (next : ReferenceNext) (tree : Parts) (r : Reference) → IsFrontTree g of text tokens next tree r →
      IsReferencePlace g text next (visible tokens) (length tree.refs)
  front_counts of tokens next tree r is =
      let x = is.opened in
      let y = is.opened_behind in
      let follows : FollowsMarks g text (marks_with next []) (visible tokens ++ []) y.brackets =
      subst (λ (ts : List Token). FollowsMarks g text (marks_with next []) ts y.brackets) (sym (append-nil (visible tokens))) y.follows in
      let read = reads_reference g text next.before next.prop next.op next.value (visible tokens) [] y.brackets (kinds_read g text (as_going g text x.follows)) follows in
      record {
        brackets = x.brackets;
        follows = x.follows;
        counted = elim (one_or_whole read x.follows x.closes y.closes) [
          | inl one ↦ absurd (more_inside x.grown y.grown tree.refs is.behind.refs r x.parts.refs y.parts.refs is.reference one)
          | inr whole ↦ sym whole ∙ sym (count_refs 0 x.grown) ∙ sym (ap length x.parts.refs)
        ];
      }

pub place_moves : (g : Grammar) (text other : List ℕ) (next : ReferenceNext) (front fore : List Token) (place : ℕ) → AreSameTokens text other front fore →
    IsReferencePlace g text next front place → IsReferencePlace g other next fore place
place_moves g text other next front fore place same is =
    let (cs, follows, like) = follow_alike text other place g is.follows fore same in
    record { brackets = cs; follows = follows; counted = sym (same_points_open place text other front fore like) ∙ is.counted }

pub place_there : (g : Grammar) (text : List ℕ) (next : ReferenceNext) (after : List Mark) (front mid rest : List Token) (bs : List Bracket) →
    ReadMarks front next.before → FollowsMarks g text (marks_with next (kinds mid) ++ after) (front ++ mid ++ rest) bs →
    (place : ℕ) × IsReferencePlace g text next front place
place_there g text next after front mid rest bs reads_front follows =
    let (stack, first) = end_of_reference g text next.before next.prop next.op next.value front mid reads_front after rest bs follows in
    let (type, from, held, below, start) = start_of g text next.before next.prop next.op next.value front mid reads_front stack first in
    (points_open (InNode type from held ∷ below), record { brackets = InNode type from held ∷ below; follows = start; counted = refl })

pub one_place : (g : Grammar) (text : List ℕ) (next : ReferenceNext) (front : List Token) (place other : ℕ) → IsReferencePlace g text next front place →
    IsReferencePlace g text next front other → place ≡ other
one_place g text next front place other is was = sym is.counted ∙ ap points_open (one_follows g text is.follows was.follows refl refl) ∙ was.counted
