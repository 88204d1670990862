-- The reference that tokens are read as stands at its place of the tree.
use Rattle.std.proofs.Common.{◌≡◌, ◌+◌, ◌<◌, ℕ, List, [], ◌∷◌, ◌++◌, Some, None, length, drop, slice_get, get_or, refl, sym, ap, subst, ◌∙◌, arith}
use Rattle.std.proofs.lemmas.List.{drop_at}
use Rattle.std.proofs.lemmas.Option.{slice_get-get_or}
use Rattle.lw_base.specs.declared.token.Span.{Span}
use Rattle.lw_base.specs.declared.token.Token.{Token}
use Rattle.lw_grammar.specs.declared.grammar.Grammar.{Grammar}
use Rattle.lw_reading.specs.Brackets.{Bracket, InNode, Root, span_of_tokens}
use Rattle.lw_reading.specs.Follows.{Closes, FollowsMarks, LooksUp, MakesReference, PutsValueIn}
use Rattle.lw_reading.specs.Follows as f
use Rattle.lw_reading.specs.Grown.{Grown, Held}
use Rattle.lw_reading.specs.Numbers.{IsNumberOfProperty}
use Rattle.lw_reading.specs.Trees.{IsOpenedTree, IsTree, points, points_of, refs}
use Rattle.lw_reading.proofs.OneTree.{one_follows}
use Rattle.lw_grammar.specs.Marks.{Mark}
use Rattle.lw_tokens.specs.Cut.{kinds}
use Rattle.lw_tree.specs.declared.node.Reference.{Reference}
use Rattle.lw_tree.specs.Parts.{Parts}
use Rattle.lw_places.specs.Starting.{ReferenceNext, marks_with}
use Rattle.lw_substitution.specs.Growth.{points_open}
use Rattle.lw_substitution.specs.Places.{IsReferencePlace, IsReferenceFrom}
use Rattle.lw_substitution.proofs.AtPlace.{HasThere, held_before, open_before, go_there, close_there, reference_there}
use Rattle.lw_substitution.proofs.Counting.{count_refs}
use Rattle.lw_substitution.proofs.Going.{as_going, followed, kinds_read, split}
use Rattle.lw_substitution.proofs.OneReference.{ReadsReference, reads, reads_reference, no_plain_reference, kinds_to_end}

module _ (g : Grammar) (text : List ℕ) (next : ReferenceNext) (makes : MakesReference next.op next.value) (front mid : List Token) where
  -- a reference of these parts, whichever node it stands in
  abbrev Says : ℕ → ℕ → List ℕ → Span → Type 0
  Says p want name s =
      IsReferenceFrom g text next mid (record { owner = record { 0 = 0 }; prop = record { 0 = p }; want = record { 0 = want }; name = name; span = s })

  of_owner : (r : Reference) → Says r.prop.0 r.want.0 r.name r.span → IsReferenceFrom g text next mid r
  of_owner r is = record {
    prop = is.prop;
    wanted = is.wanted;
    rule = is.rule;
    refers = is.refers;
    want = is.want;
    means = is.means;
    span = is.span;
  }

  read_since : drop (length front) (front ++ mid) ≡ mid
  read_since = drop_at front mid (length front) refl

  module _ (place : ℕ) where
    put_says : {n : ℕ} {held after : Held} (type from : ℕ) (bs : List Bracket) → place ≡ points_open bs + points_of held → IsNumberOfProperty g next.prop n →
        PutsValueIn g text next.op next.value (drop (length front) (front ++ mid)) None held n after → HasThere place Says (InNode type from after ∷ bs)
    put_says {held} type from bs here number (f.a_reference {wanted} {name} {looked} not by wants looks) = (
      omega (arith, here),
      (
        (
          held_before place Says (points_open bs) held (omega (arith, here)),
          λ at. record {
            prop = number;
            wanted = wanted;
            rule = name;
            refers = by;
            want = wants;
            means = subst (λ (ts : List Token). LooksUp g text name ts looked) read_since looks;
            span = ap span_of_tokens read_since;
          },
        ),
        open_before place Says bs (omega (arith, here)),
      ),
    )
    put_says type from bs here number (f.plain v) = absurd (no_plain_reference g text makes v)

    module _ (is_place : IsReferencePlace g text next front place) where
      reads_there : {stack : List Bracket} → ReadsReference g text next.before next.prop next.op next.value front mid stack → HasThere place Says stack
      reads_there (reads {type} {from} {bs} follows number does) =
          put_says type from bs (sym is_place.counted ∙ ap points_open (one_follows g text is_place.follows follows refl refl)) number does

      follows_there : (after : List Mark) (rest : List Token) (bs : List Bracket) → FollowsMarks g text (marks_with next (kinds mid) ++ after) (front ++ mid ++ rest) bs →
          HasThere place Says bs
      follows_there after rest bs follows =
          let reads_front = kinds_read g text (as_going g text is_place.follows) in
          let (stack, first, behind) = split g text (marks_with next (kinds mid)) (front ++ mid)
          (kinds_to_end next.before next.prop next.op next.value front mid reads_front) (as_going g text follows) in
          go_there place Says g text behind
          (reads_there (reads_reference g text next.before next.prop next.op next.value front mid stack reads_front (followed g text f.nothing first)))

      got : (x : Grown) → place < points x → (r : Reference) × (slice_get (refs 0 x) place ≡ Some r)
      got x inside = by (refs 0 x) (omega (arith, inside, count_refs 0 x))
        where
          by : (rs : List Reference) → place < length rs → (r : Reference) × (slice_get rs place ≡ Some r)
          by [] low = absurd (omega (arith, low))
          by (r ∷ rs) low = (get_or (r ∷ rs) place r, slice_get-get_or (r ∷ rs) place r low)

      module _ (after : List Mark) (rest tokens : List Token) (tree : Parts) where
        pub stands_whole : IsTree g text (marks_with next (kinds mid) ++ after) (front ++ mid ++ rest) tokens tree →
            (r : Reference) × (slice_get tree.refs place ≡ Some r) × IsReferenceFrom g text next mid r
        stands_whole is =
            let has = follows_there after rest (Root is.grown ∷ []) is.follows in
            let (r, at) = got is.grown (omega (arith, has.0)) in
            (r, ap (λ (rs : List Reference). slice_get rs place) is.parts.refs ∙ at, of_owner r (reference_there place Says is.grown has.1.0 r at))

        pub stands_begun : (r : Reference) → IsOpenedTree g text (marks_with next (kinds mid) ++ after) (front ++ mid ++ rest) tokens tree →
            slice_get tree.refs place ≡ Some r → IsReferenceFrom g text next mid r
        stands_begun r is at =
            let has = follows_there after rest is.brackets is.follows in
            of_owner r
            (reference_there place Says is.grown (close_there place Says g text is.closes has.1) r (ap (λ (rs : List Reference). slice_get rs place) (sym is.parts.refs) ∙ at))
