-- Two texts that differ in a reference: their trees.
use Rattle.std.proofs.Common.{◌≡◌, ℕ, codes, List, [], ◌∷◌, ◌++◌, Option, Some, None, refl, sym, ap, subst}
use Rattle.lw_base.specs.declared.numbers.PropId.{PropId}
use Rattle.lw_base.specs.declared.token.Token.{Token}
use Rattle.lw_grammar.specs.declared.grammar.Grammar.{Grammar}
use Rattle.lw_reading.specs.Brackets.{Bracket, Root}
use Rattle.lw_reading.specs.Follows.{Closes, FollowsMarks}
use Rattle.lw_reading.specs.Grown.{Grown}
use Rattle.lw_reading.specs.Numbers.{IsNamingProperty}
use Rattle.lw_reading.specs.Trees.{IsOpenedTree, IsTree, parts_of_tree}
use Rattle.lw_reading.proofs.OneTree.{one_follows, one_close}
use Rattle.lw_reading.proofs.OneValue.{one_number_of_property}
use Rattle.lw_grammar.specs.Marks.{Mark}
use Rattle.lw_tokens.specs.Cut.{kinds}
use Rattle.lw_tree.specs.Parts.{Parts, SameTables}
use Rattle.lw_places.specs.Starting.{ReferenceNext, marks_with}
use Rattle.lw_substitution.specs.Growth.{AreAlikeGrown, AreAlikeOpen, StandInNodes}
use Rattle.lw_substitution.specs.Growth as alike
use Rattle.lw_substitution.specs.OneName.{AreAlikeTrees}
use Rattle.lw_substitution.specs.Places.{DifferInReference, LeadsToRoot}
use Rattle.lw_substitution.proofs.OneReference.{follow_other}
use Rattle.lw_substitution.proofs.Closing.{close_alike, stand_before_root}
use Rattle.lw_substitution.proofs.Tabled.{trees_alike}

root_alike : {text other : List ℕ} {place : ℕ} {ts us : List Token} {x : Grown} {cs : List Bracket} → AreAlikeOpen text other place ts us (Root x ∷ []) cs →
    (y : Grown) × (cs ≡ Root y ∷ []) × AreAlikeGrown place 0 x y
root_alike (alike.root {y} is (alike.bare alike.none)) = (y, refl, is)

same_root : {x y : Grown} → ◌≡◌ {A = List Bracket} (Root x ∷ []) (Root y ∷ []) → x ≡ y
same_root e = cc

one_naming : (g : Grammar) (a b : Option PropId) → IsNamingProperty g a → IsNamingProperty g b → a ≡ b
one_naming g None None is was = refl
one_naming g None (Some q) is was = absurd (is q.0 was)
one_naming g (Some p) None is was = absurd (was p.0 is)
one_naming g (Some p) (Some q) is was = ap (λ (n : ℕ). Some (record { 0 = n })) (one_number_of_property g (codes "name") p.0 q.0 is was)

pub tables_of : (x : Grown) (tokens : List Token) (name : Option PropId) → SameTables (parts_of_tree x tokens name) (parts_of_tree x tokens name)
tables_of x tokens name = record { nodes = refl; values = λ n p. refl; refs = refl; tokens = refl; name = refl }

module _ (g : Grammar) (text other : List ℕ) (next : ReferenceNext) (place : ℕ) (front fore rest others : List Token)
    (differ : DifferInReference g text other next place front fore rest others) (mid name : List Token) (after : List Mark) where
  pub follows_other : (bs : List Bracket) → FollowsMarks g text (marks_with next (kinds mid) ++ after) (front ++ mid ++ rest) bs →
      (cs : List Bracket) × FollowsMarks g other (marks_with next (kinds name) ++ after) (fore ++ name ++ others) cs
      × AreAlikeOpen text other place (front ++ mid ++ rest) (fore ++ name ++ others) bs cs
  follows_other bs follows =
      follow_other text other place g next.before next.prop next.op next.value differ.makes front fore mid name differ.place_of.brackets
      differ.place_of.follows (sym differ.place_of.counted) differ.same_front after rest others bs differ.same_rest follows

  pub roots_other : (x : Grown) → FollowsMarks g text (marks_with next (kinds mid) ++ after) (front ++ mid ++ rest) (Root x ∷ []) →
      (y : Grown) × FollowsMarks g other (marks_with next (kinds name) ++ after) (fore ++ name ++ others) (Root y ∷ []) × AreAlikeGrown place 0 x y
  roots_other x follows =
      let (cs, too, like) = follows_other (Root x ∷ []) follows in
      let (y, same, is) = root_alike like in
      (y, subst (λ (cs : List Bracket). FollowsMarks g other (marks_with next (kinds name) ++ after) (fore ++ name ++ others) cs) same too, is)

  pub closes_other : LeadsToRoot g text (marks_with next (kinds mid) ++ after) (front ++ mid ++ rest) → (bs : List Bracket) (x : Grown) →
      FollowsMarks g text (marks_with next (kinds mid) ++ after) (front ++ mid ++ rest) bs → Closes g text (front ++ mid ++ rest) bs x →
      (cs : List Bracket) × (y : Grown) × FollowsMarks g other (marks_with next (kinds name) ++ after) (fore ++ name ++ others) cs
      × Closes g other (fore ++ name ++ others) cs y × AreAlikeGrown place 0 x y
  closes_other (more, beyond, (root, whole)) bs x follows closes =
      let (cs, too, like) = follows_other bs follows in
      let stand = stand_before_root g text (marks_with next (kinds mid) ++ after) more (front ++ mid ++ rest) beyond root bs whole follows in
      let (y, closed, is) = close_alike text other place (front ++ mid ++ rest) (fore ++ name ++ others) g closes stand like in
      (cs, y, too, closed, is)

  module _ (tokens behind : List Token) (tree : Parts) where
    pub tree_too : IsTree g text (marks_with next (kinds mid) ++ after) (front ++ mid ++ rest) tokens tree →
        (too : Parts) × IsTree g other (marks_with next (kinds name) ++ after) (fore ++ name ++ others) behind too
    tree_too is =
        let (y, follows, like) = roots_other is.grown is.follows in (
          parts_of_tree y behind tree.name,
          record { grown = y; follows = follows; named = is.named; parts = tables_of y behind tree.name },
        )

    pub opened_too : LeadsToRoot g text (marks_with next (kinds mid) ++ after) (front ++ mid ++ rest) →
        IsOpenedTree g text (marks_with next (kinds mid) ++ after) (front ++ mid ++ rest) tokens tree →
        (too : Parts) × IsOpenedTree g other (marks_with next (kinds name) ++ after) (fore ++ name ++ others) behind too
    opened_too leads is =
        let (cs, y, follows, closes, like) = closes_other leads is.brackets is.grown is.follows is.closes in (
          parts_of_tree y behind tree.name,
          record { brackets = cs; grown = y; follows = follows; closes = closes; named = is.named; parts = tables_of y behind tree.name },
        )

    module _ (too : Parts) where
      pub tree_alike : IsTree g text (marks_with next (kinds mid) ++ after) (front ++ mid ++ rest) tokens tree →
          IsTree g other (marks_with next (kinds name) ++ after) (fore ++ name ++ others) behind too → AreAlikeTrees place tree too
      tree_alike is was =
          let (y, follows, like) = roots_other is.grown is.follows in
          let same : y ≡ was.grown = same_root (one_follows g other follows was.follows refl refl) in
          trees_alike place is.grown was.grown (subst (λ (z : Grown). AreAlikeGrown place 0 is.grown z) same like) tokens behind tree too
          (one_naming g tree.name too.name is.named was.named) is.parts was.parts

      pub opened_alike : LeadsToRoot g text (marks_with next (kinds mid) ++ after) (front ++ mid ++ rest) →
          IsOpenedTree g text (marks_with next (kinds mid) ++ after) (front ++ mid ++ rest) tokens tree →
          IsOpenedTree g other (marks_with next (kinds name) ++ after) (fore ++ name ++ others) behind too → AreAlikeTrees place tree too
      opened_alike leads is was =
          let (cs, y, follows, closes, like) = closes_other leads is.brackets is.grown is.follows is.closes in
          let opened : cs ≡ was.brackets = one_follows g other follows was.follows refl refl in
          let same : y ≡ was.grown = one_close g other (subst (λ (bs : List Bracket). Closes g other (fore ++ name ++ others) bs y) opened closes) was.closes in
          trees_alike place is.grown was.grown (subst (λ (z : Grown). AreAlikeGrown place 0 is.grown z) same like) tokens behind tree too
          (one_naming g tree.name too.name is.named was.named) is.parts was.parts
