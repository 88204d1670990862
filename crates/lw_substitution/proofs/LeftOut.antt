-- Two lists of open brackets that differ in the innermost alone close to one node, where what differs is left out, or keep all their references.
use Rattle.std.proofs.Common.{◌≡◌, ◌⊎◌, inl, inr, ◌+◌, ℕ, List, [], ◌∷◌, Option, Some, refl, ◌∙◌, arith}
use Rattle.lw_base.specs.declared.token.Token.{Token}
use Rattle.lw_grammar.specs.declared.grammar.Grammar.{Grammar}
use Rattle.lw_grammar.specs.declared.rule.Op.{Op}
use Rattle.lw_grammar.specs.declared.rule.Value0.{Value0}
use Rattle.lw_reading.specs.Brackets.{Bracket, InNode, InValue, Root, Shuts, in_value, in_node, at_root}
use Rattle.lw_reading.specs.Follows.{Closes}
use Rattle.lw_reading.specs.Follows as f
use Rattle.lw_reading.specs.Grown.{Grown, Held, Takes}
use Rattle.lw_reading.specs.Trees.{points, points_of}
use Rattle.lw_reading.proofs.OneTree.{one_close}
use Rattle.lw_substitution.specs.Growth.{points_open}

pub data DifferOnTop : List Bracket → List Bracket → Type 0 where
  node : {type other at from : ℕ} {held kept : Held} {bs : List Bracket} → DifferOnTop (InNode type at held ∷ bs) (InNode other from kept ∷ bs)
  value : {p at : ℕ} {op : Op} {c : Value0} {x y : Grown} {bs : List Bracket} →
      DifferOnTop (InValue p op c at (Some x) ∷ bs) (InValue p op c at (Some y) ∷ bs)
  root : {x y : Grown} → DifferOnTop (Root x ∷ []) (Root y ∷ [])

shut_points : {ts : List Token} {bs after : List Bracket} → Shuts ts bs after → points_open after ≡ points_open bs
shut_points in_value = refl
shut_points in_node = omega arith
shut_points at_root = refl

shut_both : {ts : List Token} {bs cs after behind : List Bracket} → Shuts ts bs after → DifferOnTop bs cs → Shuts ts cs behind → DifferOnTop after behind
shut_both in_value node in_value = value
shut_both in_node node in_node = node
shut_both at_root node at_root = root

taken_points : (p : ℕ) (held : Held) (x : Grown) (bs : List Bracket) → points_open bs + points_of (Takes held p x) ≡ (points_open bs + points_of held) + points x
taken_points p held x bs = omega arith

no_value_shuts : {ts : List Token} {p at : ℕ} {op : Op} {c : Value0} {inside : Option Grown} {bs after : List Bracket} →
    Shuts ts (InValue p op c at inside ∷ bs) after → ⊥
no_value_shuts is = elim is [ ]

no_root_shuts : {ts : List Token} {x : Grown} {bs after : List Bracket} → Shuts ts (Root x ∷ bs) after → ⊥
no_root_shuts is = elim is [ ]

module _ (g : Grammar) (text : List ℕ) where
  -- one node twice, or all that stands in the brackets
  abbrev pub AreOneOrWhole : List Bracket → List Bracket → Grown → Grown → Type 0
  AreOneOrWhole bs cs x y = (x ≡ y) ⊎ ((points x ≡ points_open bs) × (points y ≡ points_open cs))

  whole_before : (bs cs after behind : List Bracket) {x y : Grown} → points_open after ≡ points_open bs → points_open behind ≡ points_open cs →
      AreOneOrWhole after behind x y → AreOneOrWhole bs cs x y
  whole_before bs cs after behind one other (inl same) = inl same
  whole_before bs cs after behind one other (inr whole) = inr (whole.0 ∙ one, whole.1 ∙ other)

  pub close_both : {ts : List Token} {bs cs : List Bracket} {x y : Grown} → DifferOnTop bs cs → Closes g text ts bs x → Closes g text ts cs y →
      AreOneOrWhole bs cs x y
  close_both root f.root f.root = inr (omega arith, omega arith)
  close_both root (f.shut is more) others = absurd (no_root_shuts is)
  close_both root f.root (f.shut was others) = absurd (no_root_shuts was)
  close_both node (f.shut {bs} {after} is more) (f.shut {bs = cs} {after = behind} was others) =
      whole_before bs cs after behind (shut_points is) (shut_points was) (close_both (shut_both is node was) more others)
  close_both value (f.shut is more) others = absurd (no_value_shuts is)
  close_both value (f.ended not change more) (f.shut was others) = absurd (no_value_shuts was)
  close_both value (f.left_out makes more) (f.shut was others) = absurd (no_value_shuts was)
  close_both (value {x} {y}) (f.ended not (f.ends {type} {from} {at} {p} {held} {op} {c} {bs} f.a_node) more) (f.ended too (f.ends f.a_node) others) =
      whole_before (InValue p op c at (Some x) ∷ InNode type from held ∷ bs) (InValue p op c at (Some y) ∷ InNode type from held ∷ bs)
      (InNode type from (Takes held p x) ∷ bs) (InNode type from (Takes held p y) ∷ bs) (taken_points p held x bs) (taken_points p held y bs)
      (close_both node more others)
  close_both value (f.left_out makes more) (f.left_out too others) = inl (one_close g text more others)
  close_both value (f.ended not change more) (f.left_out makes others) = absurd (not makes)
  close_both value (f.left_out makes more) (f.ended not change others) = absurd (not makes)
