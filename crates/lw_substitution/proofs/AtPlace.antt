-- What is true of the reference that is counted as one number is true of the one at that place of the tree.
use Rattle.std.proofs.Common.{◌≡◌, ◌+◌, ◌<◌, ◌≤◌, ℕ, zero, suc, List, [], ◌∷◌, ◌++◌, Option, Some, None, IfSome, length, slice_get, refl, subst, arith}
use Rattle.std.proofs.lemmas.Option.{none-some, same_Some}
use Rattle.lw_base.specs.declared.token.Span.{Span}
use Rattle.lw_base.specs.declared.token.Token.{Token}
use Rattle.lw_grammar.specs.declared.grammar.Grammar.{Grammar}
use Rattle.lw_grammar.specs.declared.rule.Op.{Op}
use Rattle.lw_grammar.specs.declared.rule.Value0.{Value0}
use Rattle.lw_grammar.specs.Marks.{Mark}
use Rattle.lw_reading.specs.Brackets.{Bracket, InNode, InValue, Root, Shuts, in_value, in_node, at_root}
use Rattle.lw_reading.specs.Follows.{IsCross, MakesReference, RefersBy, PutsValueIn, ChangesOpen, Closes}
use Rattle.lw_reading.specs.Follows as f
use Rattle.lw_reading.specs.Grown.{Grown, Grow, Held, Nothing, Puts, Takes, Points, size_of}
use Rattle.lw_reading.specs.Trees.{points, points_of, refs, refs_of}
use Rattle.lw_tree.specs.declared.node.Reference.{Reference}
use Rattle.lw_substitution.specs.Growth.{points_open}
use Rattle.lw_substitution.proofs.Counting.{count_refs_of}
use Rattle.lw_substitution.proofs.Going.{Goes}
use Rattle.lw_substitution.proofs.Going as going

pub by_cross : {g : Grammar} {c : Value0} {wanted name : List ℕ} → RefersBy g c wanted name → IsCross c
by_cross {wanted} {name} (f.written {s} is) = (wanted, Some name, s, is)
by_cross {wanted} (f.by_type {s} is names) = (wanted, None, s, is)

module _ (place : ℕ) (Q : ℕ → ℕ → List ℕ → Span → Type 0) where
  -- Q is true of the reference at the place, its property, wanted type, name and span, where it stands here; they are counted from the number given
  abbrev mutual
    pub GrownHasThere : ℕ → Grown → Type 0
    GrownHasThere from (Grow type s held) = HeldHasThere from held

    pub HeldHasThere : ℕ → Held → Type 0
    HeldHasThere from Nothing = Unit {0}
    HeldHasThere from (Puts held p v) = HeldHasThere from held
    HeldHasThere from (Takes held p x) = HeldHasThere from held × GrownHasThere (from + points_of held) x
    HeldHasThere from (Points held p want name s) = HeldHasThere from held × (from + points_of held ≡ place → Q p want name s)

  abbrev pub BracketHasThere : ℕ → Bracket → Type 0
  BracketHasThere from (InNode type at held) = HeldHasThere from held
  BracketHasThere from (InValue p op c at inside) = IfSome inside (GrownHasThere from)
  BracketHasThere from (Root x) = GrownHasThere from x

  abbrev pub OpenHasThere : List Bracket → Type 0
  OpenHasThere [] = Unit {0}
  OpenHasThere (b ∷ bs) = BracketHasThere (points_open bs) b × OpenHasThere bs

  -- ---- before the place

  mutual
    grown_before : (from : ℕ) (x : Grown) → from + points x ≤ place → GrownHasThere from x
    grown_before from (Grow type s held) few = held_before from held few

    pub held_before : (from : ℕ) (held : Held) → from + points_of held ≤ place → HeldHasThere from held
    held_before from Nothing few = tt
    held_before from (Puts held p v) few = held_before from held few
    held_before from (Takes held p x) few = (held_before from held (omega (arith, few)), grown_before (from + points_of held) x (omega (arith, few)))
    held_before from (Points held p want name s) few = (held_before from held (omega (arith, few)), λ at. absurd (omega (arith, few, at)))

  pub open_before : (bs : List Bracket) → points_open bs ≤ place → OpenHasThere bs
  open_before [] few = tt
  open_before (InNode type at held ∷ bs) few = (held_before (points_open bs) held few, open_before bs (omega (arith, few)))
  open_before (InValue p op c at None ∷ bs) few = (tt, open_before bs few)
  open_before (InValue p op c at (Some x) ∷ bs) few = (grown_before (points_open bs) x few, open_before bs (omega (arith, few)))
  open_before (Root x ∷ bs) few = (grown_before (points_open bs) x few, open_before bs (omega (arith, few)))

  -- ---- marks behind it

  held_there : {n k : ℕ} (held : Held) → n ≡ k → HeldHasThere n held → HeldHasThere k held
  held_there held same is = subst (λ (n : ℕ). HeldHasThere n held) same is

  abbrev pub HasThere : List Bracket → Type 0
  HasThere bs = (place < points_open bs) × OpenHasThere bs

  shut_there : {ts : List Token} {bs after : List Bracket} → Shuts ts bs after → OpenHasThere bs → OpenHasThere after
  shut_there in_value has = (has.0, has.1.1)
  shut_there (in_node {held} {bs}) has = (held_there held (let same : points_open bs + 0 ≡ points_open bs = omega arith in same) has.0, has.1.1)
  shut_there at_root has = has

  shut_points : {ts : List Token} {bs after : List Bracket} → Shuts ts bs after → points_open after ≡ points_open bs
  shut_points in_value = refl
  shut_points in_node = omega arith
  shut_points at_root = refl

  module _ (g : Grammar) (text : List ℕ) where
    put_there : {op : Op} {c : Value0} {ts : List Token} {inside : Option Grown} {held after : Held} {p : ℕ} (n : ℕ) → ¬ MakesReference op c →
        PutsValueIn g text op c ts inside held p after → IfSome inside (GrownHasThere (n + points_of held)) → HeldHasThere n held → HeldHasThere n after
    put_there n not f.a_node inside has = (has, inside)
    put_there n not (f.a_reference flag by number looks) inside has = absurd (not (flag, by_cross by))
    put_there n not (f.plain is) inside has = has

    change_there : {ts : List Token} {mark : Mark} {bs after : List Bracket} → ChangesOpen g text ts mark bs after → HasThere bs → HasThere after
    change_there (f.opens {bs} at has number) is = (omega (arith, is.0), (tt, is.1))
    change_there (f.puts number) is = (is.0, (tt, is.1))
    change_there (f.shuts shut) is = (omega (arith, is.0, shut_points shut), shut_there shut is.1)
    change_there (f.renames none number) is = is
    change_there (f.wraps {held} {bs} some number property) is =
        (omega (arith, is.0), ((tt, held_there held (let same : points_open bs ≡ points_open bs + 0 = omega arith in same) is.1.0), is.1.1))
    change_there (f.ends f.a_node) is = (omega (arith, is.0), ((is.1.1.0, is.1.0), is.1.1.1))
    change_there (f.ends (f.a_reference not by number looks)) is = (omega (arith, is.0), ((is.1.1.0, λ at. absurd (omega (arith, at, is.0))), is.1.1.1))
    change_there (f.ends (f.plain v)) is = (is.0, (is.1.1.0, is.1.1.1))

    pub go_there : {ts us : List Token} {m : List Mark} {bs after : List Bracket} → Goes g text ts bs m us after → HasThere bs → HasThere after
    go_there going.done is = is
    go_there (going.token t rest) is = go_there rest is
    go_there (going.next change rest) is = go_there rest (change_there change is)

    pub close_there : {ts : List Token} {bs : List Bracket} {x : Grown} → Closes g text ts bs x → OpenHasThere bs → GrownHasThere 0 x
    close_there f.root has = has.0
    close_there (f.shut is closes) has = close_there closes (shut_there is has)
    close_there (f.ended not (f.ends {bs} is) closes) has =
        close_there closes (put_there (points_open bs) not is has.0 has.1.0, has.1.1)
    close_there (f.left_out makes closes) has = close_there closes has.1

  -- ---- the tree

  abbrev OfReference : Reference → Type 0
  OfReference r = Q r.prop.0 r.want.0 r.name r.span

  abbrev RefsHaveThere : ℕ → List Reference → Type 0
  RefsHaveThere from [] = Unit {0}
  RefsHaveThere from (r ∷ rs) = (from ≡ place → OfReference r) × RefsHaveThere (from + 1) rs

  both_have : (from next : ℕ) (rs ss : List Reference) → from + length rs ≡ next → RefsHaveThere from rs → RefsHaveThere next ss → RefsHaveThere from (rs ++ ss)
  both_have from next [] ss count has others = subst (λ (n : ℕ). RefsHaveThere n ss) (let same : next ≡ from = omega (arith, count) in same) others
  both_have from next (r ∷ rs) ss count has others = (has.0, both_have (from + 1) next rs ss (omega (arith, count)) has.1 others)

  mutual
    refs_there : (from n : ℕ) (x : Grown) → GrownHasThere from x → RefsHaveThere from (refs n x)
    refs_there from n (Grow type s held) has = refs_inside from n (n + 1) held has

    refs_inside : (from number n : ℕ) (held : Held) → HeldHasThere from held → RefsHaveThere from (refs_of number n held)
    refs_inside from number n Nothing has = tt
    refs_inside from number n (Puts held p v) has = refs_inside from number n held has
    refs_inside from number n (Points held p want name s) has =
        both_have from (from + points_of held) (refs_of number n held)
        (record { owner = record { 0 = number }; prop = record { 0 = p }; want = record { 0 = want }; name = name; span = s } ∷ [])
        (omega (arith, count_refs_of number n held)) (refs_inside from number n held has.0) (has.1, tt)
    refs_inside from number n (Takes held p x) has =
        both_have from (from + points_of held) (refs_of number n held) (refs (n + size_of held) x) (omega (arith, count_refs_of number n held))
        (refs_inside from number n held has.0) (refs_there (from + points_of held) (n + size_of held) x has.1)

  got_there : (from : ℕ) (rs : List Reference) → RefsHaveThere from rs → (i : ℕ) (r : Reference) → slice_get rs i ≡ Some r → from + i ≡ place → OfReference r
  got_there from [] has i r at is = absurd (none-some r at)
  got_there from (s ∷ rs) has zero r at is = subst OfReference (same_Some s r at) (has.0 (omega (arith, is)))
  got_there from (s ∷ rs) has (suc i) r at is = got_there (from + 1) rs has.1 i r at (omega (arith, is))

  pub reference_there : (x : Grown) → GrownHasThere 0 x → (r : Reference) → slice_get (refs 0 x) place ≡ Some r → OfReference r
  reference_there x has r at = got_there 0 (refs 0 x) (refs_there 0 0 x has) place r at (omega arith)
