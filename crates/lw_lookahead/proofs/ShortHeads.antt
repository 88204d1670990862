-- Where the heads of rules and of what follows them are true, no head has more than k kinds.
use Rattle.std.proofs.Common.{ℕ, ◌≤◌, List, length, take, ap, arith}
use Rattle.std.proofs.lemmas.List.{length-take}
use Rattle.lw_grammar.specs.declared.grammar.Grammar.{Grammar}
use Rattle.lw_grammar.specs.declared.rule.Element.{Element}
use Rattle.lw_grammar.specs.Kinds.{Kinds}
use Rattle.lw_look.specs.Sites.{Part, PartSite}
use Rattle.lw_look.specs.Heads.{AreTrueAfters, AreTrueHeads, Can, CanFollow, CanLook, ManyCan, RowCan}
use Rattle.lw_look.specs.Heads as head
use Rattle.lw_look.proofs.HeadsTrue.{follow_true}

-- the first k are no more than k
short-take : (k : ℕ) (ks : List ℕ) → length (take k ks) ≤ k
short-take k ks = omega (arith, length-take k ks)

module _ (g : Grammar) (kinds : Kinds) (k : ℕ) (Holds : ℕ → List ℕ → Type 0) where
  mutual
    part_short : {x : Part} {a h : List ℕ} → Can g kinds k Holds x a h → length a ≤ k → length h ≤ k
    part_short (head.keyword n is at) few = short-take k _
    part_short (head.terminal n is at) few = short-take k _
    part_short (head.called calls is holds) few = short-take k _
    part_short (head.assigned is can) few = part_short can few
    part_short (head.acted is) few = few
    part_short (head.row is can) few = row_short can few
    part_short (head.chosen is among can) few = part_short can few
    part_short (head.chosen_value is among can) few = part_short can few
    part_short (head.passes is) few = few
    part_short (head.enters is can) few = part_short can few
    part_short (head.any is can) few = many_short can few
    part_short (head.some is can first) few = part_short first (many_short can few)

    row_short : {es : List Element} {a h : List ℕ} → RowCan g kinds k Holds es a h → length a ≤ k → length h ≤ k
    row_short head.none few = few
    row_short (head.more can first) few = part_short first (row_short can few)

    many_short : {e : Element} {a h : List ℕ} → ManyCan g kinds k Holds e a h → length a ≤ k → length h ≤ k
    many_short head.stop few = few
    many_short (head.again can first) few = part_short first (many_short can few)

  module _ (true_heads : AreTrueHeads g kinds k Holds) (Afters : ℕ → List ℕ → Type 0) (true_afters : AreTrueAfters g kinds k Holds Afters) where
    follow_short : {s : PartSite} {h : List ℕ} → CanFollow g kinds k Holds Afters s h → length h ≤ k
    follow_short {s} {h} p = let (ks, after, same) = follow_true g kinds k Holds true_heads Afters true_afters p in omega (arith, ap length same, short-take k ks)

    pub look_short : {s : PartSite} {way : ℕ} {h : List ℕ} → CanLook g kinds k Holds Afters s way h → length h ≤ k
    look_short (head.alternative at can p) = part_short can (follow_short p)
    look_short (head.enters_ at can p) = part_short can (follow_short p)
    look_short (head.passes_ at p) = follow_short p
    look_short (head.reads_again at many can p) = part_short can (many_short many (follow_short p))
    look_short (head.leaves at p) = follow_short p
