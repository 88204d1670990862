-- What a rule of one assignment writes, where its value has one part.
use Rattle.std.proofs.Common.{◌≡◌, ℕ, List, [], ◌∷◌, Some, None, Contains, refl, sym, subst, arith}
use Rattle.lw_base.specs.declared.token.Span.{Span}
use Rattle.lw_grammar.specs.declared.grammar.Grammar.{Grammar}
use Rattle.lw_grammar.specs.declared.rule.Rule.{Rule}
use Rattle.lw_grammar.specs.declared.rule.Op.{Op}
use Rattle.lw_grammar.specs.declared.rule.Value0.{Value0}
use Rattle.lw_grammar.specs.declared.rule.Element.TheVariants.{Assign}
use Rattle.lw_grammar.specs.Leaves as leaf
use Rattle.lw_grammar.specs.Leaves.{Leaf, leaves, ValueLeaf, Calls, Cross, value_leaves}
use Rattle.lw_grammar.specs.NameRules.{IsNameRule}
use Rattle.lw_grammar.proofs.LeafLemmas.{leaves-Assign}
use Rattle.lw_grammar.specs.Written.{WritesCall}
use Rattle.lw_grammar.specs.Written as written
use Rattle.lw_faults.specs.BadCalls.{CrossesBy}
use Rattle.lw_faults.specs.BadCalls as bad
use Rattle.lw_grammar.proofs.Every.{every_of}

module _ (rule : Rule) (p : List ℕ) (op : Op) (v : Value0) (s : Span) (l : ValueLeaf) (body : rule.body ≡ Assign p op v s) (parts : value_leaves v ≡ l ∷ []) where
  -- the assignment is the only leaf
  abbrev pub IsIt : Leaf → Type 0
  IsIt (leaf.Assign q o w t) = (q ≡ p) × (o ≡ op) × (w ≡ v) × (t ≡ s)
  IsIt _ = ⊥

  pub only_leaf : (x : Leaf) → Contains (leaves rule.body) x → IsIt x
  only_leaf x has =
      every_of IsIt (leaf.Assign p op v s ∷ []) x ((refl, refl, refl, refl), tt)
      (subst (λ ls. Contains ls x) (leaves-Assign p op v s) (subst (λ e. Contains (leaves e) x) body has))

  -- and its value has this part alone
  pub only_part : (q : List ℕ) (o : Op) (w : Value0) (t : Span) (x : ValueLeaf) → Contains (leaves rule.body) (leaf.Assign q o w t) → Contains (value_leaves w) x → l ≡ x
  only_part q o w t x has inside =
      every_of (λ y. l ≡ y) (l ∷ []) x (refl, tt)
      (subst (λ ls. Contains ls x) parts (subst (λ y. Contains (value_leaves y) x) (only_leaf (leaf.Assign q o w t) has).2 inside))

  pub part_there : (x : ValueLeaf) → l ≡ x → Contains (value_leaves v) x
  part_there x is = subst (λ ls. Contains ls x) (sym parts) (subst (Contains (l ∷ [])) is (0, omega arith, refl))

  pub leaf_there : Contains (leaves rule.body) (leaf.Assign p op v s)
  leaf_there = subst (λ e. Contains (leaves e) (leaf.Assign p op v s)) (sym body) (rw leaves-Assign (0, omega arith, refl))

  -- the call that it writes is this part
  abbrev pub IsCallHere : ValueLeaf → Span → List ℕ → Type 0
  IsCallHere (Calls name t) u n = (u ≡ t) × (n ≡ name)
  IsCallHere (Cross wanted (Some name) t) u n = (u ≡ t) × (n ≡ name)
  IsCallHere _ u n = ⊥

  pub writes : (u : Span) (n : List ℕ) → WritesCall rule u n → IsCallHere l u n
  writes u n (written.plain has) = absurd (only_leaf (leaf.Call n u) has)
  writes u n (written.assigned q o w t has inside) = subst (λ x. IsCallHere x u n) (sym (only_part q o w t (Calls n u) has inside)) (refl, refl)
  writes u n (written.crossed q o w t wanted has inside) = subst (λ x. IsCallHere x u n) (sym (only_part q o w t (Cross wanted (Some n) u) has inside)) (refl, refl)

  -- and so is the cross-reference
  module _ (g : Grammar) where
    abbrev pub IsCrossHere : ValueLeaf → Span → List ℕ → Type 0
    IsCrossHere (Cross wanted (Some name) t) u n = (u ≡ t) × (n ≡ name)
    IsCrossHere (Cross wanted None t) u n = (u ≡ t) × IsNameRule g wanted n
    IsCrossHere _ u n = ⊥

    pub crosses : (u : Span) (n : List ℕ) → CrossesBy g rule u n → IsCrossHere l u n
    crosses u n (bad.written q o w t wanted has inside) =
        subst (λ x. IsCrossHere x u n) (sym (only_part q o w t (Cross wanted (Some n) u) has inside)) (refl, refl)
    crosses u n (bad.by_name q o w t wanted has inside is) = subst (λ x. IsCrossHere x u n) (sym (only_part q o w t (Cross wanted None u) has inside)) (refl, is)
