-- Bad assignments, from what single calls add.
use Rattle.std.proofs.Common.{ℕ, List, inl, inr, Some, None, Contains, refl, subst}
use Rattle.lw_base.specs.declared.token.Span.{Span}
use Rattle.lw_grammar.specs.declared.fault.GrammarFault.{GrammarFault}
use Rattle.lw_grammar.specs.declared.grammar.Grammar.{Grammar}
use Rattle.lw_grammar.specs.declared.rule.Op.{Op}
use Rattle.lw_grammar.specs.declared.rule.Op.TheVariants.{Flag}
use Rattle.lw_grammar.specs.declared.rule.Rule.{Rule}
use Rattle.lw_grammar.specs.declared.rule.Value0.{Value0}
use Rattle.lw_grammar.specs.declared.terminal.Terminal.{Terminal}
use Rattle.lw_grammar.specs.Leaves as leaf
use Rattle.lw_grammar.specs.Leaves.{Leaf, ValueLeaf, leaves, value_leaves}
use Rattle.lw_grammar.specs.Named.{IsRule, IsTerminal}
use Rattle.lw_numbers.specs.Numbering.{IsNumbered}
use Rattle.lw_faults.specs.BadCalls.{BadAssignment, flag, fragment_}
use Rattle.lw_faults.specs.Faults.{fault}
use Rattle.lw_faults.specs.Finding.{Finds, IsFaultOf, OfSome}
use Rattle.lw_faults.proofs.Joining.{Finds-told, told_fault_of}
use Rattle.lw_gramcheck.specs.Sites.{Assigned, Site, site, PartCalls, LeafSites}
use Rattle.lw_gramcheck.specs.BadSites.{IsMisused, PutsBadly, BadPutBy, BadPut, HasBadPut}
use Rattle.lw_gramcheck.proofs.MeaningLemmas.{one_rule, never_both, no_rule}

module _ (g : Grammar) where
  -- ---- by what the name means

  module _ (op : Op) (name : List ℕ) where
    pub puts_by_rule : (r : ℕ) (rule : Rule) → IsRule g name r rule → PutsBadly g op name → IsMisused g op rule
    puts_by_rule r rule is (q, called, is_called, so) = subst (IsMisused g op) (one_rule g name q r called rule is_called is) so

    pub no_put_of_terminal : (t : ℕ) (x : Terminal) → IsTerminal g name t x → ¬ PutsBadly g op name
    no_put_of_terminal t x is (r, called, is_called, so) = never_both g name r t called x is_called is

    pub no_put_of_nothing : ((n : ℕ) → ¬ IsNumbered g name n) → ¬ PutsBadly g op name
    no_put_of_nothing none (r, called, is_called, so) = no_rule g name none r called is_called

  -- ---- what a rule puts

  module _ (rule : Rule) (stands : Contains g.rules rule) (f : GrammarFault) where
    a_put : (p : List ℕ) (op : Op) (v : Value0) (s t : Span) (name : List ℕ) → Contains (leaves rule.body) (leaf.Assign p op v s) →
        Contains (value_leaves v) (leaf.Calls name t) → BadPutBy g rule name (Assigned p op s) f → IsFaultOf 22 (BadAssignment g) f
    a_put p op v s t name has inside ((r, called, is, inl whole), told) =
        told_fault_of (BadAssignment g) rule.file s p told (fragment_ rule p op v s t name r called stands has inside is whole)
    a_put p op v s t name has inside ((r, called, is, inr (flagged, makes)), told) =
        let P : Op → Type 0 = λ o. Contains (leaves rule.body) (leaf.Assign p o v s) in
        told_fault_of (BadAssignment g) rule.file s p told (flag rule p v s t name r called stands (subst P flagged has) inside is makes)

    part_put : (p : List ℕ) (op : Op) (v : Value0) (s : Span) → Contains (leaves rule.body) (leaf.Assign p op v s) → (part : ValueLeaf) →
        Contains (value_leaves v) part → (call : Site) → PartCalls g (Assigned p op s) part call → BadPut g rule call f → IsFaultOf 22 (BadAssignment g) f
    part_put p op v s has (leaf.Literal text t) inside call is bad = absurd is
    part_put p op v s has (leaf.Calls name t) inside call is bad =
        let P : Site → Type 0 = λ x. BadPut g rule x f in a_put p op v s t name has inside (subst P is bad)
    part_put p op v s has (leaf.Cross wanted (Some name) t) inside call is bad = let P : Site → Type 0 = λ x. BadPut g rule x f in absurd (subst P is bad)
    part_put p op v s has (leaf.Cross wanted None t) inside call (name, is_name, is) bad =
        let P : Site → Type 0 = λ x. BadPut g rule x f in absurd (subst P is bad)

    leaf_put : (l : Leaf) → Contains (leaves rule.body) l → (call : Site) → LeafSites g l call → BadPut g rule call f → IsFaultOf 22 (BadAssignment g) f
    leaf_put (leaf.Keyword text s) has call is bad = absurd is
    leaf_put (leaf.Call name s) has call is bad = let P : Site → Type 0 = λ x. BadPut g rule x f in absurd (subst P is bad)
    leaf_put (leaf.Assign p op v s) has call (part, inside, is) bad = part_put p op v s has part inside call is bad
    leaf_put (leaf.Act a) has call is bad = absurd is

  puts_to : (f : GrammarFault) → OfSome (HasBadPut g) g.rules f → IsFaultOf 22 (BadAssignment g) f
  puts_to f (rule, stands, (call, (l, has, is), bad)) = leaf_put rule stands f l has call is bad

  puts_from : (file : ℕ) (s : Span) (name : List ℕ) → BadAssignment g file s name → OfSome (HasBadPut g) g.rules (fault 22 file s name)
  puts_from _ _ _ (flag rule p v s t name r called stands has inside is makes) =
      (rule, stands, (site name t (Assigned p Flag s), (leaf.Assign p Flag v s, has, (leaf.Calls name t, inside, refl)), ((r, called, is, inr (refl, makes)), refl)))
  puts_from _ _ _ (fragment_ rule p op v s t name r called stands has inside is whole) =
      (rule, stands, (site name t (Assigned p op s), (leaf.Assign p op v s, has, (leaf.Calls name t, inside, refl)), ((r, called, is, inl whole), refl)))

  pub found_bad_puts : {a b : List GrammarFault} → Finds (OfSome (HasBadPut g) g.rules) a b → Finds (IsFaultOf 22 (BadAssignment g)) a b
  found_bad_puts finds = Finds-told (BadAssignment g) puts_to puts_from finds
