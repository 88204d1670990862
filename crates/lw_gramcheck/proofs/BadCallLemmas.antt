-- Calls of what may not be called there, from what single calls and ranges add.
use Rattle.std.proofs.Common.{◌≡◌, ℕ, List, Bool, ◌⊎◌, inl, inr, Some, None, true, false, Contains, refl, sym, subst}
use Rattle.std.proofs.lemmas.Bool.{false≢true}
use Rattle.lw_base.specs.declared.token.Span.{Span}
use Rattle.lw_grammar.specs.declared.fault.GrammarFault.{GrammarFault}
use Rattle.lw_grammar.specs.declared.grammar.Grammar.{Grammar}
use Rattle.lw_grammar.specs.declared.rule.Op.{Op}
use Rattle.lw_grammar.specs.declared.rule.Rule.{Rule}
use Rattle.lw_grammar.specs.declared.rule.Value0.{Value0}
use Rattle.lw_grammar.specs.declared.terminal.Terminal.{Terminal}
use Rattle.lw_grammar.specs.Leaves as leaf
use Rattle.lw_grammar.specs.Leaves.{Leaf, ValueLeaf, leaves, value_leaves}
use Rattle.lw_grammar.specs.Named.{IsRule, IsTerminal}
use Rattle.lw_grammar.specs.Nodes.{IsDataType}
use Rattle.lw_numbers.specs.Numbering.{IsNumbered}
use Rattle.lw_faults.specs.BadCalls.{CrossesBy, BadCall, hidden, crossed_hidden, of_rule, range, crossed, IsInOrder}
use Rattle.lw_faults.specs.BadCalls as bad
use Rattle.lw_faults.specs.Faults.{fault}
use Rattle.lw_grammar.specs.Written.{WritesCall, plain, assigned, term_calls, term_ranges}
use Rattle.lw_grammar.specs.Written as writes
use Rattle.lw_faults.specs.Finding.{Finds, IsFaultOf, OfSome}
use Rattle.lw_faults.proofs.Joining.{Finds-then, Finds-told, told_fault_of}
use Rattle.lw_gramcheck.specs.Sites.{How, Plain, Assigned, Crossed, ByName, Site, site, CrossCalls, PartCalls, LeafSites}
use Rattle.lw_gramcheck.specs.BadSites.{is_cross, IsUncallable, IsBadSite, HasBadSite, HasBadPart}
use Rattle.lw_gramcheck.proofs.MeaningLemmas.{one_rule, one_terminal, never_both, no_rule, no_terminal}

-- the name stands in the text
abbrev is_written : How → Bool
is_written ByName = false
is_written _ = true

-- what does not stand in the text is read by a cross-reference
written_or_cross : (how : How) → (is_written how ≡ true) ⊎ (is_cross how ≡ true)
written_or_cross Plain = inl refl
written_or_cross (Assigned p op s) = inl refl
written_or_cross Crossed = inl refl
written_or_cross ByName = inr refl

module _ (g : Grammar) where
  -- ---- by what the name means

  module _ (call : Site) where
    pub bad_by_rule : (r : ℕ) (rule : Rule) → IsRule g call.name r rule → IsBadSite g call → (is_cross call.how ≡ true) × ¬ IsDataType g rule
    bad_by_rule r rule is (inl (t, x, is_terminal, so)) = absurd (never_both g call.name r t rule x is is_terminal)
    bad_by_rule r rule is (inr (q, by, is_by, cross, not)) =
        let P : Rule → Type 0 = λ x. ¬ IsDataType g x in (cross, subst P (one_rule g call.name q r by rule is_by is) not)

    pub bad_by_terminal : (t : ℕ) (x : Terminal) → IsTerminal g call.name t x → IsBadSite g call → IsUncallable x
    bad_by_terminal t x is (inl (u, y, is_y, so)) = subst IsUncallable (one_terminal g call.name u t y x is_y is) so
    bad_by_terminal t x is (inr (r, by, is_by, cross, so)) = absurd (never_both g call.name r t by x is_by is)

    pub bad_by_nothing : ((n : ℕ) → ¬ IsNumbered g call.name n) → ¬ IsBadSite g call
    bad_by_nothing none (inl (t, x, is, so)) = no_terminal g call.name none t x is
    bad_by_nothing none (inr (r, by, is, cross, so)) = no_rule g call.name none r by is

  -- ---- what a rule writes

  cross_writes : (rule : Rule) (p : List ℕ) (op : Op) (v : Value0) (t : Span) → Contains (leaves rule.body) (leaf.Assign p op v t) → (wanted : List ℕ) (by : _) (s : Span) →
      Contains (value_leaves v) (leaf.Cross wanted by s) → (call : Site) → CrossCalls g wanted by s call → is_written call.how ≡ true → WritesCall rule call.place call.name
  cross_writes rule p op v t has wanted (Some name) s inside call is written =
      let P : Site → Type 0 = λ x. WritesCall rule x.place x.name in subst P (sym is) (writes.crossed p op v t wanted has inside)
  cross_writes rule p op v t has wanted None s inside call (name, is_name, is) written =
      let P : Site → Type 0 = λ x. is_written x.how ≡ true in let hidden_name : false ≡ true = subst P is written in absurd (false≢true hidden_name)

  part_writes : (rule : Rule) (p : List ℕ) (op : Op) (v : Value0) (t : Span) → Contains (leaves rule.body) (leaf.Assign p op v t) → (part : ValueLeaf) →
      Contains (value_leaves v) part → (call : Site) → PartCalls g (Assigned p op t) part call → is_written call.how ≡ true → WritesCall rule call.place call.name
  part_writes rule p op v t has (leaf.Literal text s) inside call is written = absurd is
  part_writes rule p op v t has (leaf.Calls name s) inside call is written =
      let P : Site → Type 0 = λ x. WritesCall rule x.place x.name in subst P (sym is) (assigned p op v t has inside)
  part_writes rule p op v t has (leaf.Cross wanted by s) inside call is written = cross_writes rule p op v t has wanted by s inside call is written

  leaf_writes : (rule : Rule) (l : Leaf) → Contains (leaves rule.body) l → (call : Site) → LeafSites g l call → is_written call.how ≡ true →
      WritesCall rule call.place call.name
  leaf_writes rule (leaf.Keyword text s) has call is written = absurd is
  leaf_writes rule (leaf.Call name s) has call is written = let P : Site → Type 0 = λ x. WritesCall rule x.place x.name in subst P (sym is) (plain has)
  leaf_writes rule (leaf.Assign p op v t) has call (part, inside, is) written = part_writes rule p op v t has part inside call is written
  leaf_writes rule (leaf.Act a) has call is written = absurd is

  module _ (rule : Rule) (stands : Contains g.rules rule) where
    from_written : (s : Span) (name : List ℕ) → WritesCall rule s name → (t : ℕ) (x : Terminal) → IsTerminal g name t x → IsUncallable x →
        OfSome (HasBadSite g) g.rules (fault 21 rule.file s name)
    from_written s name (plain has) t x is so = (rule, stands, (site name s Plain, (leaf.Call name s, has, refl), (inl (t, x, is, so), refl)))
    from_written s name (assigned p op v u has inside) t x is so =
        (rule, stands, (site name s (Assigned p op u), (leaf.Assign p op v u, has, (leaf.Calls name s, inside, refl)), (inl (t, x, is, so), refl)))
    from_written s name (writes.crossed p op v u wanted has inside) t x is so =
        (rule, stands, (site name s Crossed, (leaf.Assign p op v u, has, (leaf.Cross wanted (Some name) s, inside, refl)), (inl (t, x, is, so), refl)))

  -- ---- how a rule's cross-references read

  cross_crosses : (rule : Rule) (p : List ℕ) (op : Op) (v : Value0) (t : Span) → Contains (leaves rule.body) (leaf.Assign p op v t) → (wanted : List ℕ) (by : _) (s : Span) →
      Contains (value_leaves v) (leaf.Cross wanted by s) → (call : Site) → CrossCalls g wanted by s call → CrossesBy g rule call.place call.name
  cross_crosses rule p op v t has wanted (Some name) s inside call is =
      let P : Site → Type 0 = λ x. CrossesBy g rule x.place x.name in subst P (sym is) (bad.written p op v t wanted has inside)
  cross_crosses rule p op v t has wanted None s inside call (name, is_name, is) =
      let P : Site → Type 0 = λ x. CrossesBy g rule x.place x.name in subst P (sym is) (bad.by_name p op v t wanted has inside is_name)

  part_crosses : (rule : Rule) (p : List ℕ) (op : Op) (v : Value0) (t : Span) → Contains (leaves rule.body) (leaf.Assign p op v t) → (part : ValueLeaf) →
      Contains (value_leaves v) part → (call : Site) → PartCalls g (Assigned p op t) part call → is_cross call.how ≡ true → CrossesBy g rule call.place call.name
  part_crosses rule p op v t has (leaf.Literal text s) inside call is cross = absurd is
  part_crosses rule p op v t has (leaf.Calls name s) inside call is cross =
      let P : Site → Type 0 = λ x. is_cross x.how ≡ true in let put : false ≡ true = subst P is cross in absurd (false≢true put)
  part_crosses rule p op v t has (leaf.Cross wanted by s) inside call is cross = cross_crosses rule p op v t has wanted by s inside call is

  leaf_crosses : (rule : Rule) (l : Leaf) → Contains (leaves rule.body) l → (call : Site) → LeafSites g l call → is_cross call.how ≡ true →
      CrossesBy g rule call.place call.name
  leaf_crosses rule (leaf.Keyword text s) has call is cross = absurd is
  leaf_crosses rule (leaf.Call name s) has call is cross =
      let P : Site → Type 0 = λ x. is_cross x.how ≡ true in let called : false ≡ true = subst P is cross in absurd (false≢true called)
  leaf_crosses rule (leaf.Assign p op v t) has call (part, inside, is) cross = part_crosses rule p op v t has part inside call is cross
  leaf_crosses rule (leaf.Act a) has call is cross = absurd is

  module _ (rule : Rule) (stands : Contains g.rules rule) where
    from_crossed : (s : Span) (name : List ℕ) → CrossesBy g rule s name → (r : ℕ) (by : Rule) → IsRule g name r by → ¬ IsDataType g by →
        OfSome (HasBadSite g) g.rules (fault 21 rule.file s name)
    from_crossed s name (bad.written p op v t wanted has inside) r by is not =
        (rule, stands, (site name s Crossed, (leaf.Assign p op v t, has, (leaf.Cross wanted (Some name) s, inside, refl)), (inr (r, by, is, refl, not), refl)))
    from_crossed s name (bad.by_name p op v t wanted has inside is_name) r by is not =
        (rule, stands, (site name s ByName, (leaf.Assign p op v t, has, (leaf.Cross wanted None s, inside, (name, is_name, refl))), (inr (r, by, is, refl, not), refl)))

    from_hidden : (s : Span) (name : List ℕ) → CrossesBy g rule s name → (t : ℕ) (x : Terminal) → IsTerminal g name t x → IsUncallable x →
        OfSome (HasBadSite g) g.rules (fault 21 rule.file s name)
    from_hidden s name (bad.written p op v u wanted has inside) t x is so =
        (rule, stands, (site name s Crossed, (leaf.Assign p op v u, has, (leaf.Cross wanted (Some name) s, inside, refl)), (inl (t, x, is, so), refl)))
    from_hidden s name (bad.by_name p op v u wanted has inside is_name) t x is so =
        (rule, stands, (site name s ByName, (leaf.Assign p op v u, has, (leaf.Cross wanted None s, inside, (name, is_name, refl))), (inl (t, x, is, so), refl)))

  -- a site at which a terminal is called that no rule may call
  hidden_told : (rule : Rule) (l : Leaf) → Contains g.rules rule → Contains (leaves rule.body) l → (call : Site) → LeafSites g l call → (t : ℕ) (x : Terminal) →
      IsTerminal g call.name t x → IsUncallable x → BadCall g rule.file call.place call.name
  hidden_told rule l stands has call is t x is_terminal so = by (written_or_cross call.how)
    where
      by : (is_written call.how ≡ true) ⊎ (is_cross call.how ≡ true) → BadCall g rule.file call.place call.name
      by (inl written) = hidden rule t x stands (leaf_writes rule l has call is written) is_terminal so
      by (inr cross) = crossed_hidden rule t x stands (leaf_crosses rule l has call is cross) is_terminal so

  -- ---- together

  abbrev Bad : GrammarFault → Type 0
  Bad f = OfSome (HasBadSite g) g.rules f ⊎ OfSome (HasBadPart g) g.terminals f

  bad_to : (f : GrammarFault) → Bad f → IsFaultOf 21 (BadCall g) f
  bad_to f (inl (rule, stands, (call, (l, has, is), (inl (t, x, is_terminal, either), told)))) =
      told_fault_of (BadCall g) rule.file call.place call.name told (hidden_told rule l stands has call is t x is_terminal either)
  bad_to f (inl (rule, stands, (call, (l, has, is), (inr (r, by, is_by, cross, not), told)))) =
      told_fault_of (BadCall g) rule.file call.place call.name told (crossed rule r by stands (leaf_crosses rule l has call is cross) is_by not)
  bad_to f (inr (terminal, stands, inl (call, has, ((r, rule, is), told)))) =
      told_fault_of (BadCall g) terminal.file call.1 call.0 told (of_rule terminal r rule stands has is)
  bad_to f (inr (terminal, stands, inr (ends, has, (not, told)))) =
      told_fault_of (BadCall g) terminal.file ends.2 terminal.name told (range terminal ends.0 ends.1 stands has not)

  bad_from : (file : ℕ) (s : Span) (name : List ℕ) → BadCall g file s name → Bad (fault 21 file s name)
  bad_from _ s name (hidden rule t x stands writes is_terminal either) = inl (from_written rule stands s name writes t x is_terminal either)
  bad_from _ s name (crossed_hidden rule t x stands crosses is_terminal either) = inl (from_hidden rule stands s name crosses t x is_terminal either)
  bad_from _ s name (of_rule terminal r rule stands has is) = inr (terminal, stands, inl ((name, s), has, ((r, rule, is), refl)))
  bad_from _ s _ (range terminal first last stands has not) = inr (terminal, stands, inr ((first, last, s), has, (not, refl)))
  bad_from _ s name (crossed rule r by stands crosses is_by not) = inl (from_crossed rule stands s name crosses r by is_by not)

  pub found_bad_calls : {a b c : List GrammarFault} → Finds (OfSome (HasBadSite g) g.rules) a b → Finds (OfSome (HasBadPart g) g.terminals) b c →
      Finds (IsFaultOf 21 (BadCall g)) a c
  found_bad_calls one other = Finds-told (BadCall g) bad_to bad_from (Finds-then one other)
