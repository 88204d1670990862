-- Fragments and terminals that call themselves, from edges between their numbers.
use Rattle.std.proofs.Common.{◌≡◌, ◌↔◌, ℕ, ◌<◌, List, [], Bool, ◌⊎◌, inl, inr, Some, None, Contains, length, refl, sym, ap, subst, arith}
use Rattle.std.proofs.lemmas.Option.{slice_get_within}
use Rattle.lw_base.specs.declared.token.Span.{Span}
use Rattle.lw_grammar.specs.declared.fault.GrammarFault.{GrammarFault}
use Rattle.lw_grammar.specs.declared.grammar.Grammar.{Grammar}
use Rattle.lw_grammar.specs.declared.rule.Op.{Op}
use Rattle.lw_grammar.specs.declared.rule.Rule.{Rule}
use Rattle.lw_grammar.specs.declared.rule.Value0.{Value0}
use Rattle.lw_grammar.specs.Leaves as leaf
use Rattle.lw_grammar.specs.Leaves.{Leaf, ValueLeaf, leaves, value_leaves}
use Rattle.lw_grammar.specs.Reached.{ValueCalls, RuleCalls}
use Rattle.lw_grammar.specs.Reached as reached
use Rattle.lw_faults.specs.Circles.{FragmentCalls, TerminalCalls, CircularCall, fragment_, terminal}
use Rattle.lw_faults.specs.Circles as circles
use Rattle.lw_faults.specs.Faults.{fault}
use Rattle.lw_graph.specs.Walks.{Links, HasEdge, Walks, stay, go, HasNode, GoesRound}
use Rattle.lw_faults.specs.Finding.{Finds, IsFaultOf, AtSome}
use Rattle.lw_faults.proofs.Joining.{Finds-iff, Finds-then, Finds-told, told_fault_of}
use Rattle.lw_gramcheck.specs.Sites.{Plain, Assigned, Crossed, ByName, Site, site, CrossCalls, PartCalls, LeafSites, HasSite}
use Rattle.lw_gramcheck.specs.Edges.{Edge, StayBelow, MeansFragment, CallsFragment, IsFragmentEdge, IsTerminalEdge, CircularFragment, CircularTerminal, RuleIn, TerminalIn}
use Rattle.lw_gramcheck.proofs.GraphLemmas.{HasJust}

-- ---- walks

module _ (graph : Links) where
  walks_on : {a b c : ℕ} → Walks graph a b → Walks graph b c → Walks graph a c
  walks_on stay more = more
  walks_on (go edge walk) more = go edge (walks_on walk more)

  -- over one edge or more
  abbrev Leads : ℕ → ℕ → Type 0
  Leads a c = (b : ℕ) × HasEdge graph a b × Walks graph b c

  leads_on : (a b c : ℕ) → Leads a b → Leads b c → Leads a c
  leads_on a b c (m, edge, walk) (n, other, more) = (m, edge, walks_on walk (go other more))

-- what was gathered, and nothing else
of_gathered : {Y : Type 0} {P : Y → Type 0} {ys : List Y} → Finds P [] ys → (y : Y) → Contains ys y ↔ P y
of_gathered {Y} {P} finds y = (λ has. by ((finds.exact y).0 has), λ so. (finds.exact y).1 (inr so))
  where
    by : Contains [] y ⊎ P y → P y
    by (inl (k, inside, is)) = absurd (omega (arith, inside))
    by (inr so) = so

module _ (g : Grammar) where
  -- ---- what a rule calls

  module _ (rule : Rule) where
    cross_calls : (p : List ℕ) (op : Op) (v : Value0) (t : Span) → Contains (leaves rule.body) (leaf.Assign p op v t) → (wanted : List ℕ) (by : _) (s : Span) →
        Contains (value_leaves v) (leaf.Cross wanted by s) → (call : Site) → CrossCalls g wanted by s call → RuleCalls g rule call.name
    cross_calls p op v t has wanted (Some name) s inside call is =
        let P : Site → Type 0 = λ x. RuleCalls g rule x.name in subst P (sym is) (reached.assigns p op v t has (reached.crosses wanted s inside))
    cross_calls p op v t has wanted None s inside call (name, is_name, is) =
        let P : Site → Type 0 = λ x. RuleCalls g rule x.name in subst P (sym is) (reached.assigns p op v t has (reached.crosses_by_name wanted s inside is_name))

    part_calls : (p : List ℕ) (op : Op) (v : Value0) (t : Span) → Contains (leaves rule.body) (leaf.Assign p op v t) → (part : ValueLeaf) →
        Contains (value_leaves v) part → (call : Site) → PartCalls g (Assigned p op t) part call → RuleCalls g rule call.name
    part_calls p op v t has (leaf.Literal text s) inside call is = absurd is
    part_calls p op v t has (leaf.Calls name s) inside call is =
        let P : Site → Type 0 = λ x. RuleCalls g rule x.name in subst P (sym is) (reached.assigns p op v t has (reached.calls s inside))
    part_calls p op v t has (leaf.Cross wanted by s) inside call is = cross_calls p op v t has wanted by s inside call is

    site_calls : (l : Leaf) → Contains (leaves rule.body) l → (call : Site) → LeafSites g l call → RuleCalls g rule call.name
    site_calls (leaf.Keyword text s) has call is = absurd is
    site_calls (leaf.Call name s) has call is = let P : Site → Type 0 = λ x. RuleCalls g rule x.name in subst P (sym is) (reached.calls s has)
    site_calls (leaf.Assign p op v t) has call (part, inside, is) = part_calls p op v t has part inside call is
    site_calls (leaf.Act a) has call is = absurd is

  -- each call has a site
  value_site : (rule : Rule) (p : List ℕ) (op : Op) (v : Value0) (t : Span) → Contains (leaves rule.body) (leaf.Assign p op v t) → (name : List ℕ) → ValueCalls g v name →
      (q r : ℕ) → MeansFragment g name r → (call : Site) × HasSite g rule call × CallsFragment g q call (q, r)
  value_site rule p op v t has name (reached.calls s inside) q r means =
      (site name s (Assigned p op t), (leaf.Assign p op v t, has, (leaf.Calls name s, inside, refl)), (r, means, refl))
  value_site rule p op v t has name (reached.crosses wanted s inside) q r means =
      (site name s Crossed, (leaf.Assign p op v t, has, (leaf.Cross wanted (Some name) s, inside, refl)), (r, means, refl))
  value_site rule p op v t has name (reached.crosses_by_name wanted s inside is_name) q r means =
      (site name s ByName, (leaf.Assign p op v t, has, (leaf.Cross wanted None s, inside, (name, is_name, refl))), (r, means, refl))

  call_site : (rule : Rule) (name : List ℕ) → RuleCalls g rule name → (q r : ℕ) → MeansFragment g name r →
      (call : Site) × HasSite g rule call × CallsFragment g q call (q, r)
  call_site rule name (reached.calls s has) q r means = (site name s Plain, (leaf.Call name s, has, refl), (r, means, refl))
  call_site rule name (reached.assigns p op v t has called) q r means = value_site rule p op v t has name called q r means

  -- ---- circles of fragments

  module _ (graph : Links) (exact : (a b : ℕ) → HasEdge graph a b ↔ IsFragmentEdge g (a, b)) where
    fragment_leads : {q r : ℕ} → FragmentCalls g q r → Leads graph q r
    fragment_leads {q} {r} (circles.directly caller fragment name at whole called is whole_too) =
        (r, (exact q r).1 (q, caller, at, (whole, call_site caller name called q r (fragment, is, whole_too))), stay)
    fragment_leads (circles.over {p} {q} {r} one other) = leads_on graph p q r (fragment_leads one) (fragment_leads other)

    direct_fragment : (q r : ℕ) → IsFragmentEdge g (q, r) → FragmentCalls g q r
    direct_fragment q r (n, caller, at, (whole, (call, (l, has, is), (m, (fragment, is_rule, whole_too), same)))) =
        let from : q ≡ n = ap (λ e. e.0) same in
        let to : r ≡ m = ap (λ e. e.1) same in
        let P : ℕ → Type 0 = λ k. FragmentCalls g k r in
        let Q : ℕ → Type 0 = λ k. FragmentCalls g n k in
        subst P (sym from) (subst Q (sym to) (circles.directly caller fragment call.name at whole (site_calls caller l has call is) is_rule whole_too))

    walk_calls : {q n r : ℕ} → HasEdge graph q n → Walks graph n r → FragmentCalls g q r
    walk_calls {q} {n} edge stay = direct_fragment q n ((exact q n).0 edge)
    walk_calls {q} {n} edge (go next walk) = circles.over (direct_fragment q n ((exact q n).0 edge)) (walk_calls next walk)

    pub fragment_round : (r : ℕ) → FragmentCalls g r r ↔ GoesRound graph r
    fragment_round r = (λ calls. fragment_leads calls, λ (n, edge, walk). walk_calls edge walk)

  -- ---- circles of terminals

  module _ (graph : Links) (exact : (a b : ℕ) → HasEdge graph a b ↔ IsTerminalEdge g (a, b)) where
    terminal_leads : {t u : ℕ} → TerminalCalls g t u → Leads graph t u
    terminal_leads {t} {u} (circles.directly caller called name s at has is) =
        (u, (exact t u).1 (t, caller, at, ((name, s), has, (u, (called, is), refl))), stay)
    terminal_leads (circles.over {p} {q} {r} one other) = leads_on graph p q r (terminal_leads one) (terminal_leads other)

    direct_terminal : (t u : ℕ) → IsTerminalEdge g (t, u) → TerminalCalls g t u
    direct_terminal t u (n, caller, at, (call, has, (m, (called, is), same))) =
        let from : t ≡ n = ap (λ e. e.0) same in
        let to : u ≡ m = ap (λ e. e.1) same in
        let P : ℕ → Type 0 = λ k. TerminalCalls g k u in
        let Q : ℕ → Type 0 = λ k. TerminalCalls g n k in
        subst P (sym from) (subst Q (sym to) (circles.directly caller called call.0 call.1 at has is))

    walk_terminals : {t n u : ℕ} → HasEdge graph t n → Walks graph n u → TerminalCalls g t u
    walk_terminals {t} {n} edge stay = direct_terminal t n ((exact t n).0 edge)
    walk_terminals {t} {n} edge (go next walk) = circles.over (direct_terminal t n ((exact t n).0 edge)) (walk_terminals next walk)

    pub terminal_round : (t : ℕ) → TerminalCalls g t t ↔ GoesRound graph t
    terminal_round t = (λ calls. terminal_leads calls, λ (n, edge, walk). walk_terminals edge walk)

  -- ---- both ends of edges are numbers of rules and of terminals

  pub fragments_below : {edges : List Edge} → Finds (IsFragmentEdge g) [] edges → StayBelow (length g.rules) edges
  fragments_below finds (a, b) has = by ((of_gathered finds (a, b)).0 has)
    where
      by : IsFragmentEdge g (a, b) → (a < length g.rules) × (b < length g.rules)
      by (n, caller, at, (whole, (call, inside, (m, (fragment, is, whole_too), same)))) =
          let from : a ≡ n = ap (λ e. e.0) same in
          let to : b ≡ m = ap (λ e. e.1) same in
          (omega (arith, from, slice_get_within g.rules n caller at), omega (arith, to, slice_get_within g.rules m fragment is.first.there))

  pub terminals_below : {edges : List Edge} → Finds (IsTerminalEdge g) [] edges → StayBelow (length g.terminals) edges
  terminals_below finds (a, b) has = by ((of_gathered finds (a, b)).0 has)
    where
      by : IsTerminalEdge g (a, b) → (a < length g.terminals) × (b < length g.terminals)
      by (n, caller, at, (call, inside, (m, (called, is), same))) =
          let from : a ≡ n = ap (λ e. e.0) same in
          let to : b ≡ m = ap (λ e. e.1) same in
          (omega (arith, from, slice_get_within g.terminals n caller at), omega (arith, to, slice_get_within g.terminals m called is.first.there))

  -- ---- those whose numbers are in the set

  module _ (graph : Links) (edges : List Edge) (just : HasJust graph edges) (round : List Bool) (exact : (n : ℕ) → HasNode round n ↔ GoesRound graph n) where
    pub circular_fragments : {a b : List GrammarFault} → Finds (IsFragmentEdge g) [] edges → Finds (AtSome (RuleIn round) g.rules) a b →
        Finds (AtSome (CircularFragment g) g.rules) a b
    circular_fragments gathered finds =
        Finds-iff (λ f. (
          λ (r, rule, at, (is, told)). (r, rule, at, ((calls r).1 ((exact r).0 is), told)),
          λ (r, rule, at, (is, told)). (r, rule, at, ((exact r).1 ((calls r).0 is), told)),
        )) finds
      where
        calls : (r : ℕ) → FragmentCalls g r r ↔ GoesRound graph r
        calls = fragment_round graph (λ a b. (λ has. (of_gathered gathered (a, b)).0 ((just a b).0 has), λ is. (just a b).1 ((of_gathered gathered (a, b)).1 is)))

    pub circular_terminals : {a b : List GrammarFault} → Finds (IsTerminalEdge g) [] edges → Finds (AtSome (TerminalIn round) g.terminals) a b →
        Finds (AtSome (CircularTerminal g) g.terminals) a b
    circular_terminals gathered finds =
        Finds-iff (λ f. (
          λ (t, x, at, (is, told)). (t, x, at, ((calls t).1 ((exact t).0 is), told)),
          λ (t, x, at, (is, told)). (t, x, at, ((exact t).1 ((calls t).0 is), told)),
        )) finds
      where
        calls : (t : ℕ) → TerminalCalls g t t ↔ GoesRound graph t
        calls = terminal_round graph (λ a b. (λ has. (of_gathered gathered (a, b)).0 ((just a b).0 has), λ is. (just a b).1 ((of_gathered gathered (a, b)).1 is)))

  -- ---- together

  abbrev OnCircle : GrammarFault → Type 0
  OnCircle f = AtSome (CircularFragment g) g.rules f ⊎ AtSome (CircularTerminal g) g.terminals f

  circle_to : (f : GrammarFault) → OnCircle f → IsFaultOf 20 (CircularCall g) f
  circle_to f (inl (r, rule, at, (round, told))) = told_fault_of (CircularCall g) rule.file rule.span rule.name told (fragment_ r rule at round)
  circle_to f (inr (t, x, at, (round, told))) = told_fault_of (CircularCall g) x.file x.span x.name told (terminal t x at round)

  circle_from : (file : ℕ) (s : Span) (name : List ℕ) → CircularCall g file s name → OnCircle (fault 20 file s name)
  circle_from _ _ _ (fragment_ r rule at calls_itself) = inl (r, rule, at, (calls_itself, refl))
  circle_from _ _ _ (terminal t x at calls_itself) = inr (t, x, at, (calls_itself, refl))

  pub found_circles : {a b c : List GrammarFault} → Finds (AtSome (CircularFragment g) g.rules) a b → Finds (AtSome (CircularTerminal g) g.terminals) b c →
      Finds (IsFaultOf 20 (CircularCall g)) a c
  found_circles one other = Finds-told (CircularCall g) circle_to circle_from (Finds-then one other)
