-- In a grammar that lacks nothing, with its kinds, every keyword of a reached rule has a kind and every call gives something: the kinds hold the keywords and
-- terminals of reached rules, and a body that may read some tokens yields marks.
use Rattle.std.proofs.Common.{◌≡◌, ◌≢◌, ◌⊎◌, ◌<◌, ◌+◌, inl, inr, ℕ, zero, suc, Bool, List, [], ◌∷◌, ◌++◌, Some, None, true, false, Contains, slice_get, refl, sym, ap, ◌∙◌, subst, arith}
use Rattle.std.specs.List.{flat_map}
use Rattle.std.proofs.lemmas.List.Elements.{Contains-append_left, Contains-append_right}
use Rattle.std.proofs.lemmas.Option.{none-some, same_Some}
use Rattle.lw_base.specs.declared.token.Span.{Span}
use Rattle.lw_grammar.specs.declared.grammar.Grammar.{Grammar}
use Rattle.lw_grammar.specs.declared.rule.Element.{Element, out-Element}
use Rattle.lw_grammar.specs.declared.rule.Element.TheOpen as layer
use Rattle.lw_grammar.specs.declared.rule.Element.TheOpen.{Element-F}
use Rattle.lw_grammar.specs.declared.rule.Value0.{Value0, out-Value0}
use Rattle.lw_grammar.specs.declared.rule.Value0.TheOpen as value
use Rattle.lw_grammar.specs.declared.rule.Value0.TheOpen.{Value0-F}
use Rattle.lw_grammar.specs.declared.rule.Rule.{Rule}
use Rattle.lw_grammar.specs.declared.terminal.Terminal.{Terminal}
use Rattle.lw_grammar.specs.Kept.{KeepsPassingFrom}
use Rattle.lw_grammar.specs.Kept as keep
use Rattle.lw_grammar.specs.Kinds.{Kinds, AreKinds, IsKeywordKind, IsTerminalKind}
use Rattle.lw_grammar.specs.Kinds as kind
use Rattle.lw_grammar.specs.Leaves.{Leaf, leaves, keywords_of, keywords_in, ValueLeaf, value_leaves, literals_of}
use Rattle.lw_grammar.specs.Leaves as leaf
use Rattle.lw_grammar.specs.Named.{IsFirst, IsRule, IsTerminal}
use Rattle.lw_grammar.specs.NameRules.{IsNameRule}
use Rattle.lw_grammar.specs.Nodes.{MakesNodes}
use Rattle.lw_grammar.specs.Reached.{IsReached, RuleCalls}
use Rattle.lw_grammar.specs.Reached as reached
use Rattle.lw_grammar.proofs.FirstUses.{Contains-first_uses}
use Rattle.lw_grammar.proofs.LeafLemmas.{leaves_by, values_by}
use Rattle.lw_base.proofs.Lists.{there}
use Rattle.lw_grammar.specs.Marks.{Mark}
use Rattle.lw_grammar.specs.Yields.{Yields, Gives, YieldsAll, Calls, RuleGives, ValueYields, ValueGives}
use Rattle.lw_grammar.specs.Yields as y
use Rattle.lw_grammar.proofs.Every.{first_here, first_later}
use Rattle.lw_faults.specs.Derivations.{IsReachedRule}
use Rattle.lw_faults.specs.Reads.{MayRead, ReadsLayer, ReadsAll, CallReads, ValueReads, ValueReadsLayer}
use Rattle.lw_faults.specs.Reads as may
use Rattle.lw_look.specs.ReadBy.{PartKeyword, PartReadsBy}
use Rattle.lw_look.specs.ReadBy as by
use Rattle.lw_look.specs.Sites.{PartSite, body, ◌▸◌, rule_of, Part, Body, Value, element_parts, value_parts, inner_parts, IsPartAt, ElementAt, ValueAt}
use Rattle.lw_look.specs.Sites as site
use Rattle.lw_look.specs.Supplied.{LacksNothing, NodesAreTold, IsKnownCall, IsSupplied}
use Rattle.lw_look.proofs.Reaching.{in_rule, call_leaf, value_call_leaf}
use Rattle.lw_base.proofs.Lists.{place_of}
use Rattle.lw_look.proofs.Standing.{row_part_stands, way_stands}

-- ---- the kinds hold the keywords and the terminals of reached rules

in_flat : {X L : Type 0} (f : X → List L) (xs : List X) (x : X) (l : L) → Contains xs x → Contains (f x) l → Contains (flat_map f xs) l
in_flat f [] x l (i, inside, is) has = absurd (omega arith)
in_flat f (z ∷ xs) x l (zero, inside, is) has = Contains-append_left (f z) (flat_map f xs) l (subst (λ x. Contains (f x) l) (sym is) has)
in_flat f (z ∷ xs) x l (suc i, inside, is) has = Contains-append_right (f z) (flat_map f xs) l (in_flat f xs x l (i, omega arith, is) has)

one_on : (i j : ℕ) → i + suc j ≡ (i + 1) + j
one_on i j = omega arith

at_start : (i : ℕ) → i ≡ 0 + i
at_start i = omega arith

none_on : (i : ℕ) → i + 0 ≡ i
none_on i = omega arith

module _ {X : Type 0} (passes : ℕ → Type 0) where
  first_kept : {i : ℕ} {xs ys : List X} (j : ℕ) (x : X) → KeepsPassingFrom passes i xs ys → slice_get xs j ≡ Some x → passes (i + j) →
      ((l : ℕ) (z : X) → l < j → slice_get xs l ≡ Some z → z ≢ x) → (n : ℕ) × IsFirst (λ other. other ≡ x) ys n x
  first_kept j x keep.nothing at does none = absurd (none-some x at)
  first_kept zero x (keep.kept {x = z} {ys} pass rest) at does none =
      (0, subst (λ z. IsFirst (λ other. other ≡ x) (z ∷ ys) 0 x) (sym (same_Some z x at)) (first_here refl))
  first_kept {i} (suc j) x (keep.kept {x = z} pass rest) at does none =
      let (n, first) = first_kept j x rest at (subst passes (one_on i j) does) (λ l w below got. none (suc l) w (omega arith) got) in
      (suc n, first_later (none 0 z (omega arith) refl) first)
  first_kept {i} zero x (keep.left_out fails rest) at does none = absurd (fails (subst passes (none_on i) does))
  first_kept {i} (suc j) x (keep.left_out fails rest) at does none =
      first_kept j x rest at (subst passes (one_on i j) does) (λ l w below got. none (suc l) w (omega arith) got)

  kept_has : {i : ℕ} {xs ys : List X} (j : ℕ) (x : X) → KeepsPassingFrom passes i xs ys → slice_get xs j ≡ Some x → passes (i + j) → Contains ys x
  kept_has j x keep.nothing at does = absurd (none-some x at)
  kept_has zero x (keep.kept {x = z} pass rest) at does = (0, omega arith, same_Some z x at)
  kept_has {i} (suc j) x (keep.kept {x = z} {ys} pass rest) at does = there z ys x (kept_has j x rest at (subst passes (one_on i j) does))
  kept_has {i} zero x (keep.left_out fails rest) at does = absurd (fails (subst passes (none_on i) does))
  kept_has {i} (suc j) x (keep.left_out fails rest) at does = kept_has j x rest at (subst passes (one_on i j) does)

module _ (g : Grammar) (kinds : Kinds) (are : AreKinds g kinds) where
  keyword_there : (r : ℕ) (rule : Rule) (text : List ℕ) → IsReachedRule g r rule → Contains (keywords_in rule.body) text → (k : ℕ) × IsKeywordKind kinds text k
  keyword_there r rule text (from, at) has =
      place_of kinds.keywords text
      (subst (λ texts. Contains texts text) (sym are.keywords)
      (Contains-first_uses (flat_map (λ (rule : Rule). keywords_in rule.body) are.rules) text
      (in_flat (λ (rule : Rule). keywords_in rule.body) are.rules rule text (kept_has (IsReached g) r rule are.reached at (subst (IsReached g) (at_start r) from)) has)))

  leaf_there : (r : ℕ) (rule : Rule) (l : Leaf) (text : List ℕ) → IsReachedRule g r rule → Contains (leaves rule.body) l → Contains (keywords_of l) text →
      (k : ℕ) × IsKeywordKind kinds text k
  leaf_there r rule l text from has within = keyword_there r rule text from (in_flat keywords_of (leaves rule.body) l text has within)

  pub keyword_kind : (s : PartSite) (x : Part) (text : List ℕ) → IsReached g (rule_of s) → IsPartAt g s x → PartKeyword x text → (k : ℕ) × IsKeywordKind kinds text k
  keyword_kind s x text from at (by.element {e} {s = span} is) =
      let (rule, stands, within) = in_rule g at in
      leaf_there (rule_of s) rule (leaf.Keyword text span) text (from, stands)
      (within (leaf.Keyword text span) (subst (λ ls. Contains ls (leaf.Keyword text span)) (sym (leaves_by e (layer.Keyword text span) is)) (0, omega arith, refl)))
      (0, omega arith, refl)
  keyword_kind s x text from at (by.value_ {v} {s = span} is) =
      let (rule, stands, (p, op, w, t, has, within)) = in_rule g at in
      leaf_there (rule_of s) rule (leaf.Assign p op w t) text (from, stands) has
      (in_flat literals_of (value_leaves w) (leaf.Literal text span) text
      (within (leaf.Literal text span) (subst (λ ls. Contains ls (leaf.Literal text span)) (sym (values_by v (value.Keyword text span) is)) (0, omega arith, refl)))
      (0, omega arith, refl))

  pub terminal_kind : (r : ℕ) (rule : Rule) (name : List ℕ) (t : ℕ) (terminal : Terminal) → IsReachedRule g r rule → RuleCalls g rule name →
      IsTerminal g name t terminal → terminal.is_fragment ≡ false → (k : ℕ) × IsTerminalKind g kinds name k
  terminal_kind r rule name t terminal (from, at) does is plain =
      let (n, kept) = first_kept (kind.IsKindTerminal g) t terminal are.terminals is.first.there (subst (kind.IsKindTerminal g) (at_start t) (kind.called terminal name r rule is plain from at does))
      (λ l z below got same. is.first.none_before l z below got (ap (λ (t : Terminal). t.name) same ∙ is.first.does)) in
      (_, record { place = t; terminal = terminal; meant = is; number = n; kept = kept; behind = refl })

-- ---- what may read some tokens yields marks

module _ (g : Grammar) where
  -- what a part is read by, its rule calls
  pub part_calls : {s : PartSite} {x : Part} {name : List ℕ} → IsPartAt g s x → PartReadsBy g x name →
      (rule : Rule) × (slice_get g.rules (rule_of s) ≡ Some rule) × RuleCalls g rule name
  part_calls {s} at (by.element is) = call_leaf g (subst (ElementAt g s) is (site.element_at at))
  part_calls {s} at (by.value_ {v} is) = value_call_leaf g (site.calls (subst (ValueAt g s v) is (site.value_at at)))
  part_calls {s} at (by.crosses {v} is) = value_call_leaf g (site.crosses (subst (ValueAt g s v) is (site.value_at at)))
  part_calls {s} at (by.crosses_by_name {v} {name} is named) = value_call_leaf g (site.crosses_by_name name (subst (ValueAt g s v) is (site.value_at at)) named)

module _ (g : Grammar) (kinds : Kinds) (are : AreKinds g kinds) (decided : NodesAreTold g) (complete : LacksNothing g) where
  rule_gives : (r : ℕ) (rule : Rule) {m : List Mark} → slice_get g.rules r ≡ Some rule → Yields g kinds rule.body m → (n : List Mark) × RuleGives g kinds r rule n
  rule_gives r rule {m} there p = by rule.is_fragment refl
    where
      plain : (MakesNodes g rule ⊎ ¬ MakesNodes g rule) → rule.is_fragment ≡ false → (n : List Mark) × RuleGives g kinds r rule n
      plain (inl makes) is = (_, y.node is makes p)
      plain (inr makes_none) is = (_, y.data_type is makes_none p)

      by : (b : Bool) → rule.is_fragment ≡ b → (n : List Mark) × RuleGives g kinds r rule n
      by true is = (_, y.fragment is p)
      by false is = plain (decided r rule there) is

  layered : {e : Element} {f : Element-F Element} {m : List Mark} → out-Element e ≡ f → Gives g kinds f m → (m : List Mark) × Yields g kinds e m
  layered {m} is p = (m, y.yields (subst (λ f. Gives g kinds f m) (sym is) p))

  value_layered : {v c : Value0} {f : Value0-F Value0} {m : List Mark} → out-Value0 v ≡ f → ValueGives g kinds v f c m →
      (c : Value0) × (m : List Mark) × ValueYields g kinds v c m
  value_layered {v} {c} {m} is p = (c, m, y.reads (subst (λ f. ValueGives g kinds v f c m) (sym is) p))

  -- a part of a reached rule
  abbrev StandsIn : PartSite → Part → Type 0
  StandsIn s x = IsReached g (rule_of s) × IsPartAt g s x

  reaches : {s : PartSite} {x : Part} {name : List ℕ} {r : ℕ} {rule : Rule} → StandsIn s x → PartReadsBy g x name → IsRule g name r rule → IsReached g r
  reaches {name} {rule = called} (from, at) reads is = let (caller, there, does) = part_calls g at reads in reached.called caller called name from there does is

  token_call : {s : PartSite} {x : Part} {name : List ℕ} → StandsIn s x → PartReadsBy g x name →
      ((k : ℕ) × IsTerminalKind g kinds name k) ⊎ ((r : ℕ) × (rule : Rule) × IsRule g name r rule)
  token_call {s} {name} (from, at) reads =
      let (rule, there, does) = part_calls g at reads in
      by rule (from, there) does (complete.calls (rule_of s) rule name (from, there) does)
    where
      by : (rule : Rule) → IsReachedRule g (rule_of s) rule → RuleCalls g rule name → IsKnownCall g name →
          ((k : ℕ) × IsTerminalKind g kinds name k) ⊎ ((r : ℕ) × (rule : Rule) × IsRule g name r rule)
      by rule within does (inl (t, terminal, is, plain)) = inl (terminal_kind g kinds are (rule_of s) rule name t terminal within does is plain)
      by rule within does (inr found) = inr found

  by_token : {name : List ℕ} → ((r : ℕ) (rule : Rule) → ¬ IsRule g name r rule) → ((k : ℕ) × IsTerminalKind g kinds name k) ⊎ ((r : ℕ) × (rule : Rule) × IsRule g name r rule) →
      (m : List Mark) × Calls g kinds name m
  by_token none (inl (k, is)) = (_, y.terminal is)
  by_token none (inr (r, rule, is)) = absurd (none r rule is)

  cross_named : (s : PartSite) (v : Value0) (wanted : List ℕ) (span : Span) → IsReached g (rule_of s) → IsPartAt g s (Value v) → out-Value0 v ≡ value.Cross wanted None span →
      (name : List ℕ) × IsNameRule g wanted name
  cross_named s v wanted span from at is =
      let (rule, stands, (p, op, w, t, has, within)) = in_rule g at in
      complete.crosses (rule_of s) rule p op w t wanted span (from, stands) has
      (within (leaf.Cross wanted None span)
      (subst (λ ls. Contains ls (leaf.Cross wanted None span)) (sym (values_by v (value.Cross wanted None span) is)) (0, omega arith, refl)))

  mutual
    may_yield : {e : Element} {n : ℕ} → MayRead g e n → (s : PartSite) → StandsIn s (Body e) → (m : List Mark) × Yields g kinds e m
    may_yield {e} (may.reads p) s stands = layer_yields p e refl s stands

    layer_yields : {f : Element-F Element} {n : ℕ} → ReadsLayer g f n → (e : Element) → out-Element e ≡ f → (s : PartSite) → StandsIn s (Body e) →
        (m : List Mark) × Yields g kinds e m
    layer_yields (may.keyword {text}) e is s (from, at) = let (k, has) = keyword_kind g kinds are s (Body e) text from at (by.element is) in layered is (y.keyword has)
    layer_yields (may.called p) e is s stands = let (m, calls) = call_yields p s (Body e) stands (by.element is) in layered is (y.called calls)
    layer_yields (may.assigned {v} p) e is s (from, at) =
        let (c, m, read) = value_may_yield p (s ▸ 0) (from, site.part at (ap (λ f. slice_get (element_parts f) 0) is)) in layered is (y.assigned read)
    layer_yields may.acted e is s stands = layered is y.acted
    layer_yields (may.grouped {es} p) e is s (from, at) =
        let (m, all) = row_yields p (λ i f got. (s ▸ i, (from, row_part_stands g (subst (ElementAt g s) is (site.element_at at)) got))) in layered is (y.grouped all)
    layer_yields (may.chosen {es} {e = f} has p) e is s (from, at) =
        let (i, got) = place_of es f has in
        let (m, gives) = may_yield p (s ▸ i) (from, way_stands g (site.element (subst (ElementAt g s) is (site.element_at at)) got)) in
        layered is (y.chosen has gives)
    layer_yields may.skipped e is s stands = layered is y.skipped
    layer_yields (may.taken p) e is s stands = layered is y.skipped
    layer_yields (may.repeated p) e is s stands = layered is (y.repeated y.stop)
    layer_yields (may.repeated_once p q) e is s (from, at) =
        let (m, gives) = may_yield p (s ▸ 0) (from, site.part at (ap (λ f. slice_get (element_parts f) 0) is)) in layered is (y.repeated_once gives y.stop)

    row_yields : {es : List Element} {n : ℕ} → ReadsAll g es n → ((i : ℕ) (f : Element) → slice_get es i ≡ Some f → (s : PartSite) × StandsIn s (Body f)) →
        (m : List Mark) × YieldsAll g kinds es m
    row_yields may.none each = ([], y.none)
    row_yields (may.more {e} p q) each =
        let (s, stands) = each 0 e refl in
        let (m, first) = may_yield p s stands in
        let (n, others) = row_yields q (λ i f got. each (suc i) f got) in
        (m ++ n, y.more first others)

    call_yields : {name : List ℕ} {n : ℕ} → CallReads g name n → (s : PartSite) (x : Part) → StandsIn s x → PartReadsBy g x name → (m : List Mark) × Calls g kinds name m
    call_yields {name} (may.token none) s x stands reads = by_token none (token_call stands reads)
    call_yields (may.rule_ r rule is p) s x stands reads =
        let (m, gives) = may_yield p (body r) (reaches stands reads is, site.whole is.first.there) in
        let (n, given) = rule_gives r rule is.first.there gives in
        (n, y.rule_ r rule is given)

    value_may_yield : {v : Value0} {n : ℕ} → ValueReads g v n → (s : PartSite) → StandsIn s (Value v) → (c : Value0) × (m : List Mark) × ValueYields g kinds v c m
    value_may_yield {v} (may.value_reads p) s stands = value_layer_yields p v refl s stands

    value_layer_yields : {f : Value0-F Value0} {n : ℕ} → ValueReadsLayer g f n → (v : Value0) → out-Value0 v ≡ f → (s : PartSite) → StandsIn s (Value v) →
        (c : Value0) × (m : List Mark) × ValueYields g kinds v c m
    value_layer_yields (may.keyword_value {text}) v is s (from, at) =
        let (k, has) = keyword_kind g kinds are s (Value v) text from at (by.value_ is) in value_layered is (y.keyword_value has)
    value_layer_yields (may.call_value p) v is s stands = let (m, calls) = call_yields p s (Value v) stands (by.value_ is) in value_layered is (y.call_value calls)
    value_layer_yields (may.cross_value p) v is s stands = let (m, calls) = call_yields p s (Value v) stands (by.crosses is) in value_layered is (y.cross_value calls)
    value_layer_yields (may.cross_by_name name named p) v is s stands =
        let (m, calls) = call_yields p s (Value v) stands (by.crosses_by_name is named) in value_layered is (y.cross_by_name name named calls)
    value_layer_yields (may.cross_by_none {wanted} {s = span} none) v is s (from, at) =
        let (name, named) = cross_named s v wanted span from at is in absurd (none name named)
    value_layer_yields (may.chosen_value {vs} {v = w} has p) v is s (from, at) =
        let (i, got) = place_of vs w has in
        let (c, m, gives) = value_may_yield p (s ▸ i) (from, way_stands g (site.assigned (subst (ValueAt g s v) is (site.value_at at)) got)) in
        value_layered is (y.chosen_value has gives)

  call_gives : (s : PartSite) (x : Part) (name : List ℕ) → IsReached g (rule_of s) → IsPartAt g s x → PartReadsBy g x name → (m : List Mark) × Calls g kinds name m
  call_gives s x name from at reads = by (token_call (from, at) reads)
    where
      by : ((k : ℕ) × IsTerminalKind g kinds name k) ⊎ ((r : ℕ) × (rule : Rule) × IsRule g name r rule) → (m : List Mark) × Calls g kinds name m
      by (inl (k, is)) = (_, y.terminal is)
      by (inr (r, rule, is)) =
          let from' : IsReached g r = reaches (from, at) reads is in
          let (n, can) = complete.ends r rule (from', is.first.there) in
          let (m, gives) = may_yield can (body r) (from', site.whole is.first.there) in
          let (o, given) = rule_gives r rule is.first.there gives in
          (o, y.rule_ r rule is given)

  pub supplied : IsSupplied g kinds
  supplied = record {
    keyword = keyword_kind g kinds are;
    call = call_gives;
    cross = cross_named;
    choices = complete.choices;
  }
