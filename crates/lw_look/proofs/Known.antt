-- What a reached rule calls is known, where no fault of names and no bad call is found.
use Rattle.std.proofs.Common.{◌≡◌, ◌≢◌, ◌⊎◌, ◌<◌, ◌≤◌, inl, inr, ℕ, zero, suc, Bool, List, [], ◌∷◌, ◌++◌, map, None, true, false, Contains, bytes_eq, refl, sym, ap, ◌∙◌, subst, arith}
use Rattle.std.proofs.lemmas.Bool.{cases_lt}
use Rattle.std.proofs.lemmas.List.Elements.{Contains-append_cases}
use Rattle.lw_base.specs.declared.token.Span.{Span}
use Rattle.lw_grammar.specs.declared.fault.GrammarFault.{GrammarFault}
use Rattle.lw_grammar.specs.declared.grammar.Grammar.{Grammar}
use Rattle.lw_grammar.specs.declared.rule.Op.{Op}
use Rattle.lw_grammar.specs.declared.rule.Rule.{Rule}
use Rattle.lw_grammar.specs.declared.rule.Value0.{Value0, out-Value0}
use Rattle.lw_grammar.specs.declared.rule.Value0.TheOpen as value
use Rattle.lw_grammar.specs.declared.rule.Value0.TheOpen.{Value0-F}
use Rattle.lw_grammar.specs.declared.terminal.Terminal.{Terminal}
use Rattle.lw_grammar.specs.Leaves.{Leaf, Keyword, Call, Assign, Act, leaves, value_leaves, Calls, IsFragmentCall, Expands}
use Rattle.lw_grammar.specs.Leaves as expand
use Rattle.lw_grammar.specs.NameRules.{IsCallOf, Names, FirstNames, IsNameRule}
use Rattle.lw_grammar.specs.NameRules as name
use Rattle.lw_grammar.specs.Named.{IsFirst, IsRule, IsTerminal, Declaration, StandsBefore, declared_rule, declared_terminal}
use Rattle.lw_grammar.specs.Reached.{RuleCalls}
use Rattle.lw_grammar.specs.Reached as reached
use Rattle.lw_grammar.proofs.FirstUses.{same_text}
use Rattle.lw_base.proofs.Lists.{there}
use Rattle.lw_grammar.proofs.LeafLemmas.{values_by}
use Rattle.lw_grammar.proofs.Every.{differ, first_here, first_later}
use Rattle.lw_faults.specs.BadCalls.{BadCall}
use Rattle.lw_faults.specs.BadCalls as bad
use Rattle.lw_faults.specs.Derivations.{IsReachedRule, never_ends}
use Rattle.lw_faults.specs.Faults.{IsTypeFault, IsCheckFault, HasNoCircle}
use Rattle.lw_faults.specs.Faults as list
use Rattle.lw_faults.specs.Reads.{MayRead}
use Rattle.lw_faults.specs.Names.{Duplicate, UnknownRule}
use Rattle.lw_faults.specs.Names as fault
use Rattle.lw_grammar.specs.Written.{WritesCall, IsNoRule}
use Rattle.lw_grammar.specs.Written as written
use Rattle.lw_look.specs.Supplied.{IsKnownCall, ChoicesHaveParts, LacksNothing, ReadingIsTold}
use Rattle.lw_look.proofs.Apart.{each}
use Rattle.lw_base.proofs.Lists.{among}

-- ---- a name that is declared once means what is declared

abbrev FirstOrNone : {X : Type 0} → (X → List ℕ) → List ℕ → List X → Type 0
FirstOrNone {X} name_of name xs = ((i : ℕ) × (x : X) × IsFirst (λ y. name_of y ≡ name) xs i x) ⊎ ((y : X) → Contains xs y → name_of y ≢ name)

first_or_none : {X : Type 0} (name_of : X → List ℕ) (name : List ℕ) (xs : List X) → FirstOrNone name_of name xs
first_or_none name_of name [] = inr (λ y has. absurd (nothing has))
  where
    nothing : {X : Type 0} {y : X} → Contains [] y → ⊥
    nothing (i, inside, is) = omega arith
first_or_none {X} name_of name (x ∷ xs) = by (first_or_none name_of name xs) (bytes_eq (name_of x) name) refl
  where
    none : name_of x ≢ name → ((y : X) → Contains xs y → name_of y ≢ name) → (y : X) → Contains (x ∷ xs) y → name_of y ≢ name
    none apart others y (zero, inside, is) = subst (λ y. name_of y ≢ name) is apart
    none apart others y (suc i, inside, is) = others y (i, omega arith, is)

    by : FirstOrNone name_of name xs → (b : Bool) → bytes_eq (name_of x) name ≡ b → FirstOrNone name_of name (x ∷ xs)
    by rest true is = inl (0, x, first_here (same_text (name_of x) name is))
    by (inl (i, y, first)) false is = inl (suc i, y, first_later (differ (name_of x) name is) first)
    by (inr others) false is = inr (none (differ (name_of x) name is) others)

abbrev IsSamePlace : Declaration → Declaration → Type 0
IsSamePlace one other = (one.file ≡ other.file) × (one.span.start ≡ other.span.start)

order : (one other : Declaration) → StandsBefore one other ⊎ (StandsBefore other one ⊎ IsSamePlace one other)
order one other = files (cases_lt one.file other.file) (cases_lt other.file one.file)
  where
    places : one.file ≡ other.file → (one.span.start < other.span.start) ⊎ (other.span.start ≤ one.span.start) →
        (other.span.start < one.span.start) ⊎ (one.span.start ≤ other.span.start) → StandsBefore one other ⊎ (StandsBefore other one ⊎ IsSamePlace one other)
    places same (inl below) q = inl (inr (same, below))
    places same (inr least) (inl below) = inr (inl (inr (sym same, below)))
    places same (inr least) (inr most) = inr (inr (same, omega (arith, least, most)))

    files : (one.file < other.file) ⊎ (other.file ≤ one.file) → (other.file < one.file) ⊎ (one.file ≤ other.file) →
        StandsBefore one other ⊎ (StandsBefore other one ⊎ IsSamePlace one other)
    files (inl below) q = inl (inl below)
    files (inr least) (inl below) = inr (inl (inl below))
    files (inr least) (inr most) =
        places (omega (arith, least, most)) (cases_lt one.span.start other.span.start) (cases_lt other.span.start one.span.start)

-- of two declarations at most one stands before the other
one_way : (one other : Declaration) → StandsBefore one other → ¬ StandsBefore other one
one_way one other (inl low) (inl high) = omega (arith, low, high)
one_way one other (inl low) (inr (same, start)) = omega (arith, low, same)
one_way one other (inr (same, start)) (inl high) = omega (arith, same, high)
one_way one other (inr (same, start)) (inr (also, end)) = omega (arith, start, end)

never_at_one_place : (one other : Declaration) → IsSamePlace one other → ¬ StandsBefore one other
never_at_one_place one other (file, start) (inl below) = omega (arith, file, below)
never_at_one_place one other (file, start) (inr (same, below)) = omega (arith, start, below)

module _ (g : Grammar) where
  abbrev IsNamed : List ℕ → Type 0
  IsNamed called = ((r : ℕ) × (rule : Rule) × IsRule g called r rule) ⊎ ((t : ℕ) × (terminal : Terminal) × IsTerminal g called t terminal)

  module _ (no_duplicate : (file : ℕ) (s : Span) (called : List ℕ) → ¬ Duplicate g file s called) where
    never_both : (rule : Rule) (terminal : Terminal) → Contains g.rules rule → Contains g.terminals terminal → rule.name ≡ terminal.name → ⊥
    never_both rule terminal has_rule has_terminal same = by (order (declared_rule rule) (declared_terminal terminal))
      where
        rule_again : ¬ StandsBefore (declared_rule rule) (declared_terminal terminal) → ⊥
        rule_again behind = no_duplicate _ _ _ (fault.declared (fault.rule_ (fault.across rule terminal has_rule has_terminal (sym same) behind)))

        terminal_again : ¬ StandsBefore (declared_terminal terminal) (declared_rule rule) → ⊥
        terminal_again behind = no_duplicate _ _ _ (fault.declared (fault.terminal_ (fault.across terminal rule has_terminal has_rule same behind)))

        by : StandsBefore (declared_rule rule) (declared_terminal terminal)
            ⊎ (StandsBefore (declared_terminal terminal) (declared_rule rule) ⊎ IsSamePlace (declared_rule rule) (declared_terminal terminal)) → ⊥
        by (inl before) = terminal_again (one_way (declared_rule rule) (declared_terminal terminal) before)
        by (inr (inl before)) = rule_again (one_way (declared_terminal terminal) (declared_rule rule) before)
        by (inr (inr place)) = rule_again (never_at_one_place (declared_rule rule) (declared_terminal terminal) place)

    is_named : (called : List ℕ) → ¬ IsNoRule g called → IsNamed called
    is_named called declared = by (first_or_none (λ (rule : Rule). rule.name) called g.rules) (first_or_none (λ (terminal : Terminal). terminal.name) called g.terminals)
      where
        by : FirstOrNone (λ (rule : Rule). rule.name) called g.rules → FirstOrNone (λ (terminal : Terminal). terminal.name) called g.terminals → IsNamed called
        by (inl (r, rule, is)) (inl (t, terminal, was)) =
            absurd (never_both rule terminal (among g.rules r rule is.there) (among g.terminals t terminal was.there) (is.does ∙ sym was.does))
        by (inl (r, rule, is)) (inr none) = inl (r, rule, record { first = is; sooner = λ other has same. absurd (none other has same) })
        by (inr none) (inl (t, terminal, was)) = inr (t, terminal, record { first = was; sooner = λ other has same. absurd (none other has same) })
        by (inr no_rule) (inr no_terminal) =
            absurd (declared (each (λ (rule : Rule). rule.name ≢ called) g.rules no_rule, each (λ (terminal : Terminal). terminal.name ≢ called) g.terminals no_terminal))

  -- ---- what a rule calls is written somewhere

  record IsWritten (called : List ℕ) : Type 0 where
    writer : Rule
    among_rules : Contains g.rules writer
    place : Span
    writes : WritesCall writer place called

  record Comes (l : Leaf) : Type 0 where
    writer : Rule
    among_rules : Contains g.rules writer
    has : Contains (leaves writer.body) l

  fragment_there : (leaf : Leaf) (r : ℕ) (rule : Rule) → IsFragmentCall g leaf r rule → Contains g.rules rule
  fragment_there (Call called s) r rule is = among g.rules r rule is.0.first.there
  fragment_there (Keyword t s) r rule is = absurd is
  fragment_there (Assign p op v s) r rule is = absurd is
  fragment_there (Act a) r rule is = absurd is

  -- leaves that are put in come from the body of some rule
  expanded : {entered : List ℕ} {ls all : List Leaf} → Expands g entered ls all → ((l : Leaf) → Contains ls l → Comes l) → (l : Leaf) → Contains all l → Comes l
  expanded expand.nothing from l has = from l has
  expanded (expand.kept {leaf} {ls} none rest) from l (zero, inside, is) = from l (0, omega arith, is)
  expanded (expand.kept {leaf} {ls} none rest) from l (suc i, inside, is) = expanded rest (λ l has. from l (there leaf ls l has)) l (i, omega arith, is)
  expanded (expand.put_in {leaf} {ls} {inside} {all} r rule is out within rest) from l has =
      elim (Contains-append_cases inside all l has) [
        | inl first ↦ expanded within (λ l has. record { writer = rule; among_rules = fragment_there leaf r rule is; has = has }) l first
        | inr behind ↦ expanded rest (λ l has. from l (there leaf ls l has)) l behind
      ]
  expanded (expand.looped {leaf} {ls} r rule is within rest) from l has = expanded rest (λ l has. from l (there leaf ls l has)) l has

  record Naming (ls : List Leaf) (called : List ℕ) : Type 0 where
    property : List ℕ
    op : Op
    v : Value0
    place : Span
    has : Contains ls (Assign property op v place)
    calls : IsCallOf (out-Value0 v) called

  leaf_names : (leaf : Leaf) (ls : List Leaf) (called : List ℕ) → Names leaf called → Naming (leaf ∷ ls) called
  leaf_names (Assign p op v s) ls called is = record { property = p; op = op; v = v; place = s; has = (0, omega arith, refl); calls = is.2 }
  leaf_names (Call t s) ls called is = absurd is
  leaf_names (Keyword t s) ls called is = absurd is
  leaf_names (Act a) ls called is = absurd is

  first_naming : {ls : List Leaf} {called : List ℕ} → FirstNames ls called → Naming ls called
  first_naming (name.here {leaf} {ls} {called} is) = leaf_names leaf ls called is
  first_naming (name.later {leaf} {ls} none rest) =
      let found = first_naming rest in
      record {
        property = found.property;
        op = found.op;
        v = found.v;
        place = found.place;
        has = there leaf ls (Assign found.property found.op found.v found.place) found.has;
        calls = found.calls;
      }

  value_calls : (v : Value0) (f : Value0-F Value0) (called : List ℕ) → out-Value0 v ≡ f → IsCallOf f called → (s : Span) × Contains (value_leaves v) (Calls called s)
  value_calls v (value.Call written s) called is same = (
    s,
    subst (λ name. Contains (value_leaves v) (Calls name s)) (sym same)
        (subst (λ ls. Contains ls (Calls written s)) (sym (values_by v (value.Call written s) is)) (0, omega arith, refl)),
  )
  value_calls v (value.Keyword t s) called is same = absurd same
  value_calls v (value.Cross t r s) called is same = absurd same
  value_calls v (value.Choice vs s) called is same = absurd same

  name_written : (wanted called : List ℕ) → IsNameRule g wanted called → IsWritten called
  name_written wanted called is =
      let (own, has, below, all, expands, names) = is.names in
      let found = first_naming names in
      let own_leaf : (l : Leaf) → Contains (leaves is.rule.body) l → Comes l = λ l has. record { writer = is.rule; among_rules = among g.rules is.number is.rule is.first.there; has = has } in
      let from = expanded expands own_leaf (Assign found.property found.op found.v found.place) found.has in
      let (s, calls) = value_calls found.v (out-Value0 found.v) called refl found.calls in
      record { writer = from.writer; among_rules = from.among_rules; place = s; writes = written.assigned found.property found.op found.v found.place from.has calls }

  call_written : (rule : Rule) (called : List ℕ) → Contains g.rules rule → RuleCalls g rule called → IsWritten called
  call_written rule called there (reached.calls s has) = record { writer = rule; among_rules = there; place = s; writes = written.plain has }
  call_written rule called there (reached.assigns p op v s has (reached.calls t within)) =
      record { writer = rule; among_rules = there; place = t; writes = written.assigned p op v s has within }
  call_written rule called there (reached.assigns p op v s has (reached.crosses wanted t within)) =
      record { writer = rule; among_rules = there; place = t; writes = written.crossed p op v s wanted has within }
  call_written rule called there (reached.assigns p op v s has (reached.crosses_by_name wanted t within is)) = name_written wanted called is

  pub known_call : ((file : ℕ) (s : Span) (called : List ℕ) → ¬ Duplicate g file s called) → ((file : ℕ) (s : Span) (called : List ℕ) → ¬ UnknownRule g file s called) →
      ((file : ℕ) (s : Span) (called : List ℕ) → ¬ BadCall g file s called) → (r : ℕ) (rule : Rule) (called : List ℕ) → IsReachedRule g r rule →
      RuleCalls g rule called → IsKnownCall g called
  known_call no_duplicate no_unknown no_bad r rule called (from, at) does =
      let w = call_written rule called (among g.rules r rule at) does in
      by w (is_named no_duplicate called (λ none. no_unknown w.writer.file w.place called (fault.in_rule w.writer w.among_rules w.writes none)))
    where
      by : IsWritten called → IsNamed called → IsKnownCall g called
      by w (inl found) = inr found
      by w (inr (t, terminal, is)) = inl (t, terminal, is, plain terminal.is_fragment refl)
        where
          plain : (b : Bool) → terminal.is_fragment ≡ b → terminal.is_fragment ≡ false
          plain false same = same
          plain true same = absurd (no_bad w.writer.file w.place called (bad.hidden w.writer t terminal w.among_rules w.writes is (inr same)))

-- ---- a grammar without faults lacks nothing

module _ (g : Grammar) (no_type_fault : (f : GrammarFault) → ¬ IsTypeFault g f) (no_check_fault : (f : GrammarFault) → ¬ IsCheckFault g f) where
  pub calls_known : (r : ℕ) (rule : Rule) (called : List ℕ) → IsReachedRule g r rule → RuleCalls g rule called → IsKnownCall g called
  calls_known =
      known_call g (λ file s called is. no_type_fault (list.fault 4 file s called) (list.duplicate is)) (λ file s called is. no_type_fault (list.fault 5 file s called) (list.unknown_rule is))
      (λ file s called is. no_check_fault (list.fault 21 file s called) (list.bad_call is))

  module _ (told : ReadingIsTold g) where
    body_ends : (r : ℕ) (rule : Rule) → IsReachedRule g r rule → (n : ℕ) × MayRead g rule.body n
    body_ends r rule (from, at) = by (told.bodies r rule at)
      where
        no_circle : HasNoCircle g
        no_circle file s called is = no_check_fault (list.fault 20 file s called) (list.circular_call is)

        by : ((n : ℕ) × MayRead g rule.body n) ⊎ ((n : ℕ) → ¬ MayRead g rule.body n) → (n : ℕ) × MayRead g rule.body n
        by (inl can) = can
        by (inr none) = absurd (no_check_fault (list.fault 10 rule.file rule.span rule.name) (list.never_ends no_circle (never_ends r rule (from, at) none)))

    cross_named : (r : ℕ) (rule : Rule) (p : List ℕ) (op : Op) (v : Value0) (t : Span) (wanted : List ℕ) (s : Span) → IsReachedRule g r rule →
        Contains (leaves rule.body) (Assign p op v t) → Contains (value_leaves v) (expand.Cross wanted None s) → (called : List ℕ) × IsNameRule g wanted called
    cross_named r rule p op v t wanted s (from, at) has within = by (told.names wanted)
      where
        by : ((called : List ℕ) × IsNameRule g wanted called) ⊎ ((called : List ℕ) → ¬ IsNameRule g wanted called) → (called : List ℕ) × IsNameRule g wanted called
        by (inl named) = named
        by (inr none) =
            absurd (no_type_fault (list.fault 18 rule.file s wanted) (list.no_name_rule (fault.nameless rule p op v t (among g.rules r rule at) has within (λ called is. absurd (none called is)))))

    pub lacks_nothing : ChoicesHaveParts g → LacksNothing g
    lacks_nothing choices = record { calls = calls_known; crosses = cross_named; ends = body_ends; choices = choices }
