-- Names that are declared twice, or mean nothing, and those beside them.
use Rattle.std.proofs.Common.{◌≡◌, ◌≢◌, ◌<◌, ℕ, zero, suc, List, [], ◌∷◌, Some, slice_get, false, codes, Contains, inl, inr, lit<, refl, sym, ap, ◌∙◌, subst, arith, true≢false}
use Rattle.std.proofs.lemmas.Option.{none-some, same_Some}
use Rattle.std.proofs.lemmas.List.Elements.{All-nil, All-cons, All-contains}
use Rattle.lw_base.specs.declared.token.Span.{Span}
use Rattle.lw_grammar.specs.declared.grammar.Grammar.{Grammar}
use Rattle.lw_grammar.specs.declared.rule.Rule.{Rule}
use Rattle.lw_grammar.specs.declared.rule.RuleResult.TheVariants.{Own, Returns, Infers}
use Rattle.lw_grammar.specs.declared.rule.Op.{Op}
use Rattle.lw_grammar.specs.declared.rule.Op.TheVariants.{One}
use Rattle.lw_grammar.specs.declared.rule.Value0.{Value0}
use Rattle.lw_grammar.specs.declared.rule.Value0.TheVariants as value
use Rattle.lw_grammar.specs.declared.rule.Element.TheVariants.{Act}
use Rattle.lw_grammar.specs.declared.terminal.Terminal.{Terminal}
use Rattle.lw_grammar.specs.declared.declared_types.Interface.{Interface}
use Rattle.lw_grammar.specs.Leaves as leaf
use Rattle.lw_grammar.specs.Leaves.{Leaf, leaves, ValueLeaf, Calls, Cross, value_leaves}
use Rattle.lw_grammar.specs.Named.{Declaration, StandsBefore, declared_rule, declared_terminal, declared_interface, declared_union}
use Rattle.lw_grammar.proofs.LeafLemmas.{leaves-Act, leaves-Assign, values-Call, values-Cross}
use Rattle.lw_grammar.specs.Written.{WritesCall, IsNoRule, HasDeclaration, InfersHere, NamesType, IsKnownType, term_calls}
use Rattle.lw_grammar.specs.Written as written
use Rattle.lw_faults.specs.Names.{IsDeclaredAgain, IsSecondDeclaration, Duplicate, UnknownRule, UnknownType}
use Rattle.lw_faults.specs.Names as names
use Rattle.lw_faults.specs.Worked.{StandsAlone, StandsNowhere, place, no_place, entry_rule, plain_rule, terminal_id, interface_of, x_id, y_id, alone, x_value, a_entry, behind_a, beside_interface, makes_declared}
use Rattle.lw_grammar.proofs.Every.{Every, every_of, differ}
use Rattle.lw_faults.proofs.AloneLemmas.{none_there, the_rule}
use Rattle.lw_faults.proofs.AssignLemmas.{writes, leaf_there, part_there, IsCallHere}
use Rattle.lw_grammar.proofs.TermLemmas.{call_equations}

-- ---- a name that is declared twice

-- ---- lists in which nothing is declared again

module _ {X Y : Type 0} (declared_by : X → Declaration) (other_by : Y → Declaration) (others : List Y) where
  -- of no item
  pub none_again : {again : Declaration} → ¬ IsDeclaredAgain declared_by other_by [] others again
  none_again (names.in_list i j first second below at_i at_j same) = none-some first at_i
  none_again (names.across second other has there same not) = absurd (none_there second has)

  -- of one item, whose name no other list has
  pub one_again : (x : X) → Every (λ y. (other_by y).name ≢ (declared_by x).name) others → {again : Declaration} →
      ¬ IsDeclaredAgain declared_by other_by (x ∷ []) others again
  one_again x apart (names.in_list i zero first second below at_i at_j same) = omega (arith, below)
  one_again x apart (names.in_list i (suc j) first second below at_i at_j same) = none-some second at_j
  one_again x apart (names.across second other has there same not) = absurd (every_of Differs others other differs there same)
    where
      Differs : Y → Type 0
      Differs y = (other_by y).name ≢ (declared_by second).name

      differs : Every Differs others
      differs = subst (λ z. Every (λ y. (other_by y).name ≢ (declared_by z).name) others) (every_of (λ z. x ≡ z) (x ∷ []) second (refl, tt) has) apart

apart : {P : Type 0} (a b : List ℕ) → a ≢ b → a ≡ b → P
apart a b differs same = absurd (differs same)

module _ (s : Span) (name : List ℕ) where
  abbrev G : Grammar
  G = behind_a s name

  abbrev second : Rule
  second = plain_rule name s y_id

  abbrev IsSecond : Declaration → Type 0
  IsSecond x = (name ≡ codes "A") × (x.file ≡ 0) × (x.span ≡ s) × (x.name ≡ name)

  two_rules : (i j : ℕ) (first other : Rule) → i < j → slice_get G.rules i ≡ Some first → slice_get G.rules j ≡ Some other → first.name ≡ other.name →
      IsSecond (declared_rule other)
  two_rules i zero first other below at_i at_j same = absurd (omega (arith, below))
  two_rules zero (suc zero) first other below at_i at_j same = (
    ap (λ (x : Rule). x.name) is_second ∙ sym same ∙ sym (ap (λ (x : Rule). x.name) is_first),
    sym (ap (λ (x : Rule). x.file) is_second),
    sym (ap (λ (x : Rule). x.span) is_second),
    sym (ap (λ (x : Rule). x.name) is_second),
  )
    where
      is_first : a_entry ≡ first
      is_first = same_Some a_entry first at_i

      is_second : second ≡ other
      is_second = same_Some second other at_j
  two_rules (suc i) (suc zero) first other below at_i at_j same = absurd (omega (arith, below))
  two_rules i (suc (suc j)) first other below at_i at_j same = absurd (none-some other at_j)

  only_again : name ≢ codes "ID" → {again : Declaration} → IsSecondDeclaration G again → IsSecond again
  only_again no_id (names.rule_ (names.in_list i j first other below at_i at_j same)) = two_rules i j first other below at_i at_j same
  only_again no_id (names.rule_ (names.across rule other has there same not)) =
      absurd (every_of (λ (x : Rule). x.name ≢ codes "ID") G.rules rule (differ _ _ refl, (no_id, tt)) has (sym same ∙ sym is_id))
    where
      is_id : codes "ID" ≡ other.name
      is_id = ap (λ (x : Terminal). x.name) (every_of (λ x. terminal_id ≡ x) G.terminals other (refl, tt) there)
  only_again no_id (names.terminal_ is) =
      absurd (one_again declared_terminal declared_rule G.rules terminal_id (differ _ _ refl, (no_id, tt)) is)
  only_again no_id (names.interface_ is) = absurd (none_again declared_interface declared_union G.unions is)
  only_again no_id (names.union_ is) = absurd (none_again declared_union declared_interface G.interfaces is)

  only_second : name ≢ codes "ID" → (f : ℕ) (t : Span) (n : List ℕ) → Duplicate G f t n → (name ≡ codes "A") × (f ≡ 0) × (t ≡ s) × (n ≡ name)
  only_second no_id f t n (names.declared is) = only_again no_id is
  only_second no_id f t n (names.inferred _ (inl (k, interface, inside, _, _))) = absurd (omega (arith, inside))
  only_second no_id f t n (names.inferred _ (inr (k, union, inside, _, _))) = absurd (omega (arith, inside))
  only_second no_id f t n (names.attribute interface i j first other has _ _ _ _) = absurd (none_there interface has)

pub rule : (s : Span) → StandsAlone (Duplicate (behind_a s (codes "A"))) 0 s (codes "A")
rule s = (
  names.declared (names.rule_ (names.in_list 0 1 a_entry (second s (codes "A")) (lit< tt) refl refl refl)),
  λ f t n is. let found = only_second s (codes "A") (differ _ _ refl) f t n is in (found.1, found.2, found.3),
)

pub other_rule : (s : Span) → StandsNowhere (Duplicate (behind_a s (codes "B")))
other_rule s f t n is = differ (codes "B") (codes "A") refl (only_second s (codes "B") (differ _ _ refl) f t n is).0

-- ---- a type that is inferred and declared

module _ (name : List ℕ) where
  abbrev H : Grammar
  H = beside_interface name

  abbrev A : Rule
  A = entry_rule (codes "A") (place 31 32) x_id

  is_a : (rule : Rule) → Contains H.rules rule → A ≡ rule
  is_a rule has = every_of (λ x. A ≡ x) (A ∷ []) rule (refl, tt) has

  x_leaf : (rule : Rule) (l : Leaf) → Contains H.rules rule → Contains (leaves rule.body) l → leaf.Assign (codes "x") One (value.Call (codes "ID") no_place) no_place ≡ l
  x_leaf rule l has there =
      every_of (λ x. leaf.Assign (codes "x") One (value.Call (codes "ID") no_place) no_place ≡ x) (leaf.Assign (codes "x") One (value.Call (codes "ID") no_place) no_place ∷ []) l
      (refl, tt) (subst (λ ls. Contains ls l) (leaves-Assign (codes "x") One (value.Call (codes "ID") no_place) no_place)
      (subst (λ (x : Rule). Contains (leaves x.body) l) (sym (is_a rule has)) there))

  infers_a : (f : ℕ) (t : Span) (n : List ℕ) → InfersHere H f t n → (f ≡ 0) × (t ≡ place 31 32) × (n ≡ codes "A")
  infers_a f t n (written.own rule has _ _) =
      (sym (ap (λ (x : Rule). x.file) (is_a rule has)), sym (ap (λ (x : Rule). x.span) (is_a rule has)), sym (ap (λ (x : Rule). x.name) (is_a rule has)))
  infers_a f t n (written.infers rule has _ is) = absurd (other (ap (λ (x : Rule). x.result) (is_a rule has) ∙ is))
    where
      other : Own ≡ Infers n t → ⊥
      other same = cc
  infers_a f t n (written.acted rule a has there _) = absurd (other (x_leaf rule (leaf.Act a) has there))
    where
      other : leaf.Assign (codes "x") One (value.Call (codes "ID") no_place) no_place ≡ leaf.Act a → ⊥
      other same = cc

  nothing_again : {again : Declaration} → ¬ IsSecondDeclaration H again
  nothing_again (names.rule_ is) = one_again declared_rule declared_terminal H.terminals A (differ _ _ refl, tt) is
  nothing_again (names.terminal_ is) = one_again declared_terminal declared_rule H.rules terminal_id (differ _ _ refl, tt) is
  nothing_again (names.interface_ is) = one_again declared_interface declared_union H.unions (interface_of name [] []) tt is
  nothing_again (names.union_ is) = none_again declared_union declared_interface H.interfaces is

  only_inferred : (f : ℕ) (t : Span) (n : List ℕ) → Duplicate H f t n → ((f ≡ 0) × (t ≡ place 31 32) × (n ≡ codes "A")) × (name ≡ codes "A")
  only_inferred f t n (names.declared is) = absurd (nothing_again is)
  only_inferred f t n (names.inferred here declared) = (infers_a f t n here, declares declared)
    where
      declares : HasDeclaration H n → name ≡ codes "A"
      declares (inl (k, interface, inside, at, is)) =
          every_of (λ (x : Interface). x.name ≡ n → name ≡ codes "A") H.interfaces interface (λ same. same ∙ (infers_a f t n here).2, tt) (k, inside, at) is
      declares (inr (k, union, inside, _, _)) = absurd (omega (arith, inside))
  only_inferred f t n (names.attribute interface i j first other has _ at _ _) =
      absurd (none-some first (subst (λ (x : Interface). slice_get x.attributes i ≡ Some first) (sym (every_of (λ x. interface_of name [] [] ≡ x) H.interfaces interface (refl, tt) has)) at))

pub inferred : StandsAlone (Duplicate (beside_interface (codes "A"))) 0 (place 31 32) (codes "A")
inferred = (
  names.inferred (written.own (A (codes "A")) (0, omega arith, refl) refl refl) (inl (0, interface_of (codes "A") [] [], omega arith, refl, refl)),
  λ f t n is. (only_inferred (codes "A") f t n is).0,
)

pub other_type : StandsNowhere (Duplicate (beside_interface (codes "B")))
other_type f t n is = differ (codes "B") (codes "A") refl (only_inferred (codes "B") f t n is).1

-- ---- a call

module _ (v : Value0) (l : ValueLeaf) (parts : value_leaves v ≡ l ∷ []) where
  abbrev K : Grammar
  K = alone (x_value v)

  abbrev R : Rule
  R = the_rule (x_value v)

  only_call : (f : ℕ) (t : Span) (n : List ℕ) → UnknownRule K f t n → (f ≡ 0) × IsCallHere R (codes "x") One v no_place l refl parts l t n × IsNoRule K n
  only_call f t n (names.in_rule rule has wrote none) =
      let same : R ≡ rule = every_of (λ x. R ≡ x) (R ∷ []) rule (refl, tt) has in
      (sym (ap (λ (x : Rule). x.file) same), writes R (codes "x") One v no_place l refl parts t n (subst (λ (x : Rule). WritesCall x t n) (sym same) wrote), none)
  only_call f t n (names.in_terminal terminal has called _) =
      let its_calls : term_calls terminal.body ≡ [] = every_of (λ (x : Terminal). term_calls x.body ≡ []) K.terminals terminal (simp call_equations, tt) has in
      absurd (none_there (n, t) (subst (λ ls. Contains ls (n, t)) its_calls called))

  b_unknown : IsNoRule K (codes "B")
  b_unknown = (
    All-cons (λ (x : Rule). x.name ≢ codes "B") R [] (differ _ _ refl) (All-nil (λ (x : Rule). x.name ≢ codes "B")),
    All-cons (λ (x : Terminal). x.name ≢ codes "B") terminal_id [] (differ _ _ refl) (All-nil (λ (x : Terminal). x.name ≢ codes "B")),
  )

  assigned_here : Contains (leaves R.body) (leaf.Assign (codes "x") One v no_place)
  assigned_here = leaf_there R (codes "x") One v no_place l refl parts

  part_here : Contains (value_leaves v) l
  part_here = part_there R (codes "x") One v no_place l refl parts l refl

abbrev calls_b : Value0
calls_b = value.Call (codes "B") (place 21 22)

pub value_found : StandsAlone (UnknownRule (alone (x_value calls_b))) 0 (place 21 22) (codes "B")
value_found = (
  names.in_rule (R calls_b (Calls (codes "B") (place 21 22)) parts) (0, omega arith, refl)
      (written.assigned (codes "x") One calls_b no_place (assigned_here calls_b _ parts) (part_here calls_b _ parts)) (b_unknown calls_b _ parts),
  λ f t n is. let found = only_call calls_b (Calls (codes "B") (place 21 22)) parts f t n is in (found.0, found.1.0, found.1.1),
)
  where
    parts : value_leaves calls_b ≡ Calls (codes "B") (place 21 22) ∷ []
    parts = values-Call (codes "B") (place 21 22)

abbrev crosses_b : Value0
crosses_b = value.Cross (codes "A") (Some (codes "B")) (place 21 26)

pub crossed : StandsAlone (UnknownRule (alone (x_value crosses_b))) 0 (place 21 26) (codes "B")
crossed = (
  names.in_rule (R crosses_b (Cross (codes "A") (Some (codes "B")) (place 21 26)) parts) (0, omega arith, refl)
      (written.crossed (codes "x") One crosses_b no_place (codes "A") (assigned_here crosses_b _ parts) (part_here crosses_b _ parts)) (b_unknown crosses_b _ parts),
  λ f t n is. let found = only_call crosses_b (Cross (codes "A") (Some (codes "B")) (place 21 26)) parts f t n is in (found.0, found.1.0, found.1.1),
)
  where
    parts : value_leaves crosses_b ≡ Cross (codes "A") (Some (codes "B")) (place 21 26) ∷ []
    parts = values-Cross (codes "A") (Some (codes "B")) (place 21 26)

pub terminal : StandsNowhere (UnknownRule (alone x_id))
terminal f t n is =
    let found = only_call (value.Call (codes "ID") no_place) (Calls (codes "ID") no_place) (values-Call (codes "ID") no_place) f t n is in
    All-contains (λ (x : Terminal). x.name ≢ n) (terminal_id ∷ []) terminal_id found.2.1 (0, omega arith, refl) (sym found.1.1)

-- ---- a type

module _ (name : List ℕ) (s : Span) where
  abbrev action_leaf : Leaf
  action_leaf = leaf.Act (makes_declared name s)

  abbrev N : Grammar
  N = alone (Act (makes_declared name s))

  abbrev D : Rule
  D = the_rule (Act (makes_declared name s))

  is_d : (rule : Rule) → Contains N.rules rule → D ≡ rule
  is_d rule has = every_of (λ x. D ≡ x) (D ∷ []) rule (refl, tt) has

  d_leaf : (rule : Rule) (l : Leaf) → Contains N.rules rule → Contains (leaves rule.body) l → action_leaf ≡ l
  d_leaf rule l has there =
      every_of (λ x. action_leaf ≡ x) (action_leaf ∷ []) l (refl, tt)
      (subst (λ ls. Contains ls l) (leaves-Act (makes_declared name s)) (subst (λ (x : Rule). Contains (leaves x.body) l) (sym (is_d rule has)) there))

  not_assigned : (p : List ℕ) (op : Op) (v : Value0) (t : Span) → action_leaf ≢ leaf.Assign p op v t
  not_assigned p op v t same = cc

  names_it : (f : ℕ) (t : Span) (n : List ℕ) → NamesType N f t n → (f ≡ 0) × (t ≡ s) × (n ≡ name)
  names_it f t n (written.returned rule has is) = absurd (other (ap (λ (x : Rule). x.result) (is_d rule has) ∙ is))
    where
      other : Own ≡ Returns n t → ⊥
      other same = cc
  names_it f t n (written.extending_type interface has _) = absurd (none_there interface has)
  names_it f t n (written.in_attribute interface attribute member has _ _ _) = absurd (none_there interface has)
  names_it f t n (written.in_union union member has _ _) = absurd (none_there union has)
  names_it f t n (written.crossed rule p op v u has there _) = absurd (not_assigned p op v u (d_leaf rule (leaf.Assign p op v u) has there))
  names_it f t n (written.crossed_by rule p op v u by has there _) = absurd (not_assigned p op v u (d_leaf rule (leaf.Assign p op v u) has there))
  names_it f t n (written.acted rule a has there _) =
      let same : makes_declared name s ≡ a = act_is (d_leaf rule (leaf.Act a) has there) in
      (sym (ap (λ (x : Rule). x.file) (is_d rule has)), sym (ap (λ x. x.span) same), sym (ap (λ x. x.type_name) same))
    where
      act_is : action_leaf ≡ leaf.Act a → makes_declared name s ≡ a
      act_is same = cc

  -- the rule's own name is the only type
  known : (n : List ℕ) → IsKnownType N n → codes "A" ≡ n
  known n (inl (inl (k, interface, inside, _, _))) = absurd (omega (arith, inside))
  known n (inl (inr (k, union, inside, _, _))) = absurd (omega (arith, inside))
  known n (inr (f, t, is)) = by f t is
    where
      by : (f : ℕ) (t : Span) → InfersHere N f t n → codes "A" ≡ n
      by f t (written.own rule has _ _) = ap (λ (x : Rule). x.name) (is_d rule has)
      by f t (written.infers rule has _ same) = absurd (other (ap (λ (x : Rule). x.result) (is_d rule has) ∙ same))
        where
          other : Own ≡ Infers n t → ⊥
          other both = cc
      by f t (written.acted rule a has there inferring) = absurd (other (d_leaf rule (leaf.Act a) has there))
        where
          infers_of : Leaf → Type 0
          infers_of (leaf.Act x) = x.infers ≡ false
          infers_of _ = ⊥

          other : action_leaf ≡ leaf.Act a → ⊥
          other both = let not : a.infers ≡ false = subst infers_of both refl in true≢false (sym inferring ∙ not)

pub nowhere_inferred : (s : Span) → StandsAlone (UnknownType (alone (Act (makes_declared (codes "B") s)))) 0 s (codes "B")
nowhere_inferred s = (
  names.unknown (written.acted (D (codes "B") s) (makes_declared (codes "B") s) (0, omega arith, refl) there refl)
      (λ is. differ (codes "A") (codes "B") refl (known (codes "B") s (codes "B") is)),
  others,
)
  where
    there : Contains (leaves (D (codes "B") s).body) (leaf.Act (makes_declared (codes "B") s))
    there = rw leaves-Act (0, omega arith, refl)

    others : (f : ℕ) (t : Span) (n : List ℕ) → UnknownType (N (codes "B") s) f t n → (f ≡ 0) × (t ≡ s) × (n ≡ codes "B")
    others f t n (names.unknown is _) = names_it (codes "B") s f t n is

pub type_inferred : (s : Span) → StandsNowhere (UnknownType (alone (Act (makes_declared (codes "A") s))))
type_inferred s f t n (names.unknown is none) =
    none (inr (
      0,
      place 16 17,
      subst (InfersHere (N (codes "A") s) 0 (place 16 17)) (sym (names_it (codes "A") s f t n is).2)
          (written.own (D (codes "A") s) (0, omega arith, refl) refl refl),
    ))
