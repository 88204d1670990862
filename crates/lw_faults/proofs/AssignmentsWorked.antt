-- Assignments of what cannot be put in so, and those beside them.
use Rattle.std.proofs.Common.{◌≡◌, ℕ, List, [], ◌∷◌, true, codes, Contains, ◌⊎◌, inl, inr, refl, sym, subst, arith, true≢false}
use Rattle.lw_base.specs.declared.token.Span.{Span}
use Rattle.lw_grammar.specs.declared.grammar.Grammar.{Grammar}
use Rattle.lw_grammar.specs.declared.rule.Rule.{Rule}
use Rattle.lw_grammar.specs.declared.rule.Op.{Op}
use Rattle.lw_grammar.specs.declared.rule.Op.TheVariants.{One, Flag}
use Rattle.lw_grammar.specs.declared.rule.Value0.{Value0}
use Rattle.lw_grammar.specs.declared.rule.Value0.TheVariants as value
use Rattle.lw_grammar.specs.Leaves as leaf
use Rattle.lw_grammar.specs.Leaves.{ValueLeaf, leaves, Calls, value_leaves}
use Rattle.lw_grammar.specs.Named.{IsRule, declared_rule, declared_terminal}
use Rattle.lw_grammar.specs.Nodes.{MakesNodes}
use Rattle.lw_grammar.proofs.FirstLemmas.{first_item}
use Rattle.lw_grammar.proofs.LeafLemmas.{leaves-Call, values-Call}
use Rattle.lw_faults.specs.BadCalls.{BadAssignment}
use Rattle.lw_faults.specs.BadCalls as bad
use Rattle.lw_faults.specs.Worked.{StandsAlone, StandsNowhere, no_place, entry_rule, plain_rule, fragment_rule, node_rule, x_by, y_id, id_element, assigning}
use Rattle.lw_grammar.proofs.Every.{every_of, differ, first_here, first_later, meant, not_meant}
use Rattle.lw_faults.proofs.AssignLemmas.{only_leaf, only_part, leaf_there, part_there}
use Rattle.lw_faults.proofs.NodeLemmas.{puts_makes, id_makes_none}

-- the name that a call as a value has
abbrev IsCallOf : List ℕ → ValueLeaf → Type 0
IsCallOf name (Calls n t) = n ≡ name
IsCallOf name _ = ⊥

module _ (op : Op) (s : Span) (b : Rule) where
  abbrev G : Grammar
  G = assigning op s b

  abbrev v : Value0
  v = value.Call b.name no_place

  abbrev A : Rule
  A = entry_rule (codes "A") no_place (x_by op v s)

  -- a call as a value is one of ID, or it is this one
  abbrev PutsIn : Rule → Type 0
  PutsIn rule = (p : List ℕ) (o : Op) (w : Value0) (u t : Span) (name : List ℕ) → Contains (leaves rule.body) (leaf.Assign p o w u) → Contains (value_leaves w) (Calls name t) →
      (name ≡ codes "ID") ⊎ ((rule.file ≡ 0) × (u ≡ s) × (p ≡ codes "x") × (o ≡ op) × (name ≡ b.name))

  a_puts : PutsIn A
  a_puts p o w u t name has inside =
      let found = only_leaf A (codes "x") op v s (Calls b.name no_place) refl (values-Call b.name no_place) (leaf.Assign p o w u) has in
      let part = only_part A (codes "x") op v s (Calls b.name no_place) refl (values-Call b.name no_place) p o w u (Calls name t) has inside in
      inr (refl, found.3, found.0, found.1, subst (IsCallOf b.name) part refl)

  module _ (b_puts : PutsIn b) (named : IsRule G b.name 1 b) (no_id : (r : ℕ) (rule : Rule) → ¬ IsRule G (codes "ID") r rule) where
    puts_in : (rule : Rule) → Contains G.rules rule → PutsIn rule
    puts_in rule has = every_of PutsIn G.rules rule (a_puts, (b_puts, tt)) has

    abbrev IsBad : ℕ → Span → List ℕ → Type 0
    IsBad f t n = ((f ≡ 0) × (t ≡ s) × (n ≡ codes "x")) × (((op ≡ Flag) × MakesNodes G b) ⊎ (b.is_fragment ≡ true))

    means_b : (name : List ℕ) (r : ℕ) (called : Rule) → name ≡ b.name → IsRule G name r called → called ≡ b
    means_b name r called is means = first_item (subst (λ x. IsRule G x r called) is means).first named.first

    only_bad : (f : ℕ) (t : Span) (n : List ℕ) → BadAssignment G f t n → IsBad f t n
    only_bad f t n (bad.flag rule p w u at name r called has assigns inside means makes) = by (puts_in rule has p Flag w u at name assigns inside)
      where
        by : (name ≡ codes "ID") ⊎ ((rule.file ≡ 0) × (u ≡ s) × (p ≡ codes "x") × (Flag ≡ op) × (name ≡ b.name)) → IsBad f t n
        by (inl is) = absurd (no_id r called (subst (λ x. IsRule G x r called) is means))
        by (inr is) = ((is.0, is.1, is.2), inl (sym is.3, subst (MakesNodes G) (means_b name r called is.4 means) makes))
    only_bad f t n (bad.fragment_ rule p o w u at name r called has assigns inside means fragment) = by (puts_in rule has p o w u at name assigns inside)
      where
        by : (name ≡ codes "ID") ⊎ ((rule.file ≡ 0) × (u ≡ s) × (p ≡ codes "x") × (o ≡ op) × (name ≡ b.name)) → IsBad f t n
        by (inl is) = absurd (no_id r called (subst (λ x. IsRule G x r called) is means))
        by (inr is) = ((is.0, is.1, is.2), inr (subst (λ (x : Rule). x.is_fragment ≡ true) (means_b name r called is.4 means) fragment))

    a_assigns : Contains (leaves A.body) (leaf.Assign (codes "x") op v s)
    a_assigns = leaf_there A (codes "x") op v s (Calls b.name no_place) refl (values-Call b.name no_place)

    a_calls : Contains (value_leaves v) (Calls b.name no_place)
    a_calls = part_there A (codes "x") op v s (Calls b.name no_place) refl (values-Call b.name no_place) (Calls b.name no_place) refl

    pub fragment_alone : b.is_fragment ≡ true → StandsAlone (BadAssignment G) 0 s (codes "x")
    fragment_alone is = (
      bad.fragment_ A (codes "x") op v s no_place b.name 1 b (0, omega arith, refl) a_assigns a_calls named is,
      λ f t n found. (only_bad f t n found).0,
    )

  -- a rule that assigns ID, or that is a call of it
  id_puts : b.body ≡ y_id → PutsIn b
  id_puts is p o w u t name has inside =
      let part = only_part b (codes "y") One (value.Call (codes "ID") no_place) no_place (Calls (codes "ID") no_place) is (values-Call (codes "ID") no_place) p o w u (Calls name t) has inside in
      inl (subst (IsCallOf (codes "ID")) part refl)

  call_puts : b.body ≡ id_element → PutsIn b
  call_puts is p o w u t name has inside =
      let leaf_is : leaf.Call (codes "ID") no_place ≡ leaf.Assign p o w u =
      every_of (λ y. leaf.Call (codes "ID") no_place ≡ y) (leaf.Call (codes "ID") no_place ∷ []) (leaf.Assign p o w u) (refl, tt)
      (subst (λ ls. Contains ls (leaf.Assign p o w u)) (leaves-Call (codes "ID") no_place) (subst (λ e. Contains (leaves e) (leaf.Assign p o w u)) is has)) in absurd (apart leaf_is)
    where
      apart : leaf.Call (codes "ID") no_place ≡ leaf.Assign p o w u → ⊥
      apart same = cc

-- ---- a rule that makes nodes

module _ (op : Op) (s : Span) where
  node_named : IsRule (G op s node_rule) (codes "B") 1 node_rule
  node_named =
      meant declared_rule declared_terminal (codes "B") (G op s node_rule).rules (G op s node_rule).terminals 1 node_rule
      (first_later (differ _ _ refl) (first_here refl)) (differ _ _ refl, tt)

  node_no_id : (r : ℕ) (rule : Rule) → ¬ IsRule (G op s node_rule) (codes "ID") r rule
  node_no_id r rule =
      not_meant declared_rule declared_terminal (codes "ID") (G op s node_rule).rules (G op s node_rule).terminals r rule (differ _ _ refl, (differ _ _ refl, tt))

  node_bad : (f : ℕ) (t : Span) (n : List ℕ) → BadAssignment (G op s node_rule) f t n →
      ((f ≡ 0) × (t ≡ s) × (n ≡ codes "x")) × (((op ≡ Flag) × MakesNodes (G op s node_rule) node_rule) ⊎ (node_rule.is_fragment ≡ true))
  node_bad = only_bad op s node_rule (id_puts op s node_rule refl) node_named node_no_id

pub flag_by_node : (s : Span) → StandsAlone (BadAssignment (assigning Flag s node_rule)) 0 s (codes "x")
flag_by_node s = (
  bad.flag (A Flag s node_rule) (codes "x") (value.Call (codes "B") no_place) s no_place (codes "B") 1 node_rule (0, omega arith, refl)
      (a_assigns Flag s node_rule (id_puts Flag s node_rule refl) (node_named Flag s) (node_no_id Flag s))
      (a_calls Flag s node_rule (id_puts Flag s node_rule refl) (node_named Flag s) (node_no_id Flag s)) (node_named Flag s)
      (puts_makes (G Flag s node_rule) node_rule (codes "y") (codes "ID") refl),
  λ f t n is. (node_bad Flag s f t n is).0,
)

pub node : (s : Span) → StandsNowhere (BadAssignment (assigning One s node_rule))
node s f t n is = by (node_bad One s f t n is).1
  where
    apart : One ≡ Flag → ⊥
    apart same = cc

    by : ((One ≡ Flag) × MakesNodes (G One s node_rule) node_rule) ⊎ (node_rule.is_fragment ≡ true) → ⊥
    by (inl flag) = apart flag.0
    by (inr fragment) = true≢false (sym fragment)

-- ---- a data type rule

abbrev text_rule : Rule
text_rule = plain_rule (codes "B") no_place id_element

pub flag_by_text : (s : Span) → StandsNowhere (BadAssignment (assigning Flag s text_rule))
flag_by_text s f t n is = by (only_bad Flag s text_rule (call_puts Flag s text_rule refl) text_named text_no_id f t n is).1
  where
    text_named : IsRule (G Flag s text_rule) (codes "B") 1 text_rule
    text_named =
        meant declared_rule declared_terminal (codes "B") (G Flag s text_rule).rules (G Flag s text_rule).terminals 1 text_rule
        (first_later (differ _ _ refl) (first_here refl)) (differ _ _ refl, tt)

    text_no_id : (r : ℕ) (rule : Rule) → ¬ IsRule (G Flag s text_rule) (codes "ID") r rule
    text_no_id r rule =
        not_meant declared_rule declared_terminal (codes "ID") (G Flag s text_rule).rules (G Flag s text_rule).terminals r rule
        (differ _ _ refl, (differ _ _ refl, tt))

    by : ((Flag ≡ Flag) × MakesNodes (G Flag s text_rule) text_rule) ⊎ (text_rule.is_fragment ≡ true) → ⊥
    by (inl makes) = id_makes_none (G Flag s text_rule) text_rule refl text_no_id makes.1
    by (inr fragment) = true≢false (sym fragment)

-- ---- a fragment

abbrev f_rule : Rule
f_rule = fragment_rule (codes "F") no_place y_id

pub fragment_found : (s : Span) → StandsAlone (BadAssignment (assigning One s f_rule)) 0 s (codes "x")
fragment_found s = fragment_alone One s f_rule (id_puts One s f_rule refl) f_named f_no_id refl
  where
    f_named : IsRule (G One s f_rule) (codes "F") 1 f_rule
    f_named =
        meant declared_rule declared_terminal (codes "F") (G One s f_rule).rules (G One s f_rule).terminals 1 f_rule
        (first_later (differ _ _ refl) (first_here refl)) (differ _ _ refl, tt)

    f_no_id : (r : ℕ) (rule : Rule) → ¬ IsRule (G One s f_rule) (codes "ID") r rule
    f_no_id r rule =
        not_meant declared_rule declared_terminal (codes "ID") (G One s f_rule).rules (G One s f_rule).terminals r rule (differ _ _ refl, (differ _ _ refl, tt))
