-- The grammar with a union, a fragment and an action: what its names mean, and which of its types are below which.
use Rattle.std.proofs.Common.{◌≡◌, ◌↔◌, ℕ, List, [], ◌∷◌, Some, true, codes, map, slice_get, Contains, ◌⊎◌, inl, inr, refl, sym, ap, ◌∙◌, subst, arith, true≢false}
use Rattle.lw_base.specs.declared.token.Span.{Span}
use Rattle.lw_grammar.specs.declared.rule.Rule.{Rule}
use Rattle.lw_grammar.specs.declared.rule.Op.TheVariants.{One, Add}
use Rattle.lw_grammar.specs.declared.rule.Value0.TheVariants as value
use Rattle.lw_grammar.specs.declared.declared_types.Interface.{Interface}
use Rattle.lw_grammar.specs.declared.declared_types.UnionDef.{UnionDef}
use Rattle.lw_grammar.specs.declared.declared_types.Member.{Member}
use Rattle.lw_grammar.specs.declared.declared_types.Member.TheVariants.{Named}
use Rattle.lw_grammar.specs.Named.{IsRule, IsTerminal, IsInterface, IsUnion, declared_rule, declared_terminal, declared_interface, declared_union}
use Rattle.lw_grammar.specs.Leaves.{Leaf, leaves, HasLeaves, Expands, nothing, kept, put_in}
use Rattle.lw_grammar.specs.Leaves as leaf
use Rattle.lw_grammar.specs.Subtypes.{HasType, InfersType, IsDirectlyBelow, IsSubtype, by_interface}
use Rattle.lw_grammar.specs.Subtypes as below
use Rattle.lw_grammar.proofs.FirstLemmas.{first_item}
use Rattle.lw_grammar.proofs.LeafLemmas.{leaf_equations}
use Rattle.lw_grammar.proofs.Every.{Every, every_of, every_at, differ, first_here, first_later, meant}
use Rattle.lw_grammar.proofs.LeavesPutIn.{one_leaves}
use Rattle.lw_grammar.proofs.CallLemmas.{below_itself}
use Rattle.lw_faults.specs.Worked.{no_place, calls_id, terminal_id}
use Rattle.lw_types.specs.Worked.{base, base_or_leaf, base_entry, base_rule, pair_action, pair_rule, tail_fragment, pairs}

-- ---- leaves

abbrev pub x_leaf : Leaf
x_leaf = leaf.Assign (codes "x") One (value.Call (codes "Named") no_place) no_place

abbrev pub name_leaf : Leaf
name_leaf = leaf.Assign (codes "name") One calls_id no_place

abbrev pub y_leaf : Leaf
y_leaf = leaf.Assign (codes "y") One calls_id no_place

abbrev pub t_leaf : Leaf
t_leaf = leaf.Assign (codes "t") Add calls_id no_place

abbrev pub pair_leaf : Leaf
pair_leaf = leaf.Act pair_action

abbrev pub leaf_call : Leaf
leaf_call = leaf.Call (codes "Leaf") no_place

abbrev pub tail_call : Leaf
tail_call = leaf.Call (codes "Tail") no_place

pub of_entry : leaves base_entry.body ≡ x_leaf ∷ leaf_call ∷ []
of_entry = simp leaf_equations

pub of_base : leaves base_rule.body ≡ name_leaf ∷ []
of_base = simp leaf_equations

pub of_pair : leaves pair_rule.body ≡ tail_call ∷ pair_leaf ∷ y_leaf ∷ []
of_pair = simp leaf_equations

pub of_tail : leaves tail_fragment.body ≡ t_leaf ∷ []
of_tail = simp leaf_equations

-- ---- names

pub pair_named : IsRule pairs (codes "Leaf") 2 pair_rule
pair_named =
    meant declared_rule declared_terminal (codes "Leaf") pairs.rules pairs.terminals 2 pair_rule
    (first_later (differ _ _ refl) (first_later (differ _ _ refl) (first_here refl))) (differ _ _ refl, tt)

pub base_named : IsRule pairs (codes "Named") 1 base_rule
base_named =
    meant declared_rule declared_terminal (codes "Named") pairs.rules pairs.terminals 1 base_rule (first_later (differ _ _ refl) (first_here refl)) (differ _ _ refl, tt)

pub tail_named : IsRule pairs (codes "Tail") 3 tail_fragment
tail_named =
    meant declared_rule declared_terminal (codes "Tail") pairs.rules pairs.terminals 3 tail_fragment
    (first_later (differ _ _ refl) (first_later (differ _ _ refl) (first_later (differ _ _ refl) (first_here refl)))) (differ _ _ refl, tt)

pub id_named : IsTerminal pairs (codes "ID") 0 terminal_id
id_named =
    meant declared_terminal declared_rule (codes "ID") pairs.terminals pairs.rules 0 terminal_id (first_here refl)
    (differ _ _ refl, (differ _ _ refl, (differ _ _ refl, (differ _ _ refl, tt))))

pub is_base : IsInterface pairs (codes "Base") 0 base
is_base = meant declared_interface declared_union (codes "Base") pairs.interfaces pairs.unions 0 base (first_here refl) (differ _ _ refl, tt)

pub is_any : IsUnion pairs (codes "Any") 0 base_or_leaf
is_any = meant declared_union declared_interface (codes "Any") pairs.unions pairs.interfaces 0 base_or_leaf (first_here refl) (differ _ _ refl, tt)

-- ---- the leaves of each rule, the fragment put in

abbrev AllLeaves : Rule → List Leaf → Type 0
AllLeaves rule ls = (all : List Leaf) → HasLeaves pairs rule all → all ≡ ls

all_leaves : (rule : Rule) (ls : List Leaf) → HasLeaves pairs rule ls → AllLeaves rule ls
all_leaves rule ls has all is = one_leaves pairs rule all ls is has

pub no_fragment : (r : ℕ) (rule : Rule) → ¬ (IsRule pairs (codes "Leaf") r rule × (rule.is_fragment ≡ true))
no_fragment r rule is = true≢false (sym is.1 ∙ ap (λ (x : Rule). x.is_fragment) (first_item is.0.first pair_named.first))

entry_leaves : HasLeaves pairs base_entry (x_leaf ∷ leaf_call ∷ [])
entry_leaves = subst (λ ls. Expands pairs [] ls (x_leaf ∷ leaf_call ∷ [])) (sym of_entry) (kept (λ r rule is. is) (kept no_fragment nothing))

all_of_entry : AllLeaves base_entry (x_leaf ∷ leaf_call ∷ [])
all_of_entry = all_leaves base_entry (x_leaf ∷ leaf_call ∷ []) entry_leaves

all_of_base : AllLeaves base_rule (name_leaf ∷ [])
all_of_base =
    all_leaves base_rule (name_leaf ∷ []) (subst (λ ls. Expands pairs [] ls (name_leaf ∷ [])) (sym of_base) (kept (λ r rule is. is) nothing))

all_in_pair : HasLeaves pairs pair_rule (t_leaf ∷ pair_leaf ∷ y_leaf ∷ [])
all_in_pair =
    subst (λ ls. Expands pairs [] ls (t_leaf ∷ pair_leaf ∷ y_leaf ∷ [])) (sym of_pair)
    (put_in 3 tail_fragment (tail_named, refl) none inside (kept (λ r rule is. is) (kept (λ r rule is. is) nothing)))
  where
    none : Contains {X = ℕ} [] 3 → ⊥
    none (k, within, is) = omega (arith, within)

    inside : Expands pairs (3 ∷ []) (leaves tail_fragment.body) (t_leaf ∷ [])
    inside = subst (λ ls. Expands pairs (3 ∷ []) ls (t_leaf ∷ [])) (sym of_tail) (kept (λ r rule is. is) nothing)

-- ---- the pairs of which the relation is made

abbrev Both : List ℕ → List ℕ → List ℕ → List ℕ → Type 0
Both below above one other = (below ≡ one) × (above ≡ other)

-- two by the union, one by the action and one by the call
abbrev IsPair : List ℕ → List ℕ → Type 0
IsPair one other =
    Both (codes "Base") (codes "Any") one other
    ⊎ (Both (codes "Leaf") (codes "Any") one other ⊎ (Both (codes "Pair") (codes "Leaf") one other ⊎ Both (codes "Leaf") (codes "Root") one other))

abbrev AddsPairs : Rule → Leaf → Type 0
AddsPairs rule (leaf.Act a) = (above : List ℕ) → InfersType pairs rule above → IsPair a.type_name above
AddsPairs rule (leaf.Call name s) =
    (r : ℕ) (called : Rule) (type_name above : List ℕ) → InfersType pairs rule above → IsRule pairs name r called → HasType pairs called type_name →
    IsPair type_name above
AddsPairs _ _ = Unit {0}

abbrev AddsAll : Rule → Type 0
AddsAll rule = (above : List ℕ) → InfersType pairs rule above → (all : List Leaf) → HasLeaves pairs rule all → Every (AddsPairs rule) all

called_leaf : AddsPairs base_entry leaf_call
called_leaf r called type_name above infers is typed =
    let own : HasType pairs pair_rule type_name = subst (λ (x : Rule). HasType pairs x type_name) (first_item is.first pair_named.first) typed in
    inr (inr (inr (sym own.1, sym infers.0.1)))

adds_all : Every AddsAll pairs.rules
adds_all = (
  λ above infers all has. subst (Every (AddsPairs base_entry)) (sym (all_of_entry all has)) (tt, (called_leaf, tt)),
  (
    λ above infers all has. subst (Every (AddsPairs base_rule)) (sym (all_of_base all has)) (tt, tt),
    (
      λ above infers all has.
          subst (Every (AddsPairs pair_rule)) (sym (all_leaves pair_rule (t_leaf ∷ pair_leaf ∷ y_leaf ∷ []) all_in_pair all has))
          (tt, (λ other infers. inr (inr (inl (refl, sym infers.0.1))), (tt, tt))),
      (λ above infers all has. absurd (true≢false infers.0.0), tt),
    ),
  ),
)

adds : (rule : Rule) (all : List Leaf) (l : Leaf) (above : List ℕ) → Contains pairs.rules rule → InfersType pairs rule above → HasLeaves pairs rule all →
    Contains all l → AddsPairs rule l
adds rule all l above among infers has there = every_of (AddsPairs rule) all l (every_of AddsAll pairs.rules rule adds_all among above infers all has) there

-- the members of the union
abbrev IsMember : Member → Type 0
IsMember (Named name s) = (codes "Base" ≡ name) ⊎ (codes "Leaf" ≡ name)
IsMember _ = Unit {0}

by_union : (one other : List ℕ) (u : ℕ) (union : UnionDef) (s : Span) → IsUnion pairs other u union → Contains union.members (Named one s) → IsPair one other
by_union one other u union s is has =
    let same : base_or_leaf ≡ union = every_at_union u union is.first.there in
    let name : codes "Any" ≡ other = ap (λ (x : UnionDef). x.name) same ∙ is.first.does in
    elim (every_of IsMember base_or_leaf.members (Named one s) (inl refl, (inr refl, tt)) (subst (λ (x : UnionDef). Contains x.members (Named one s)) (sym same) has)) [
      | inl base_is ↦ inl (base_is, name)
      | inr leaf_is ↦ inr (inl (leaf_is, name))
    ]
  where
    every_at_union : (u : ℕ) (union : UnionDef) → slice_get pairs.unions u ≡ Some union → base_or_leaf ≡ union
    every_at_union u union is = every_at (λ (x : UnionDef). base_or_leaf ≡ x) pairs.unions u union (refl, tt) is

by_interface_none : (one other : List ℕ) (i : ℕ) (interface : Interface) → IsInterface pairs one i interface → ¬ Contains (map (λ n. n.0) interface.above) other
by_interface_none one other i interface is has =
    let same : base ≡ interface = every_at (λ (x : Interface). base ≡ x) pairs.interfaces i interface (refl, tt) is.first.there in
    none (subst (λ (x : Interface). Contains (map (λ n. n.0) x.above) other) (sym same) has)
  where
    none : Contains {X = List ℕ} [] other → ⊥
    none (k, within, is) = omega (arith, within)

only_pairs : (one other : List ℕ) → IsDirectlyBelow pairs one other → IsPair one other
only_pairs one other (below.extends i interface is has) = absurd (by_interface_none one other i interface is has)
only_pairs one other (below.is_member u union s is has) = by_union one other u union s is has
only_pairs one other (below.acts rule all a among infers has there) = adds rule all (leaf.Act a) other among infers has there other infers
only_pairs one other (below.calls rule all name s r called among infers has there is typed) =
    adds rule all (leaf.Call name s) other among infers has there r called one other infers is typed

-- ---- below the union, and below the entry

any_below_none : (above : List ℕ) → ¬ IsDirectlyBelow pairs (codes "Any") above
any_below_none above is = none (only_pairs (codes "Any") above is)
  where
    none : IsPair (codes "Any") above → ⊥
    none (inl both) = differ (codes "Base") (codes "Any") refl both.0
    none (inr (inl both)) = differ (codes "Leaf") (codes "Any") refl both.0
    none (inr (inr (inl both))) = differ (codes "Pair") (codes "Any") refl both.0
    none (inr (inr (inr both))) = differ (codes "Leaf") (codes "Any") refl both.0

abbrev below_any : List (List ℕ)
below_any = codes "Any" ∷ codes "Base" ∷ codes "Leaf" ∷ codes "Pair" ∷ []

in_any : (name above : List ℕ) → IsPair name above → Contains below_any name
in_any name above (inl both) = (1, omega arith, both.0)
in_any name above (inr (inl both)) = (2, omega arith, both.0)
in_any name above (inr (inr (inl both))) = (3, omega arith, both.0)
in_any name above (inr (inr (inr both))) = (2, omega arith, both.0)

to_any : (name top : List ℕ) → IsSubtype pairs name top → top ≡ codes "Any" → Contains below_any name
to_any name top below.same is = (0, omega arith, sym is)
to_any name top (below.up {above} first _) is = in_any name above (only_pairs name above first)

base_below : IsDirectlyBelow pairs (codes "Base") (codes "Any")
base_below = below.is_member 0 base_or_leaf no_place is_any (0, omega arith, refl)

leaf_below : IsDirectlyBelow pairs (codes "Leaf") (codes "Any")
leaf_below = below.is_member 0 base_or_leaf no_place is_any (1, omega arith, refl)

leaf_below_root : IsDirectlyBelow pairs (codes "Leaf") (codes "Root")
leaf_below_root =
    below.calls base_entry (x_leaf ∷ leaf_call ∷ []) (codes "Leaf") no_place 2 pair_rule (0, omega arith, refl) ((refl, refl), tt) entry_leaves (1, omega arith, refl)
    pair_named (refl, refl)

pair_below : IsDirectlyBelow pairs (codes "Pair") (codes "Leaf")
pair_below = below.acts pair_rule (t_leaf ∷ pair_leaf ∷ y_leaf ∷ []) pair_action (2, omega arith, refl) ((refl, refl), tt) all_in_pair (1, omega arith, refl)

abbrev BelowAny : List ℕ → Type 0
BelowAny name = IsSubtype pairs name (codes "Any")

pub types_below_any : (name : List ℕ) → IsSubtype pairs name (codes "Any") ↔ Contains below_any name
types_below_any name = (
  λ is. to_any name (codes "Any") is refl,
  λ has. every_of BelowAny below_any name
      (below.same, (below.up base_below below.same, (below.up leaf_below below.same, (below.up pair_below (below.up leaf_below below.same), tt)))) has,
)

abbrev below_root : List (List ℕ)
below_root = codes "Root" ∷ codes "Leaf" ∷ codes "Pair" ∷ []

in_root : (name above top : List ℕ) → IsPair name above → IsSubtype pairs above top → top ≡ codes "Root" → Contains below_root name
in_root name above top (inl both) is same =
    absurd (differ (codes "Any") (codes "Root") refl
    (below_itself pairs (codes "Any") top any_below_none (subst (λ n. IsSubtype pairs n top) (sym both.1) is) ∙ same))
in_root name above top (inr (inl both)) is same = (1, omega arith, both.0)
in_root name above top (inr (inr (inl both))) is same = (2, omega arith, both.0)
in_root name above top (inr (inr (inr both))) is same = (1, omega arith, both.0)

to_root : (name top : List ℕ) → IsSubtype pairs name top → top ≡ codes "Root" → Contains below_root name
to_root name top below.same is = (0, omega arith, sym is)
to_root name top (below.up {above} first rest) is = in_root name above top (only_pairs name above first) rest is

abbrev BelowRoot : List ℕ → Type 0
BelowRoot name = IsSubtype pairs name (codes "Root")

pub types_below_root : (name : List ℕ) → IsSubtype pairs name (codes "Root") ↔ Contains below_root name
types_below_root name = (
  λ is. to_root name (codes "Root") is refl,
  λ has. every_of BelowRoot below_root name
      (below.same, (below.up leaf_below_root below.same, (below.up pair_below (below.up leaf_below_root below.same), tt))) has,
)
