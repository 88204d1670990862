-- The grammar with a data type rule: which rules make nodes, what is reached, its kinds, and its types.
use Rattle.std.proofs.Common.{◌≡◌, ◌≢◌, ℕ, zero, suc, ◌<◌, List, [], ◌∷◌, ◌++◌, Some, false, codes, slice_get, Contains, ◌⊎◌, inl, inr, refl, sym, ap, ◌∙◌, subst, arith, true≢false}
use Rattle.std.proofs.lemmas.Option.{none-some, same_Some}
use Rattle.lw_grammar.specs.declared.rule.Rule.{Rule}
use Rattle.lw_grammar.specs.declared.rule.Op.TheVariants.{One}
use Rattle.lw_grammar.specs.declared.rule.Value0.TheVariants as value
use Rattle.lw_grammar.specs.declared.terminal.Terminal.{Terminal}
use Rattle.lw_grammar.specs.Named.{IsRule, IsTerminal, IsEntry, declared_rule, declared_terminal}
use Rattle.lw_grammar.specs.Leaves.{Leaf, leaves, keywords_in, HasLeaves}
use Rattle.lw_grammar.specs.Leaves as leaf
use Rattle.lw_grammar.specs.Nodes.{MakesNodes, IsDataType}
use Rattle.lw_grammar.specs.Nodes as nodes
use Rattle.lw_grammar.specs.Subtypes.{IsDirectlyBelow, IsSubtype, HasType, InfersType}
use Rattle.lw_grammar.specs.Subtypes as below
use Rattle.lw_grammar.specs.Reached.{RuleCalls, IsReached}
use Rattle.lw_grammar.specs.Reached as reached
use Rattle.lw_grammar.specs.Kept.{KeepsPassing}
use Rattle.lw_grammar.specs.Kept as keep
use Rattle.lw_grammar.specs.Kinds.{AreKinds, IsKindTerminal, IsTerminalKind, first_uses}
use Rattle.lw_grammar.specs.Kinds as kind
use Rattle.lw_grammar.specs.KindTexts.{IsKindText, texts_of}
use Rattle.lw_grammar.proofs.FirstLemmas.{first_place, first_item}
use Rattle.lw_grammar.proofs.KindLemmas.{one_kinds}
use Rattle.lw_grammar.proofs.LeafLemmas.{leaf_equations, value_equations, values-Call}
use Rattle.lw_grammar.specs.Worked.{nowhere, id_call, id_terminal, int_terminal, space_terminal, root_rule, qname_rule, marked_rule, unused_rule, other_action, dotted_grammar, dotted_kinds}
use Rattle.lw_grammar.proofs.Every.{Every, every_of, every_at, differ, first_here, first_later, meant, not_meant}
use Rattle.lw_grammar.proofs.LeavesPutIn.{own_leaves, only_leaves}
use Rattle.lw_grammar.proofs.CallLemmas.{calls_by_call, calls_only, makes_none, below_itself}

abbrev root_leaves : List Leaf
root_leaves = leaf.Assign (codes "name") One (value.Call (codes "QName") nowhere) nowhere ∷ leaf.Call (codes "Marked") nowhere ∷ []

abbrev qname_leaves : List Leaf
qname_leaves = leaf.Call (codes "ID") nowhere ∷ leaf.Keyword (codes ".") nowhere ∷ leaf.Call (codes "ID") nowhere ∷ []

abbrev marked_leaves : List Leaf
marked_leaves = leaf.Keyword (codes "x") nowhere ∷ leaf.Act other_action ∷ leaf.Assign (codes "y") One id_call nowhere ∷ []

abbrev unused_leaves : List Leaf
unused_leaves = leaf.Assign (codes "z") One (value.Call (codes "INT") nowhere) nowhere ∷ []

of_root : leaves root_rule.body ≡ root_leaves
of_root = simp leaf_equations

of_qname : leaves qname_rule.body ≡ qname_leaves
of_qname = simp leaf_equations

of_marked : leaves marked_rule.body ≡ marked_leaves
of_marked = simp leaf_equations

of_unused : leaves unused_rule.body ≡ unused_leaves
of_unused = simp leaf_equations

-- ---- names

qname_named : IsRule dotted_grammar (codes "QName") 1 qname_rule
qname_named =
    meant declared_rule declared_terminal (codes "QName") dotted_grammar.rules dotted_grammar.terminals 1 qname_rule
    (first_later (differ _ _ refl) (first_here refl)) (differ _ _ refl, (differ _ _ refl, (differ _ _ refl, tt)))

marked_named : IsRule dotted_grammar (codes "Marked") 2 marked_rule
marked_named =
    meant declared_rule declared_terminal (codes "Marked") dotted_grammar.rules dotted_grammar.terminals 2 marked_rule
    (first_later (differ _ _ refl) (first_later (differ _ _ refl) (first_here refl))) (differ _ _ refl, (differ _ _ refl, (differ _ _ refl, tt)))

no_rule_id : (r : ℕ) (rule : Rule) → ¬ IsRule dotted_grammar (codes "ID") r rule
no_rule_id r rule =
    not_meant declared_rule declared_terminal (codes "ID") dotted_grammar.rules dotted_grammar.terminals r rule
    (differ _ _ refl, (differ _ _ refl, (differ _ _ refl, (differ _ _ refl, tt))))

id_named : IsTerminal dotted_grammar (codes "ID") 0 id_terminal
id_named =
    meant declared_terminal declared_rule (codes "ID") dotted_grammar.terminals dotted_grammar.rules 0 id_terminal
    (first_here refl) (differ _ _ refl, (differ _ _ refl, (differ _ _ refl, (differ _ _ refl, tt))))

root_entry : IsEntry dotted_grammar 0 root_rule
root_entry = first_here (refl, refl)

-- ---- which rules make nodes

pub qname_is_text : IsDataType dotted_grammar qname_rule
qname_is_text = (refl, makes_none dotted_grammar qname_rule qname_leaves of_qname (no_rule_id, (tt, (no_rule_id, tt))))

pub marked_makes_nodes : MakesNodes dotted_grammar marked_rule
marked_makes_nodes = nodes.acts other_action (subst (λ ls. Contains ls (leaf.Act other_action)) (sym of_marked) (1, omega arith, refl))

pub root_no_text : ¬ IsDataType dotted_grammar root_rule
root_no_text is =
    is.1 (nodes.calls (codes "Marked") nowhere 2 marked_rule
    (subst (λ ls. Contains ls (leaf.Call (codes "Marked") nowhere)) (sym of_root) (1, omega arith, refl)) marked_named marked_makes_nodes)

-- ---- what is reached

root_calls_qname : RuleCalls dotted_grammar root_rule (codes "QName")
root_calls_qname =
    reached.assigns (codes "name") One (value.Call (codes "QName") nowhere) nowhere
    (subst (λ ls. Contains ls (leaf.Assign (codes "name") One (value.Call (codes "QName") nowhere) nowhere)) (sym of_root) (0, omega arith, refl))
    (reached.calls nowhere (rw values-Call (0, omega arith, refl)))

root_calls_marked : RuleCalls dotted_grammar root_rule (codes "Marked")
root_calls_marked = reached.calls nowhere (subst (λ ls. Contains ls (leaf.Call (codes "Marked") nowhere)) (sym of_root) (1, omega arith, refl))

qname_calls_id : RuleCalls dotted_grammar qname_rule (codes "ID")
qname_calls_id = reached.calls nowhere (subst (λ ls. Contains ls (leaf.Call (codes "ID") nowhere)) (sym of_qname) (0, omega arith, refl))

root_reached : IsReached dotted_grammar 0
root_reached = reached.entry root_rule root_entry

pub qname_reached : IsReached dotted_grammar 1
qname_reached = reached.called root_rule qname_rule (codes "QName") root_reached refl root_calls_qname qname_named

marked_reached : IsReached dotted_grammar 2
marked_reached = reached.called root_rule marked_rule (codes "Marked") root_reached refl root_calls_marked marked_named

-- the names that the first three rules call
data IsCalled (name : List ℕ) : Type 0 where
  qname : codes "QName" ≡ name → IsCalled name
  marked : codes "Marked" ≡ name → IsCalled name
  id : codes "ID" ≡ name → IsCalled name

abbrev CallsFew : Rule → Type 0
CallsFew rule = (name : List ℕ) → RuleCalls dotted_grammar rule name → IsCalled name

root_calls : CallsFew root_rule
root_calls name is =
    calls_only dotted_grammar IsCalled root_rule root_leaves name of_root
    (λ n does. qname (calls_by_call dotted_grammar (codes "QName") n nowhere does), (marked refl, tt)) is

qname_calls : CallsFew qname_rule
qname_calls name is = calls_only dotted_grammar IsCalled qname_rule qname_leaves name of_qname (id refl, (tt, (id refl, tt))) is

marked_calls : CallsFew marked_rule
marked_calls name is =
    calls_only dotted_grammar IsCalled marked_rule marked_leaves name of_marked
    (tt, (tt, (λ n does. id (calls_by_call dotted_grammar (codes "ID") n nowhere does), tt))) is

few : (q : ℕ) (caller : Rule) → q < 3 → slice_get dotted_grammar.rules q ≡ Some caller → CallsFew caller
few zero caller below is = subst CallsFew (same_Some root_rule caller is) root_calls
few (suc zero) caller below is = subst CallsFew (same_Some qname_rule caller is) qname_calls
few (suc (suc zero)) caller below is = subst CallsFew (same_Some marked_rule caller is) marked_calls
few (suc (suc (suc q))) caller below is = absurd (omega arith)

low : (name : List ℕ) (r : ℕ) (rule : Rule) → IsCalled name → IsRule dotted_grammar name r rule → r < 3
low name r rule (qname same) is =
    let at : r ≡ 1 = first_place (subst (λ n. IsRule dotted_grammar n r rule) (sym same) is).first qname_named.first in omega arith
low name r rule (marked same) is =
    let at : r ≡ 2 = first_place (subst (λ n. IsRule dotted_grammar n r rule) (sym same) is).first marked_named.first in omega arith
low name r rule (id same) is = absurd (no_rule_id r rule (subst (λ n. IsRule dotted_grammar n r rule) (sym same) is))

reached_low : {r : ℕ} → IsReached dotted_grammar r → r < 3
reached_low {r} (reached.entry rule is) = let at : r ≡ 0 = first_place is root_entry in omega arith
reached_low {r} (reached.called {q} caller rule name before at names is) = low name r rule (few q caller (reached_low before) at name names) is

pub unused_not_reached : ¬ IsReached dotted_grammar 3
unused_not_reached is = let below = reached_low is in omega arith

-- ---- kinds, told by their texts

no_int_called : (r : ℕ) (rule : Rule) → IsReached dotted_grammar r → slice_get dotted_grammar.rules r ≡ Some rule → ¬ RuleCalls dotted_grammar rule (codes "INT")
no_int_called r rule is at names = by (few r rule (reached_low is) at (codes "INT") names)
  where
    by : IsCalled (codes "INT") → ⊥
    by (qname same) = differ (codes "QName") (codes "INT") refl same
    by (marked same) = differ (codes "Marked") (codes "INT") refl same
    by (id same) = differ (codes "ID") (codes "INT") refl same

pub int_no_kind : ¬ IsKindTerminal dotted_grammar 1
int_no_kind (kind.hidden terminal at _ is) = true≢false (sym is ∙ sym (ap (λ (t : Terminal). t.is_hidden) (same_Some int_terminal terminal at)))
int_no_kind (kind.called terminal name r rule is _ at there names) =
    let same : name ≡ codes "INT" = sym is.first.does ∙ sym (ap (λ (t : Terminal). t.name) (same_Some int_terminal terminal is.first.there)) in
    no_int_called r rule at there (subst (RuleCalls dotted_grammar rule) same names)

root_keywords : keywords_in root_rule.body ≡ []
root_keywords = simp (leaf_equations, value_equations)

qname_keywords : keywords_in qname_rule.body ≡ codes "." ∷ []
qname_keywords = simp leaf_equations

marked_keywords : keywords_in marked_rule.body ≡ codes "x" ∷ []
marked_keywords = simp (leaf_equations, value_equations)

three_lists : (xs ys zs : List (List ℕ)) → xs ≡ [] → ys ≡ codes "." ∷ [] → zs ≡ codes "x" ∷ [] → xs ++ (ys ++ (zs ++ [])) ≡ codes "." ∷ codes "x" ∷ []
three_lists xs ys zs f g h = rw (f, g, h) refl

pub its_kinds : AreKinds dotted_grammar dotted_kinds
its_kinds = record {
  rules = root_rule ∷ qname_rule ∷ marked_rule ∷ [];
  reached = keep.kept root_reached (keep.kept qname_reached (keep.kept marked_reached (keep.left_out unused_not_reached keep.nothing)));
  keywords = sym (ap (first_uses []) (three_lists _ _ _ root_keywords qname_keywords marked_keywords));
  terminals =
      keep.kept (kind.called id_terminal (codes "ID") 1 qname_rule id_named refl qname_reached refl qname_calls_id)
      (keep.left_out int_no_kind (keep.kept (kind.hidden space_terminal refl refl refl) keep.nothing));
}

pub id_kind : IsTerminalKind dotted_grammar dotted_kinds (codes "ID") 2
id_kind = record { place = 0; terminal = id_terminal; meant = id_named; number = 0; kept = first_here refl; behind = refl }

pub int_kind_none : (k : ℕ) → ¬ IsTerminalKind dotted_grammar dotted_kinds (codes "INT") k
int_kind_none k is =
    every_at (λ (t : Terminal). t.name ≢ codes "INT") dotted_kinds.terminals is.number is.terminal (differ _ _ refl, (differ _ _ refl, tt)) is.kept.there
    is.meant.first.does

-- the kinds are told by these texts, and no list with another rule or terminal is that of the kinds
pub its_text : IsKindText dotted_grammar 2 (codes "ID")
its_text = (texts_of dotted_kinds, (dotted_kinds, its_kinds, refl), refl)

pub no_fifth_text : (text : List ℕ) → ¬ IsKindText dotted_grammar 4 text
no_fifth_text text (texts, (of, are, is), at) =
    none-some text (ap (λ ts. slice_get ts 4) (sym (is ∙ ap texts_of (one_kinds dotted_grammar of dotted_kinds are its_kinds))) ∙ at)

-- ---- types

no_fragments : Every (λ (rule : Rule). rule.is_fragment ≡ false) dotted_grammar.rules
no_fragments = (refl, (refl, (refl, (refl, tt))))

-- the two pairs of types: by an action, and by an unassigned call
abbrev IsPair : List ℕ → List ℕ → Type 0
IsPair one other = ((codes "Other" ≡ one) × (codes "Marked" ≡ other)) ⊎ ((codes "Marked" ≡ one) × (codes "Root" ≡ other))

abbrev AddsPairs : Rule → Leaf → Type 0
AddsPairs rule (leaf.Act a) = (above : List ℕ) → InfersType dotted_grammar rule above → IsPair a.type_name above
AddsPairs rule (leaf.Call name s) =
    (r : ℕ) (called : Rule) (type_name above : List ℕ) → InfersType dotted_grammar rule above → IsRule dotted_grammar name r called →
    HasType dotted_grammar called type_name → IsPair type_name above
AddsPairs _ _ = Unit {0}

adds_pairs : Every (λ (rule : Rule). Every (AddsPairs rule) (leaves rule.body)) dotted_grammar.rules
adds_pairs = (
  subst (Every (AddsPairs root_rule)) (sym of_root) (
    tt,
    (
      λ r called type_name above infers is typed.
          let own : HasType dotted_grammar marked_rule type_name =
          subst (λ (x : Rule). HasType dotted_grammar x type_name) (first_item is.first marked_named.first) typed in inr (sym own.1, sym infers.0.1),
      tt,
    ),
  ),
  (
    subst (Every (AddsPairs qname_rule)) (sym of_qname) (
      λ r called type_name above infers is typed. absurd (no_rule_id r called is),
      (tt, (λ r called type_name above infers is typed. absurd (no_rule_id r called is), tt)),
    ),
    (
      subst (Every (AddsPairs marked_rule)) (sym of_marked) (tt, (λ above infers. inl (refl, sym infers.0.1), (tt, tt))),
      (subst (Every (AddsPairs unused_rule)) (sym of_unused) (tt, tt), tt),
    ),
  ),
)

only_pairs : (one other : List ℕ) → IsDirectlyBelow dotted_grammar one other → IsPair one other
only_pairs one other (below.extends i interface is _) = absurd (none-some interface is.first.there)
only_pairs one other (below.is_member u union s is _) = absurd (none-some union is.first.there)
only_pairs one other (below.acts rule all a in_rules infers has there) =
    every_of (AddsPairs rule) (leaves rule.body) (leaf.Act a) (every_of (λ (x : Rule). Every (AddsPairs x) (leaves x.body)) dotted_grammar.rules rule adds_pairs in_rules)
    (subst (λ ls. Contains ls (leaf.Act a)) (only_leaves dotted_grammar no_fragments rule all has) there) other infers
only_pairs one other (below.calls rule all name s r called in_rules infers has there is typed) =
    every_of (AddsPairs rule) (leaves rule.body) (leaf.Call name s)
    (every_of (λ (x : Rule). Every (AddsPairs x) (leaves x.body)) dotted_grammar.rules rule adds_pairs in_rules)
    (subst (λ ls. Contains ls (leaf.Call name s)) (only_leaves dotted_grammar no_fragments rule all has) there) r called one other infers is typed

other_below_marked : IsDirectlyBelow dotted_grammar (codes "Other") (codes "Marked")
other_below_marked =
    below.acts marked_rule (leaves marked_rule.body) other_action (2, omega arith, refl) ((refl, refl), tt) (own_leaves dotted_grammar no_fragments marked_rule)
    (subst (λ ls. Contains ls (leaf.Act other_action)) (sym of_marked) (1, omega arith, refl))

marked_below_root : IsDirectlyBelow dotted_grammar (codes "Marked") (codes "Root")
marked_below_root =
    below.calls root_rule (leaves root_rule.body) (codes "Marked") nowhere 2 marked_rule (0, omega arith, refl) ((refl, refl), tt)
    (own_leaves dotted_grammar no_fragments root_rule)
    (subst (λ ls. Contains ls (leaf.Call (codes "Marked") nowhere)) (sym of_root) (1, omega arith, refl)) marked_named (refl, refl)

pub other_below_root : IsSubtype dotted_grammar (codes "Other") (codes "Root")
other_below_root = below.up other_below_marked (below.up marked_below_root below.same)

pub root_not_below_other : ¬ IsSubtype dotted_grammar (codes "Root") (codes "Other")
root_not_below_other is = differ (codes "Root") (codes "Other") refl (below_itself dotted_grammar (codes "Root") (codes "Other") none is)
  where
    by : (above : List ℕ) → IsPair (codes "Root") above → ⊥
    by above (inl pair) = differ (codes "Other") (codes "Root") refl pair.0
    by above (inr pair) = differ (codes "Marked") (codes "Root") refl pair.0

    none : (above : List ℕ) → ¬ IsDirectlyBelow dotted_grammar (codes "Root") above
    none above pair = by above (only_pairs (codes "Root") above pair)
