-- The grammar of models with states: its names, leaves, types, name rule, calls and kinds.
use Rattle.std.proofs.Common.{◌≡◌, ℕ, List, [], ◌∷◌, ◌++◌, None, false, codes, slice_get, Contains, refl, sym, ap, ◌∙◌, subst, arith, true≢false}
use Rattle.std.proofs.lemmas.List.{append-nil}
use Rattle.std.proofs.lemmas.Option.{none-some}
use Rattle.lw_grammar.specs.declared.rule.Rule.{Rule}
use Rattle.lw_grammar.specs.declared.rule.Op.TheVariants.{One, Add}
use Rattle.lw_grammar.specs.declared.rule.Value0.{Value0}
use Rattle.lw_grammar.specs.declared.rule.Value0.TheVariants as value
use Rattle.lw_grammar.specs.declared.terminal.Terminal.{Terminal}
use Rattle.lw_grammar.specs.Named.{IsRule, IsTerminal, IsEntry, declared_rule, declared_terminal}
use Rattle.lw_grammar.specs.Leaves.{Leaf, leaves, keywords_in, HasLeaves, value_leaves, Cross}
use Rattle.lw_grammar.specs.Leaves as leaf
use Rattle.lw_grammar.specs.Subtypes.{IsDeclared, by_interface, by_union, IsDirectlyBelow, IsSubtype, extends, is_member, acts, calls, same}
use Rattle.lw_grammar.specs.NameRules.{IsNameRule, NamesNodesOf, FirstNames, IsCallOf, here, later}
use Rattle.lw_grammar.specs.Reached.{ValueCalls, RuleCalls, IsReached}
use Rattle.lw_grammar.specs.Reached as reached
use Rattle.lw_grammar.specs.Kept as keep
use Rattle.lw_grammar.specs.Kinds.{AreKinds, IsTerminalKind, first_uses}
use Rattle.lw_grammar.specs.Kinds as kind
use Rattle.lw_grammar.specs.KindTexts.{IsKindText, texts_of}
use Rattle.lw_grammar.specs.Size.{size}
use Rattle.lw_grammar.proofs.KindLemmas.{one_kinds}
use Rattle.lw_grammar.proofs.LeafLemmas.{leaf_equations, value_equations, size_equations, values-Call, values-Cross}
use Rattle.lw_grammar.specs.Worked.{nowhere, id_call, id_terminal, space_terminal, model_rule, state_rule, states_with, by_id, states_by_id, by_name, states_by_name, states_kinds}
use Rattle.lw_grammar.proofs.Every.{Every, every_of, every_at, differ, first_here, first_later, meant, not_meant}
use Rattle.lw_grammar.proofs.LeavesPutIn.{own_leaves, only_leaves}
use Rattle.lw_grammar.proofs.CallLemmas.{calls_by_call, calls_by_cross, calls_by_name, calls_only, below_itself}

abbrev model_leaves : List Leaf
model_leaves =
    leaf.Keyword (codes "model") nowhere ∷ leaf.Assign (codes "name") One id_call nowhere
    ∷ leaf.Assign (codes "states") Add (value.Call (codes "State") nowhere) nowhere ∷ []

of_model : leaves model_rule.body ≡ model_leaves
of_model = simp leaf_equations

module _ (next : Value0) where
  abbrev state_leaves : List Leaf
  state_leaves =
      leaf.Keyword (codes "state") nowhere ∷ leaf.Assign (codes "name") One id_call nowhere ∷ leaf.Keyword (codes "to") nowhere
      ∷ leaf.Assign (codes "next") Add next nowhere ∷ leaf.Keyword (codes "end") nowhere ∷ []

  of_state : leaves (state_rule next).body ≡ state_leaves
  of_state = simp leaf_equations

  -- ---- names
  pub state_named : IsRule (states_with next) (codes "State") 1 (state_rule next)
  state_named =
      meant declared_rule declared_terminal (codes "State") (states_with next).rules (states_with next).terminals 1 (state_rule next)
      (first_later (differ _ _ refl) (first_here refl)) (differ _ _ refl, (differ _ _ refl, tt))

  pub no_rule_id : (r : ℕ) (rule : Rule) → ¬ IsRule (states_with next) (codes "ID") r rule
  no_rule_id r rule = not_meant declared_rule declared_terminal (codes "ID") (states_with next).rules (states_with next).terminals r rule (differ _ _ refl, (differ _ _ refl, tt))

  pub id_named : IsTerminal (states_with next) (codes "ID") 1 id_terminal
  id_named =
      meant declared_terminal declared_rule (codes "ID") (states_with next).terminals (states_with next).rules 1 id_terminal
      (first_later (differ _ _ refl) (first_here refl)) (differ _ _ refl, (differ _ _ refl, tt))

  pub no_terminal_state : (t : ℕ) (terminal : Terminal) → ¬ IsTerminal (states_with next) (codes "State") t terminal
  no_terminal_state t terminal =
      not_meant declared_terminal declared_rule (codes "State") (states_with next).terminals (states_with next).rules t terminal (differ _ _ refl, (differ _ _ refl, tt))

  pub model_entry : IsEntry (states_with next) 0 model_rule
  model_entry = first_here (refl, refl)

  pub state_no_entry : ¬ IsEntry (states_with next) 1 (state_rule next)
  state_no_entry is = true≢false (sym is.does.0)

  -- ---- types
  pub undeclared : (name : List ℕ) → ¬ IsDeclared (states_with next) name
  undeclared name (by_interface i interface is) = none-some interface is.first.there
  undeclared name (by_union u union is) = none-some union is.first.there

  pub no_fragments : Every (λ (rule : Rule). rule.is_fragment ≡ false) (states_with next).rules
  no_fragments = (refl, (refl, tt))

  -- no rule has an action or an unassigned call
  abbrev AddsNone : Leaf → Type 0
  AddsNone (leaf.Keyword text s) = Unit {0}
  AddsNone (leaf.Assign p op v s) = Unit {0}
  AddsNone _ = ⊥

  adds_none : Every (λ (rule : Rule). Every AddsNone (leaves rule.body)) (states_with next).rules
  adds_none = (
    subst (Every AddsNone) (sym of_model) (tt, (tt, (tt, tt))),
    (subst (Every AddsNone) (sym of_state) (tt, (tt, (tt, (tt, (tt, tt))))), tt),
  )

  no_such_leaf : (rule : Rule) (all : List Leaf) (l : Leaf) → Contains (states_with next).rules rule → HasLeaves (states_with next) rule all → Contains all l → AddsNone l
  no_such_leaf rule all l in_rules has there =
      every_of AddsNone (leaves rule.body) l (every_of (λ (x : Rule). Every AddsNone (leaves x.body)) (states_with next).rules rule adds_none in_rules)
      (subst (λ ls. Contains ls l) (only_leaves (states_with next) no_fragments rule all has) there)

  nothing_below : (below above : List ℕ) → ¬ IsDirectlyBelow (states_with next) below above
  nothing_below below above (extends i interface is _) = none-some interface is.first.there
  nothing_below below above (is_member u union s is _) = none-some union is.first.there
  nothing_below below above (acts rule all a in_rules _ has there) = no_such_leaf rule all (leaf.Act a) in_rules has there
  nothing_below below above (calls rule all name s r other in_rules _ has there _ _) = no_such_leaf rule all (leaf.Call name s) in_rules has there

  pub below_same : (below top : List ℕ) → IsSubtype (states_with next) below top → below ≡ top
  below_same below top is = below_itself (states_with next) below top (nothing_below below) is

  -- ---- the name rule of `[State]`
  named_by_id : FirstNames state_leaves (codes "ID")
  named_by_id = later (λ other is. is) (here (refl, refl, subst (λ f. IsCallOf f (codes "ID")) (sym (value.outs-Call (codes "ID") nowhere)) refl))

  only_by_id : (called : List ℕ) → FirstNames state_leaves called → called ≡ codes "ID"
  only_by_id called (here is) = absurd is
  only_by_id called (later _ (here is)) = subst (λ f. IsCallOf f called) (value.outs-Call (codes "ID") nowhere) is.2
  only_by_id called (later _ (later none _)) =
      absurd (none (codes "ID") (refl, refl, subst (λ f. IsCallOf f (codes "ID")) (sym (value.outs-Call (codes "ID") nowhere)) refl))

  state_names : NamesNodesOf (states_with next) (codes "State") (codes "ID") (state_rule next)
  state_names = (
    codes "State",
    (refl, refl),
    same,
    leaves (state_rule next).body,
    own_leaves (states_with next) no_fragments (state_rule next),
    subst (λ ls. FirstNames ls (codes "ID")) (sym of_state) named_by_id,
  )

  model_names_none : (called : List ℕ) → ¬ NamesNodesOf (states_with next) (codes "State") called model_rule
  model_names_none called (own, typed, below, _, _, _) =
      let is : own ≡ codes "Model" = typed.1 in
      let was : own ≡ codes "State" = below_same own (codes "State") below in differ (codes "Model") (codes "State") refl (sym is ∙ was)

  pub state_name_rule : IsNameRule (states_with next) (codes "State") (codes "ID")
  state_name_rule = record {
    number = 1;
    rule = state_rule next;
    first = first_later (λ names. model_names_none names.0 names.1) (first_here (codes "ID", state_names));
    names = state_names;
  }

  abbrev Only : Rule → Type 0
  Only rule = (name : List ℕ) → NamesNodesOf (states_with next) (codes "State") name rule → name ≡ codes "ID"

  pub only_name_rule : (called : List ℕ) → IsNameRule (states_with next) (codes "State") called → called ≡ codes "ID"
  only_name_rule called is =
      every_at Only (states_with next).rules is.number is.rule (
        λ name names. absurd (model_names_none name names),
        (
          λ name names.
              only_by_id name
              (subst (λ ls. FirstNames ls name) (only_leaves (states_with next) no_fragments (state_rule next) names.3 names.4 ∙ of_state) names.5),
          tt,
        ),
      )
      is.first.there called is.names

  -- ---- what is called and reached
  pub model_calls_state : RuleCalls (states_with next) model_rule (codes "State")
  model_calls_state =
      reached.assigns (codes "states") Add (value.Call (codes "State") nowhere) nowhere
      (subst (λ ls. Contains ls (leaf.Assign (codes "states") Add (value.Call (codes "State") nowhere) nowhere)) (sym of_model) (2, omega arith, refl))
      (reached.calls nowhere (rw values-Call (0, omega arith, refl)))

  pub state_reached : IsReached (states_with next) 1
  state_reached = reached.called model_rule (state_rule next) (codes "State") (reached.entry model_rule model_entry) refl model_calls_state state_named

  state_calls_id : RuleCalls (states_with next) (state_rule next) (codes "ID")
  state_calls_id =
      reached.assigns (codes "name") One id_call nowhere
      (subst (λ ls. Contains ls (leaf.Assign (codes "name") One id_call nowhere)) (sym of_state) (1, omega arith, refl))
      (reached.calls nowhere (rw values-Call (0, omega arith, refl)))

-- with `[State:ID]` a state calls ID alone
pub state_calls_alone : (name : List ℕ) → RuleCalls states_by_id (state_rule by_id) name → name ≡ codes "ID"
state_calls_alone name is =
    calls_only states_by_id (λ called. called ≡ codes "ID") (state_rule by_id) (state_leaves by_id) name (of_state by_id) (
      tt,
      (
        λ n does. sym (calls_by_call states_by_id (codes "ID") n nowhere does),
        (tt, (λ n does. sym (calls_by_cross states_by_id (codes "State") (codes "ID") n nowhere does), (tt, tt))),
      ),
    )
    is

-- and `[State]` reads its text by ID, and by nothing else
pub by_name_calls : ValueCalls states_by_name by_name (codes "ID")
by_name_calls =
    reached.crosses_by_name (codes "State") nowhere
    (subst (λ ls. Contains ls (Cross (codes "State") None nowhere)) (sym (values-Cross (codes "State") None nowhere)) (0, omega arith, refl))
    (state_name_rule by_name)

pub by_name_calls_alone : (name : List ℕ) → ValueCalls states_by_name by_name name → name ≡ codes "ID"
by_name_calls_alone name is = only_name_rule by_name name (calls_by_name states_by_name (codes "State") name nowhere is)

-- ---- kinds, told by their texts, and the size
model_keywords : keywords_in model_rule.body ≡ codes "model" ∷ []
model_keywords = simp (leaf_equations, value_equations)

pub state_keywords : keywords_in (state_rule by_id).body ≡ codes "state" ∷ codes "to" ∷ codes "end" ∷ []
state_keywords = simp (leaf_equations, value_equations)

two_lists : (xs ys : List (List ℕ)) {x y : List (List ℕ)} → xs ≡ x → ys ≡ y → xs ++ (ys ++ []) ≡ x ++ y
two_lists xs ys {x} {y} f g = ap (λ l. xs ++ l) (append-nil ys ∙ g) ∙ ap (λ l. l ++ y) f

pub its_kinds : AreKinds states_by_id states_kinds
its_kinds = record {
  rules = model_rule ∷ state_rule by_id ∷ [];
  reached = keep.kept (reached.entry model_rule (model_entry by_id)) (keep.kept (state_reached by_id) keep.nothing);
  keywords = sym (ap (first_uses []) (two_lists _ _ model_keywords state_keywords));
  terminals =
      keep.kept (kind.hidden space_terminal refl refl refl)
      (keep.kept (kind.called id_terminal (codes "ID") 1 (state_rule by_id) (id_named by_id) refl (state_reached by_id) refl (state_calls_id by_id)) keep.nothing);
}

pub id_kind : IsTerminalKind states_by_id states_kinds (codes "ID") 5
id_kind = record {
  place = 1;
  terminal = id_terminal;
  meant = id_named by_id;
  number = 1;
  kept = first_later (λ e. differ (codes "WS") (codes "ID") refl (ap (λ (t : Terminal). t.name) e)) (first_here refl);
  behind = refl;
}

pub no_state_kind : (k : ℕ) → ¬ IsTerminalKind states_by_id states_kinds (codes "State") k
no_state_kind k is = no_terminal_state by_id is.place is.terminal is.meant

pub model_text : IsKindText states_by_id 0 (codes "'model'")
model_text = (texts_of states_kinds, (states_kinds, its_kinds, refl), refl)

pub no_seventh_text : (text : List ℕ) → ¬ IsKindText states_by_id 6 text
no_seventh_text text (texts, (of, are, is), at) =
    none-some text (ap (λ ts. slice_get ts 6) (sym (is ∙ ap texts_of (one_kinds states_by_id of states_kinds are its_kinds))) ∙ at)

pub its_size : size states_by_id ≡ 23
its_size = simp size_equations
