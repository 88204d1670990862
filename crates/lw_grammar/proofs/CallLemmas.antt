-- What a rule calls, from its leaves, and which types are below others where few pairs are.
use Rattle.std.proofs.Common.{◌≡◌, ℕ, List, [], ◌∷◌, Some, None, Contains, refl, subst}
use Rattle.lw_base.specs.declared.token.Span.{Span}
use Rattle.lw_grammar.specs.declared.grammar.Grammar.{Grammar}
use Rattle.lw_grammar.specs.declared.rule.Rule.{Rule}
use Rattle.lw_grammar.specs.declared.rule.Value0.TheVariants as value
use Rattle.lw_grammar.specs.Leaves.{Leaf, leaves, value_leaves, ValueLeaf, Calls, Cross}
use Rattle.lw_grammar.specs.Leaves as leaf
use Rattle.lw_grammar.specs.NameRules.{IsNameRule}
use Rattle.lw_grammar.specs.Named.{IsRule}
use Rattle.lw_grammar.specs.Nodes.{MakesNodes}
use Rattle.lw_grammar.specs.Nodes as nodes
use Rattle.lw_grammar.specs.Reached.{ValueCalls, RuleCalls}
use Rattle.lw_grammar.specs.Reached as reached
use Rattle.lw_grammar.specs.Subtypes.{IsDirectlyBelow, IsSubtype, same, up}
use Rattle.lw_grammar.proofs.LeafLemmas.{values-Call, values-Cross}
use Rattle.lw_grammar.proofs.Every.{Every, every_of}

the_item : {X : Type 0} (x y : X) → Contains (x ∷ []) y → x ≡ y
the_item x y has = every_of (λ z. x ≡ z) (x ∷ []) y (refl, tt) has

module _ (g : Grammar) where
  -- what a value calls
  pub calls_by_call : (called name : List ℕ) (s : Span) → ValueCalls g (value.Call called s) name → called ≡ name
  calls_by_call called name s (reached.calls t has) =
      let is : Calls called s ≡ Calls name t = the_item _ _ (subst (λ ls. Contains ls (Calls name t)) (values-Call called s) has) in cc
  calls_by_call called name s (reached.crosses wanted t has) =
      let is : Calls called s ≡ Cross wanted (Some name) t = the_item _ _ (subst (λ ls. Contains ls (Cross wanted (Some name) t)) (values-Call called s) has) in cc
  calls_by_call called name s (reached.crosses_by_name wanted t has _) =
      let is : Calls called s ≡ Cross wanted None t = the_item _ _ (subst (λ ls. Contains ls (Cross wanted None t)) (values-Call called s) has) in cc

  pub calls_by_cross : (type_name called name : List ℕ) (s : Span) → ValueCalls g (value.Cross type_name (Some called) s) name → called ≡ name
  calls_by_cross type_name called name s (reached.calls t has) =
      let is : Cross type_name (Some called) s ≡ Calls name t =
      the_item _ _ (subst (λ ls. Contains ls (Calls name t)) (values-Cross type_name (Some called) s) has) in cc
  calls_by_cross type_name called name s (reached.crosses wanted t has) =
      let is : Cross type_name (Some called) s ≡ Cross wanted (Some name) t =
      the_item _ _ (subst (λ ls. Contains ls (Cross wanted (Some name) t)) (values-Cross type_name (Some called) s) has) in cc
  calls_by_cross type_name called name s (reached.crosses_by_name wanted t has _) =
      let is : Cross type_name (Some called) s ≡ Cross wanted None t =
      the_item _ _ (subst (λ ls. Contains ls (Cross wanted None t)) (values-Cross type_name (Some called) s) has) in cc

  pub calls_by_name : (type_name name : List ℕ) (s : Span) → ValueCalls g (value.Cross type_name None s) name → IsNameRule g type_name name
  calls_by_name type_name name s (reached.calls t has) =
      absurd (let is : Cross type_name None s ≡ Calls name t = the_item _ _ (subst (λ ls. Contains ls (Calls name t)) (values-Cross type_name None s) has) in cc)
  calls_by_name type_name name s (reached.crosses wanted t has) =
      absurd (let is : Cross type_name None s ≡ Cross wanted (Some name) t =
      the_item _ _ (subst (λ ls. Contains ls (Cross wanted (Some name) t)) (values-Cross type_name None s) has) in cc)
  calls_by_name type_name name s (reached.crosses_by_name wanted t has is_name) =
      let is : Cross type_name None s ≡ Cross wanted None t = the_item _ _ (subst (λ ls. Contains ls (Cross wanted None t)) (values-Cross type_name None s) has) in
      let wanted_is : wanted ≡ type_name = cc in subst (λ n. IsNameRule g n name) wanted_is is_name

  -- what a rule calls, and what a leaf of it may call
  abbrev pub CallsOnly : (List ℕ → Type 0) → Leaf → Type 0
  CallsOnly P (leaf.Call name s) = P name
  CallsOnly P (leaf.Assign p op v s) = (name : List ℕ) → ValueCalls g v name → P name
  CallsOnly P _ = Unit {0}

  pub calls_only : (P : List ℕ → Type 0) (rule : Rule) (ls : List Leaf) (name : List ℕ) → leaves rule.body ≡ ls → Every (CallsOnly P) ls → RuleCalls g rule name → P name
  calls_only P rule ls name is all (reached.calls s has) = every_of (CallsOnly P) ls (leaf.Call name s) all (subst (λ xs. Contains xs (leaf.Call name s)) is has)
  calls_only P rule ls name is all (reached.assigns p op v s has does) =
      every_of (CallsOnly P) ls (leaf.Assign p op v s) all (subst (λ xs. Contains xs (leaf.Assign p op v s)) is has) name does

  -- no leaf puts anything into a node, and none calls a rule
  abbrev pub MakesNone : Leaf → Type 0
  MakesNone (leaf.Keyword text s) = Unit {0}
  MakesNone (leaf.Call name s) = (r : ℕ) (rule : Rule) → ¬ IsRule g name r rule
  MakesNone _ = ⊥

  pub makes_none : (rule : Rule) (ls : List Leaf) → leaves rule.body ≡ ls → Every MakesNone ls → ¬ MakesNodes g rule
  makes_none rule ls is all (nodes.assigns p op v s has) = every_of MakesNone ls (leaf.Assign p op v s) all (subst (λ xs. Contains xs (leaf.Assign p op v s)) is has)
  makes_none rule ls is all (nodes.acts a has) = every_of MakesNone ls (leaf.Act a) all (subst (λ xs. Contains xs (leaf.Act a)) is has)
  makes_none rule ls is all (nodes.calls name s r called has called_is _) =
      every_of MakesNone ls (leaf.Call name s) all (subst (λ xs. Contains xs (leaf.Call name s)) is has) r called called_is

  -- a type that is directly below none is below itself alone
  pub below_itself : (below top : List ℕ) → ((above : List ℕ) → ¬ IsDirectlyBelow g below above) → IsSubtype g below top → below ≡ top
  below_itself below top none same = refl
  below_itself below top none (up {above} is _) = absurd (none above is)
