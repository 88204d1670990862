-- Calls of a rule that makes nodes that stand where they may not, and the same where they may.
use Rattle.std.proofs.Common.{◌≡◌, ℕ, List, [], ◌∷◌, codes, Any, Contains, refl, sym, ap, ◌∙◌, subst, arith, true≢false}
use Rattle.lw_base.specs.declared.token.Span.{Span}
use Rattle.lw_grammar.specs.declared.grammar.Grammar.{Grammar}
use Rattle.lw_grammar.specs.declared.rule.Rule.{Rule}
use Rattle.lw_grammar.specs.declared.rule.Op.TheVariants.{One}
use Rattle.lw_grammar.specs.declared.rule.Element.{Element}
use Rattle.lw_grammar.specs.declared.rule.Element.TheVariants.{Call, Group, Maybe, Many, outs-Many}
use Rattle.lw_grammar.specs.declared.rule.Value0.TheVariants as value
use Rattle.lw_grammar.specs.Leaves as leaf
use Rattle.lw_grammar.specs.Leaves.{Leaf, leaves}
use Rattle.lw_grammar.specs.Named.{IsRule, declared_rule, declared_terminal}
use Rattle.lw_grammar.specs.Nodes.{MakesNodes, assigns}
use Rattle.lw_grammar.proofs.FirstLemmas.{first_item}
use Rattle.lw_grammar.proofs.LeafLemmas.{leaf_equations}
use Rattle.lw_faults.specs.Steps.{Step, step, PutsInFragment, GetsTo, ComesLayer, IsBehind, CallsNode, node}
use Rattle.lw_faults.specs.Steps as steps
use Rattle.lw_faults.specs.Misplaced.{MisplacedCall, misplaced_call, FillsNode}
use Rattle.lw_faults.specs.Misplaced as misplaced
use Rattle.lw_faults.specs.Worked.{StandsAlone, StandsNowhere, place, no_place, x_id, both, entry_rule, alone, two_parts, node_rule, with_node, node_behind, node_before, node_and_word}
use Rattle.lw_grammar.proofs.Every.{Every, differ, first_here, first_later, meant}
use Rattle.lw_faults.proofs.ActsWorked.{x_leaf}
use Rattle.lw_faults.proofs.AloneLemmas.{the_rule, one_no_id}
use Rattle.lw_faults.proofs.StepLemmas.{HoldsIn, HasNoFragment, can_come, holds_of_step, own_step, holds_behind}
use Rattle.lw_faults.proofs.WorkedSteps.{word_goes, word_holds, assign_way, assign_goes, assign_holds, call_way, call_goes, call_holds, to_call, pair_goes, to_first, to_second, pair_holds, maybe_holds}

-- ---- how calls are looked at

-- the call stands at this place
abbrev CallsAt : ℕ → Span → List ℕ → Rule → Leaf → Type 0
CallsAt file s name rule (leaf.Call n t) = (rule.file ≡ file) × (t ≡ s) × (n ≡ name)
CallsAt file s name rule _ = Unit {0}

module _ (g : Grammar) where
  abbrev AllCallsAt : ℕ → Span → List ℕ → Type 0
  AllCallsAt file s name = Every (λ (rule : Rule). Every (CallsAt file s name rule) (leaves rule.body)) g.rules

  only_call : (file : ℕ) (s : Span) (name : List ℕ) → AllCallsAt file s name → (f : ℕ) (t : Span) (n : List ℕ) → MisplacedCall g f t n →
      (f ≡ file) × (t ≡ s) × (n ≡ name)
  only_call file s name all f t n (misplaced_call rule written called before called_name at is _ _) = holds_of_step g (CallsAt file s name) all is

  -- the call comes where it may
  abbrev CallsWell : List Step → Leaf → Type 0
  CallsWell before l = (called : Rule) → CallsNode g l called → ¬ Any (λ y. FillsNode g y.leaf) before

  all_well : HasNoFragment g → Every (λ (rule : Rule). HoldsIn g CallsWell rule rule.body) g.rules → StandsNowhere (MisplacedCall g)
  all_well none all file s name (misplaced_call rule written called before called_name at is calls some) = holds_behind g CallsWell none all is called calls some

  -- the first step comes where it may
  first_well : {l : Leaf} → CallsWell [] l
  first_well called calls (k, y, inside, _, _) = omega (arith, inside)

-- ---- with a rule B that makes nodes

module _ (body : Element) where
  abbrev G : Grammar
  G = with_node body

  abbrev A : Rule
  A = entry_rule (codes "A") no_place body

  b_named : IsRule G (codes "B") 1 node_rule
  b_named = meant declared_rule declared_terminal (codes "B") G.rules G.terminals 1 node_rule (first_later (differ _ _ refl) (first_here refl)) (differ _ _ refl, tt)

  b_leaves : leaves node_rule.body ≡ leaf.Assign (codes "y") One (value.Call (codes "ID") no_place) no_place ∷ []
  b_leaves = simp leaf_equations

  b_makes : MakesNodes G node_rule
  b_makes =
      assigns (codes "y") One (value.Call (codes "ID") no_place) no_place
      (subst (λ ls. Contains ls (leaf.Assign (codes "y") One (value.Call (codes "ID") no_place) no_place)) (sym b_leaves) (0, omega arith, refl))

  b_called : (s : Span) → CallsNode G (leaf.Call (codes "B") s) node_rule
  b_called s = node 1 node_rule b_named refl b_makes

  b_no_fragment : (s : Span) → ¬ PutsInFragment G (leaf.Call (codes "B") s)
  b_no_fragment s (f, fragment, is) = true≢false (sym is.1 ∙ ap (λ (x : Rule). x.is_fragment) (first_item is.0.first b_named.first))

  b_behind : {before : List Step} {s : Span} → GetsTo G A body before (leaf.Call (codes "B") s) → IsBehind G A before (step A (leaf.Call (codes "B") s))
  b_behind {s} there = own_step G (0, omega arith, refl) refl there (b_no_fragment s)

  -- the calls come where they may, since that of B makes none
  nowhere_called : HoldsIn G (CallsWell G) A body → StandsNowhere (MisplacedCall G)
  nowhere_called well = all_well G (refl, (refl, tt)) (well, (assign_holds G (CallsWell G) (first_well G), tt))

  -- the calls that are written stand at one place
  only_b : (s : Span) (ls : List Leaf) → leaves body ≡ ls → Every (CallsAt 0 s (codes "B") A) ls → (f : ℕ) (t : Span) (n : List ℕ) → MisplacedCall G f t n →
      (f ≡ 0) × (t ≡ s) × (n ≡ codes "B")
  only_b s ls is all =
      only_call G 0 s (codes "B") (subst (Every (CallsAt 0 s (codes "B") A)) (sym is) all, (subst (Every (CallsAt 0 s (codes "B") node_rule)) (sym b_leaves) (tt, tt), tt))

-- x=ID B
abbrev H : Element
H = Group node_behind no_place

pub behind : StandsAlone (MisplacedCall (with_node H)) 0 (place 24 25) (codes "B")
behind = (
  misplaced_call (A H) (A H) node_rule (step (A H) x_leaf ∷ []) (codes "B") (place 24 25) (b_behind H (to_second _ (assign_goes _) (to_call _)))
      (b_called H (place 24 25)) (0, step (A H) x_leaf, omega arith, refl, misplaced.assigns),
  only_b H (place 24 25) (x_leaf ∷ leaf.Call (codes "B") (place 24 25) ∷ []) (simp leaf_equations) (tt, ((refl, refl, refl), tt)),
)

-- B x=ID
abbrev J : Element
J = Group node_before no_place

pub before : StandsNowhere (MisplacedCall (with_node J))
before =
    nowhere_called J
    (pair_holds _ (CallsWell (with_node J)) (call_way _ (b_no_fragment J no_place)) (call_holds _ (CallsWell (with_node J)) (first_well (with_node J)))
    (assign_holds _ (λ before. CallsWell (with_node J) (step (A J) (leaf.Call (codes "B") no_place) ∷ before)) (λ called is has. elim is [ ])))

-- ---- repeated or not

abbrev M : Element
M = Many node_and_word no_place

again : GetsTo (with_node M) (A M) M (step (A M) (leaf.Call (codes "B") (place 20 21)) ∷ []) (leaf.Call (codes "B") (place 20 21))
again =
    can_come _ (outs-Many node_and_word no_place)
    (ComesLayer.repeated (steps.again (pair_goes _ (call_goes _ (b_no_fragment M (place 20 21))) (word_goes _)) steps.stop) (to_first _ _ (to_call _)))

pub repeated : StandsAlone (MisplacedCall (with_node M)) 0 (place 20 21) (codes "B")
repeated = (
  misplaced_call (A M) (A M) node_rule (step (A M) (leaf.Call (codes "B") (place 20 21)) ∷ []) (codes "B") (place 20 21) (b_behind M again)
      (b_called M (place 20 21)) (0, step (A M) (leaf.Call (codes "B") (place 20 21)), omega arith, refl, misplaced.calls (b_called M (place 20 21))),
  only_b M (place 20 21) (leaf.Call (codes "B") (place 20 21) ∷ leaf.Keyword (codes "x") no_place ∷ []) (simp leaf_equations) ((refl, refl, refl), (tt, tt)),
)

abbrev O : Element
O = Maybe node_and_word no_place

pub optional : StandsNowhere (MisplacedCall (with_node O))
optional =
    nowhere_called O
    (maybe_holds _ (CallsWell (with_node O))
    (pair_holds _ (CallsWell (with_node O)) (call_way _ (b_no_fragment O (place 20 21))) (call_holds _ (CallsWell (with_node O)) (first_well (with_node O)))
    (word_holds _ _)))

-- ---- a call of a terminal

module _ (s : Span) where
  abbrev I : Element
  I = Group (both x_id (Call (codes "ID") s)) no_place

  pub token : StandsNowhere (MisplacedCall (two_parts x_id (Call (codes "ID") s)))
  token =
      all_well (two_parts x_id (Call (codes "ID") s)) (refl, tt) (
        pair_holds _ (CallsWell (alone I)) (assign_way _) (assign_holds _ (CallsWell (alone I)) (first_well (alone I)))
            (call_holds _ (λ before. CallsWell (alone I) (step (the_rule I) x_leaf ∷ before)) none),
        tt,
      )
    where
      none : CallsWell (alone I) (step (the_rule I) x_leaf ∷ []) (leaf.Call (codes "ID") s)
      none called (node r rule is _ _) _ = one_no_id I r rule is
