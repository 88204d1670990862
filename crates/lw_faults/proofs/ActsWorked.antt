-- Actions that stand where they may not, and the same where they may.
use Rattle.std.proofs.Common.{◌≡◌, ◌≢◌, ℕ, List, [], ◌∷◌, ◌++◌, Some, None, Bool, false, codes, refl, sym, subst, arith}
use Rattle.std.proofs.lemmas.Option.{none-some}
use Rattle.lw_base.specs.declared.token.Span.{Span}
use Rattle.lw_grammar.specs.declared.grammar.Grammar.{Grammar}
use Rattle.lw_grammar.specs.declared.rule.Rule.{Rule}
use Rattle.lw_grammar.specs.declared.rule.Action.{Action}
use Rattle.lw_grammar.specs.declared.rule.Op.TheVariants.{One}
use Rattle.lw_grammar.specs.declared.rule.Element.{Element}
use Rattle.lw_grammar.specs.declared.rule.Element.TheVariants.{Act, Group, Maybe, Many, outs-Many}
use Rattle.lw_grammar.specs.declared.rule.Value0.TheVariants as value
use Rattle.lw_grammar.specs.Leaves as leaf
use Rattle.lw_grammar.specs.Leaves.{Leaf, leaves}
use Rattle.lw_grammar.specs.Named.{IsRule, declared_rule, declared_terminal}
use Rattle.lw_grammar.proofs.LeafLemmas.{leaf_equations}
use Rattle.lw_faults.specs.Steps.{Step, step, GetsTo, ComesLayer, BodyBegins}
use Rattle.lw_faults.specs.Steps as steps
use Rattle.lw_faults.specs.Misplaced.{MisplacedAction, simple, current}
use Rattle.lw_faults.specs.Worked.{StandsAlone, StandsNowhere, place, no_place, keyword_of, x_id, makes_b, takes_b, both, alone, two_parts, action_and_word, calls_f, acts_f, acts_in_fragment}
use Rattle.lw_grammar.proofs.Every.{Every, differ, first_here, first_later, meant}
use Rattle.lw_faults.proofs.AloneLemmas.{the_rule}
use Rattle.lw_faults.proofs.StepLemmas.{HasWay, HoldsIn, HasNoFragment, can_come, holds_of_step, own_step, holds_behind}
use Rattle.lw_faults.proofs.WorkedSteps.{word_way, word_goes, word_holds, assign_way, assign_goes, assign_holds, act_way, act_goes, act_holds, to_act, to_call, pair_goes, to_first, to_second, pair_holds, maybe_holds}

-- ---- how actions are looked at

-- the action stands at this place
abbrev ActsAt : ℕ → Span → List ℕ → Rule → Leaf → Type 0
ActsAt file s name rule (leaf.Act a) = (rule.file ≡ file) × (a.span ≡ s) × (rule.name ≡ name)
ActsAt file s name rule _ = Unit {0}

-- the action comes where it may
abbrev ActsWell : List Step → Leaf → Type 0
ActsWell before (leaf.Act a) = (a.put ≡ None → before ≡ []) × ((put : List ℕ × Bool) → a.put ≡ Some put → before ≢ [])
ActsWell before _ = Unit {0}

module _ (g : Grammar) where
  abbrev AllActsAt : ℕ → Span → List ℕ → Type 0
  AllActsAt file s name = Every (λ (rule : Rule). Every (ActsAt file s name rule) (leaves rule.body)) g.rules

  only_act : (file : ℕ) (s : Span) (name : List ℕ) → AllActsAt file s name → (f : ℕ) (t : Span) (n : List ℕ) → MisplacedAction g f t n →
      (f ≡ file) × (t ≡ s) × (n ≡ name)
  only_act file s name all f t n (simple rule written before a is _ _) = holds_of_step g (ActsAt file s name) all is
  only_act file s name all f t n (current rule written a put is _) = holds_of_step g (ActsAt file s name) all is

  all_well : HasNoFragment g → Every (λ (rule : Rule). HoldsIn g ActsWell rule rule.body) g.rules → StandsNowhere (MisplacedAction g)
  all_well none all file s name (simple rule written before a is makes some) = some ((holds_behind g ActsWell none all is).0 makes)
  all_well none all file s name (current rule written a put is takes) = (holds_behind g ActsWell none all is).1 put takes refl

-- ---- an assignment and an action in a row

abbrev pub x_leaf : Leaf
x_leaf = leaf.Assign (codes "x") One (value.Call (codes "ID") no_place) no_place

module _ (one other : Element) where
  abbrev R : Rule
  R = the_rule (Group (both one other) no_place)

  -- each action of it stands at one place
  pair_acts : (s : Span) (x y : Leaf) → leaves R.body ≡ x ∷ y ∷ [] → ActsAt 0 s (codes "A") R x → ActsAt 0 s (codes "A") R y →
      (f : ℕ) (t : Span) (n : List ℕ) → MisplacedAction (two_parts one other) f t n → (f ≡ 0) × (t ≡ s) × (n ≡ codes "A")
  pair_acts s x y is first second = only_act (two_parts one other) 0 s (codes "A") (subst (Every (ActsAt 0 s (codes "A") R)) (sym is) (first, (second, tt)), tt)

  -- and it comes where it may
  pair_well : {way : List Step} → HasWay (two_parts one other) R one way → HoldsIn (two_parts one other) ActsWell R one →
      HoldsIn (two_parts one other) (λ before l. ActsWell (way ++ before) l) R other → StandsNowhere (MisplacedAction (two_parts one other))
  pair_well way first second = all_well (two_parts one other) (refl, tt) (pair_holds (two_parts one other) ActsWell way first second, tt)

not_empty : {x : Step} {xs : List Step} → x ∷ xs ≢ []
not_empty same = cc

module _ (s : Span) where
  abbrev makes : Element
  makes = Act (makes_b s)

  abbrev takes : Element
  takes = Act (takes_b s)

  -- nothing is before it, or something is
  makes_well : ActsWell [] (leaf.Act (makes_b s))
  makes_well = (λ _. refl, λ put is. absurd (none-some put is))

  takes_well : {x : Step} → ActsWell (x ∷ []) (leaf.Act (takes_b s))
  takes_well = (λ none. absurd (none-some (codes "p", false) (sym none)), λ put is. not_empty)

  pub behind : StandsAlone (MisplacedAction (two_parts x_id makes)) 0 s (codes "A")
  behind = (
    simple (R x_id makes) (R x_id makes) (step (R x_id makes) x_leaf ∷ []) (makes_b s)
        (own_step (two_parts x_id makes) (0, omega arith, refl) refl (to_second _ (assign_goes _) (to_act _)) (λ is. is.2)) refl not_empty,
    pair_acts x_id makes s x_leaf (leaf.Act (makes_b s)) (simp leaf_equations) tt (refl, refl, refl),
  )

  pub before : StandsNowhere (MisplacedAction (two_parts makes x_id))
  before = pair_well makes x_id (act_way _) (act_holds _ ActsWell makes_well) (assign_holds _ (λ before. ActsWell (step (R makes x_id) (leaf.Act (makes_b s)) ∷ before)) tt)

  pub behind_keyword : StandsNowhere (MisplacedAction (two_parts (keyword_of (codes "k")) makes))
  behind_keyword = pair_well (keyword_of (codes "k")) makes (word_way _) (word_holds _ ActsWell) (act_holds _ ActsWell makes_well)

  pub takes_none : StandsAlone (MisplacedAction (two_parts takes x_id)) 0 s (codes "A")
  takes_none = (
    current (R takes x_id) (R takes x_id) (takes_b s) (codes "p", false)
        (own_step (two_parts takes x_id) (0, omega arith, refl) refl (to_first _ _ (to_act _)) (λ is. is.2)) refl,
    pair_acts takes x_id s (leaf.Act (takes_b s)) x_leaf (simp leaf_equations) (refl, refl, refl) tt,
  )

  pub takes_some : StandsNowhere (MisplacedAction (two_parts x_id takes))
  takes_some = pair_well x_id takes (assign_way _) (assign_holds _ ActsWell tt) (act_holds _ (λ before. ActsWell (step (R x_id takes) x_leaf ∷ before)) takes_well)

-- ---- an action and a word, repeated or not

abbrev word_act : Action
word_act = makes_b (place 20 29)

abbrev M : Rule
M = the_rule (Many action_and_word no_place)

many_leaves : leaves M.body ≡ leaf.Act word_act ∷ leaf.Keyword (codes "x") no_place ∷ []
many_leaves = simp leaf_equations

again : GetsTo (alone (Many action_and_word no_place)) M M.body (step M (leaf.Act word_act) ∷ []) (leaf.Act word_act)
again =
    can_come _ (outs-Many action_and_word no_place) (ComesLayer.repeated (steps.again (pair_goes _ (act_goes _) (word_goes _)) steps.stop) (to_first _ _ (to_act _)))

pub repeated : StandsAlone (MisplacedAction (alone (Many action_and_word no_place))) 0 (place 20 29) (codes "A")
repeated = (
  simple M M (step M (leaf.Act word_act) ∷ []) word_act (own_step (alone (Many action_and_word no_place)) (0, omega arith, refl) refl again (λ is. is.2)) refl
      not_empty,
  only_act (alone (Many action_and_word no_place)) 0 (place 20 29) (codes "A")
      (subst (Every (ActsAt 0 (place 20 29) (codes "A") M)) (sym many_leaves) ((refl, refl, refl), (tt, tt)), tt),
)

pub optional : StandsNowhere (MisplacedAction (alone (Maybe action_and_word no_place)))
optional =
    all_well (alone (Maybe action_and_word no_place)) (refl, tt)
    (maybe_holds _ ActsWell (pair_holds _ ActsWell (act_way _) (act_holds _ ActsWell (makes_well (place 20 29))) (word_holds _ _)), tt)

-- ---- in a fragment

f_named : IsRule acts_in_fragment (codes "F") 1 acts_f
f_named =
    meant declared_rule declared_terminal (codes "F") acts_in_fragment.rules acts_in_fragment.terminals 1 acts_f
    (first_later (differ _ _ refl) (first_here refl)) (differ _ _ refl, tt)

abbrev f_act : Action
f_act = makes_b (place 39 48)

f_begins : BodyBegins acts_in_fragment calls_f (step calls_f x_leaf ∷ []) acts_f
f_begins =
    BodyBegins.put_in (leaf.Call (codes "F") no_place) 1 acts_f (steps.itself (0, omega arith, refl) refl) (to_second acts_in_fragment (assign_goes _) (to_call _))
    (f_named, refl)

calls_leaves : leaves calls_f.body ≡ x_leaf ∷ leaf.Call (codes "F") no_place ∷ []
calls_leaves = simp leaf_equations

acts_leaves : leaves acts_f.body ≡ leaf.Act f_act ∷ []
acts_leaves = simp leaf_equations

pub in_fragment : StandsAlone (MisplacedAction acts_in_fragment) 0 (place 39 48) (codes "F")
in_fragment = (
  simple calls_f acts_f (step calls_f x_leaf ∷ []) f_act (record {
    outside = step calls_f x_leaf ∷ [];
    inside = [];
    begins = f_begins;
    comes = to_act _;
    single = λ is. is.2;
    all = refl;
  })
      refl not_empty,
  only_act acts_in_fragment 0 (place 39 48) (codes "F") (
    subst (Every (ActsAt 0 (place 39 48) (codes "F") calls_f)) (sym calls_leaves) (tt, (tt, tt)),
    (subst (Every (ActsAt 0 (place 39 48) (codes "F") acts_f)) (sym acts_leaves) ((refl, refl, refl), tt), tt),
  ),
)
