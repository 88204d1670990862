-- The grammar with a union, a fragment and an action: what comes before each of its leaves, and which type is current there.
use Rattle.std.proofs.Common.{◌≡◌, ℕ, List, [], ◌∷◌, ◌++◌, Some, All, false, codes, bytes_eq, position, ◌⊎◌, inl, inr, refl, sym, ap, ap₂, ◌∙◌, subst, arith, true≢false}
use Rattle.std.specs.List.{flat_map}
use Rattle.std.proofs.lemmas.List.Elements.{All-nil, All-cons}
use Rattle.std.proofs.lemmas.Option.{same_Some}
use Rattle.lw_grammar.specs.declared.rule.Rule.{Rule}
use Rattle.lw_grammar.specs.declared.rule.Element.TheVariants.{Call, outs-Call}
use Rattle.lw_grammar.specs.declared.rule.Element.TheOpen as layer
use Rattle.lw_grammar.specs.Kinds.{first_uses}
use Rattle.lw_grammar.specs.Leaves as leaf
use Rattle.lw_grammar.specs.Leaves.{Leaf, leaves, IsFragmentCall}
use Rattle.lw_grammar.specs.Named.{IsRule}
use Rattle.lw_grammar.proofs.FirstLemmas.{first_item}
use Rattle.lw_grammar.proofs.Every.{Every, every_of, differ}
use Rattle.lw_faults.specs.Steps.{Step, step, GoesThrough, GoesLayer, GetsTo, BodyBegins, IsBehind, IsAct, IsNodeCall, NoneActs, IsCurrentType}
use Rattle.lw_faults.specs.Steps as steps
use Rattle.lw_faults.specs.Worked.{no_place}
use Rattle.lw_faults.proofs.StepLemmas.{HasWay, HoldsIn, what_goes, can_go, inside_rule, own_step, own_current}
use Rattle.lw_faults.proofs.WorkedSteps.{assign_way, assign_goes, assign_holds, to_assign, act_way, act_goes, act_holds, to_act, call_holds, to_call}
use Rattle.lw_numbers.specs.Numbering.{type_names, property_names, leaf_types, leaf_properties}
use Rattle.lw_flow.specs.declared.effect.Effect.TheVariants.{Acts}
use Rattle.lw_flow.specs.Effects.{type_number, HasEffect}
use Rattle.lw_flow.specs.Effects as effect
use Rattle.lw_flow.proofs.CurrentLemmas.{current_told}
use Rattle.lw_flow.proofs.NumberLemmas.{same_place}
use Rattle.lw_types.specs.Worked.{base_entry, base_ways, base_rule, pair_action, pair_parts, pair_rule, tail_fragment, pairs}
use Rattle.lw_types.proofs.Comings.{along_none, along_more, group_holds, choice_holds, to_row, to_chosen}
use Rattle.lw_types.proofs.Currents.{StandsOnce, once_here, once_later, leaves_differ, rules_differ, HasCurrent}
use Rattle.lw_types.proofs.PairsTypes.{x_leaf, name_leaf, y_leaf, t_leaf, pair_leaf, leaf_call, tail_call, of_entry, of_base, of_pair, of_tail, tail_named, no_fragment}

-- ---- numbers

abbrev types_by : List Leaf → List Leaf → List Leaf → List Leaf → List (List ℕ)
types_by a b c d =
    first_uses []
    (codes "Base" ∷ codes "Any"
    ∷ ((codes "Root" ∷ flat_map leaf_types a)
    ++ ((codes "Base" ∷ flat_map leaf_types b) ++ ((codes "Leaf" ∷ flat_map leaf_types c) ++ (flat_map leaf_types d ++ [])))))

pub type_numbers : type_names pairs ≡ codes "Base" ∷ codes "Any" ∷ codes "Root" ∷ codes "Leaf" ∷ codes "Pair" ∷ []
type_numbers =
    ap₂ (λ a b. types_by a b (leaves pair_rule.body) (leaves tail_fragment.body)) of_entry of_base
    ∙ ap₂ (λ c d. types_by (x_leaf ∷ leaf_call ∷ []) (name_leaf ∷ []) c d) of_pair of_tail

abbrev properties_by : List Leaf → List Leaf → List Leaf → List Leaf → List (List ℕ)
properties_by a b c d =
    first_uses []
    (codes "name" ∷ (flat_map leaf_properties a ++ (flat_map leaf_properties b ++ (flat_map leaf_properties c ++ (flat_map leaf_properties d ++ [])))))

pub property_numbers : property_names pairs ≡ codes "name" ∷ codes "x" ∷ codes "left" ∷ codes "y" ∷ codes "t" ∷ []
property_numbers =
    ap₂ (λ a b. properties_by a b (leaves pair_rule.body) (leaves tail_fragment.body)) of_entry of_base
    ∙ ap₂ (λ c d. properties_by (x_leaf ∷ leaf_call ∷ []) (name_leaf ∷ []) c d) of_pair of_tail

-- ---- what comes before a leaf, inside its rule

abbrev t_step : Step
t_step = step tail_fragment t_leaf

abbrev pair_step : Step
pair_step = step pair_rule pair_leaf

-- the call of the fragment goes through it
tail_layer : (done : List Step) → GoesLayer pairs pair_rule (layer.Call (codes "Tail") no_place) done → done ≡ t_step ∷ []
tail_layer _ (GoesLayer.called none) = absurd (none (3, tail_fragment, (tail_named, refl)))
tail_layer done (GoesLayer.put_in f fragment is way) =
    assign_way pairs done (subst (λ (x : Rule). GoesThrough pairs x x.body done) (first_item is.0.first tail_named.first) way)

tail_way : HasWay pairs pair_rule (Call (codes "Tail") no_place) (t_step ∷ [])
tail_way done does = tail_layer done (what_goes pairs (outs-Call (codes "Tail") no_place) does)

tail_goes : GoesThrough pairs pair_rule (Call (codes "Tail") no_place) (t_step ∷ [])
tail_goes = can_go pairs (outs-Call (codes "Tail") no_place) (GoesLayer.put_in 3 tail_fragment (tail_named, refl) (assign_goes pairs))

abbrev InPair : List Step → Leaf → Type 0
InPair before (leaf.Call name s) = (before ≡ []) × (name ≡ codes "Tail")
InPair before (leaf.Act a) = before ≡ t_step ∷ []
InPair before (leaf.Assign p op v s) = before ≡ t_step ∷ pair_step ∷ []
InPair before (leaf.Keyword text s) = Unit {0}

in_pair : HoldsIn pairs InPair pair_rule pair_rule.body
in_pair =
    group_holds pairs pair_rule InPair pair_parts
    (along_more pairs pair_rule InPair tail_way (call_holds pairs InPair (refl, refl))
    (along_more pairs pair_rule (λ before l. InPair (t_step ∷ before) l) (act_way pairs) (act_holds pairs (λ before l. InPair (t_step ∷ before) l) refl)
    (along_more pairs pair_rule (λ before l. InPair (t_step ∷ pair_step ∷ before) l) (assign_way pairs)
    (assign_holds pairs (λ before l. InPair (t_step ∷ pair_step ∷ before) l) refl) (along_none pairs pair_rule _))))

-- the other rules begin with each of their leaves
abbrev IsFirst : List Step → Leaf → Type 0
IsFirst before (leaf.Call name s) = (before ≡ []) × (name ≡ codes "Leaf")
IsFirst before _ = before ≡ []

in_entry : HoldsIn pairs IsFirst base_entry base_entry.body
in_entry = choice_holds pairs base_entry IsFirst base_ways (assign_holds pairs IsFirst refl, (call_holds pairs IsFirst (refl, refl), tt))

in_base : HoldsIn pairs IsFirst base_rule base_rule.body
in_base = assign_holds pairs IsFirst refl

in_tail : HoldsIn pairs IsFirst tail_fragment tail_fragment.body
in_tail = assign_holds pairs IsFirst refl

-- ---- where bodies begin: the fragment's in the rule that calls it, and the others' by themselves

abbrev EntersTail : Rule → Type 0
EntersTail rule =
    (before : List Step) (l : Leaf) (f : ℕ) (fragment : Rule) → GetsTo pairs rule rule.body before l → IsFragmentCall pairs l f fragment →
    (pair_rule ≡ rule) × (before ≡ []) × (fragment ≡ tail_fragment)

by_pair : EntersTail pair_rule
by_pair before (leaf.Call name s) f fragment gets is =
    let known = in_pair before (leaf.Call name s) gets in
    (refl, known.0, first_item (subst (λ n. IsRule pairs n f fragment) known.1 is.0).first tail_named.first)
by_pair before (leaf.Keyword text s) f fragment gets is = absurd is
by_pair before (leaf.Assign p op v s) f fragment gets is = absurd is
by_pair before (leaf.Act a) f fragment gets is = absurd is

by_none : (rule : Rule) → HoldsIn pairs IsFirst rule rule.body → EntersTail rule
by_none rule first before (leaf.Call name s) f fragment gets is =
    absurd (no_fragment f fragment (subst (λ n. IsRule pairs n f fragment) (first before (leaf.Call name s) gets).1 is.0, is.1))
by_none rule first before (leaf.Keyword text s) f fragment gets is = absurd is
by_none rule first before (leaf.Assign p op v s) f fragment gets is = absurd is
by_none rule first before (leaf.Act a) f fragment gets is = absurd is

all_enter : Every EntersTail pairs.rules
all_enter = (by_none base_entry in_entry, (by_none base_rule in_base, (by_pair, (by_none tail_fragment in_tail, tt))))

abbrev Begins : Rule → List Step → Rule → Type 0
Begins rule before inside =
    (before ≡ []) × (((inside ≡ rule) × (inside.is_fragment ≡ false)) ⊎ ((rule ≡ pair_rule) × (inside ≡ tail_fragment)))

begins : {rule inside : Rule} {before : List Step} → BodyBegins pairs rule before inside → Begins rule before inside
begins (steps.itself has whole) = (refl, inl (refl, whole))
begins (BodyBegins.put_in {rule} {inside} {before} {more} l f fragment sooner gets is) =
    let first = begins sooner in
    let enters = every_of EntersTail pairs.rules inside all_enter (inside_rule pairs sooner) more l f fragment gets is in
    (ap₂ (λ xs ys. xs ++ ys) first.0 enters.1, inr (owner first.1 enters.0, enters.2))
  where
    owner : ((inside ≡ rule) × (inside.is_fragment ≡ false)) ⊎ ((rule ≡ pair_rule) × (inside ≡ tail_fragment)) → pair_rule ≡ inside → rule ≡ pair_rule
    owner (inl own) is_pair = sym (is_pair ∙ own.0)
    owner (inr other) is_pair = other.0

-- ---- one type is current at each leaf

no_acts : NoneActs []
no_acts = All-nil (λ (x : Step). ¬ IsAct x.leaf)

no_calls : All (λ (x : Step). ¬ IsNodeCall pairs x.leaf) []
no_calls = All-nil (λ (x : Step). ¬ IsNodeCall pairs x.leaf)

no_act_in_tail : NoneActs (t_step ∷ [])
no_act_in_tail = All-cons (λ (x : Step). ¬ IsAct x.leaf) t_step [] (λ is. elim is [ ]) no_acts

no_call_in_tail : All (λ (x : Step). ¬ IsNodeCall pairs x.leaf) (t_step ∷ [])
no_call_in_tail = All-cons (λ (x : Step). ¬ IsNodeCall pairs x.leaf) t_step [] (λ is. elim is.1 [ ]) no_calls

module _ (rule : Rule) (l : Leaf) (way : List Step) (whole : rule.is_fragment ≡ false)
    (one_way : (before : List Step) → GetsTo pairs rule rule.body before l → before ≡ way) {owner : Rule} {before : List Step} {name : List ℕ} where
  -- the steps before the leaf of a rule that is no fragment are these
  settled : IsBehind pairs owner before (step rule l) → IsCurrentType pairs owner before name → IsCurrentType pairs rule way name
  settled is now =
      let at : Begins owner is.outside rule = begins is.begins in
      let all : before ≡ way = is.all ∙ ap₂ (λ xs ys. xs ++ ys) at.0 (one_way is.inside is.comes) in
      subst (λ x. IsCurrentType pairs x way name) (by at.1) (subst (λ xs. IsCurrentType pairs owner xs name) all now)
    where
      by : ((rule ≡ owner) × (rule.is_fragment ≡ false)) ⊎ ((owner ≡ pair_rule) × (rule ≡ tail_fragment)) → owner ≡ rule
      by (inl own) = sym own.0
      by (inr other) = absurd (true≢false (sym (ap (λ (x : Rule). x.is_fragment) other.1) ∙ whole))

-- ---- the entry's

entry_once : StandsOnce pairs.rules 0 base_entry
entry_once = once_here (rules_differ _ _ refl, (rules_differ _ _ refl, (rules_differ _ _ refl, tt)))

pub x_current : HasCurrent pairs 0 0 base_entry x_leaf 2
x_current = record {
  written = entry_once;
  at = subst (λ ls. StandsOnce ls 0 x_leaf) (sym of_entry) (once_here (leaves_differ _ _ refl, tt));
  type_name = codes "Root";
  numbered = subst (λ names. StandsOnce names 2 (codes "Root")) (sym type_numbers)
      (once_later (differ _ _ refl) (once_later (differ _ _ refl) (once_here (differ _ _ refl, (differ _ _ refl, tt)))));
  owner = base_entry;
  before = [];
  behind = own_step pairs (0, omega arith, refl) refl (to_chosen pairs base_entry base_ways _ (0, omega arith, refl) (to_assign pairs)) (λ is. is.2);
  current = steps.own no_acts no_calls (refl, refl);
  alone = λ owner before name is now.
      (own_current pairs no_acts no_calls (settled base_entry x_leaf [] refl (λ xs there. in_entry xs x_leaf there) is now)).1;
}

-- ---- of the rule that returns the interface

base_once : StandsOnce pairs.rules 1 base_rule
base_once = once_later (rules_differ _ _ refl) (once_here (rules_differ _ _ refl, (rules_differ _ _ refl, tt)))

pub name_current : HasCurrent pairs 1 0 base_rule name_leaf 0
name_current = record {
  written = base_once;
  at = subst (λ ls. StandsOnce ls 0 name_leaf) (sym of_base) (once_here tt);
  type_name = codes "Base";
  numbered = subst (λ names. StandsOnce names 0 (codes "Base")) (sym type_numbers)
      (once_here (differ _ _ refl, (differ _ _ refl, (differ _ _ refl, (differ _ _ refl, tt)))));
  owner = base_rule;
  before = [];
  behind = own_step pairs (1, omega arith, refl) refl (to_assign pairs) (λ is. is.2);
  current = steps.own no_acts no_calls (refl, refl);
  alone = λ owner before name is now.
      (own_current pairs no_acts no_calls (settled base_rule name_leaf [] refl (λ xs there. in_base xs name_leaf there) is now)).1;
}

-- ---- of the rule with the action, before it and behind it

pair_once : StandsOnce pairs.rules 2 pair_rule
pair_once = once_later (rules_differ _ _ refl) (once_later (rules_differ _ _ refl) (once_here (rules_differ _ _ refl, tt)))

pub leaf_type : StandsOnce (type_names pairs) 3 (codes "Leaf")
leaf_type =
    subst (λ names. StandsOnce names 3 (codes "Leaf")) (sym type_numbers)
    (once_later (differ _ _ refl) (once_later (differ _ _ refl) (once_later (differ _ _ refl) (once_here (differ _ _ refl, tt)))))

pub pair_type : StandsOnce (type_names pairs) 4 (codes "Pair")
pair_type =
    subst (λ names. StandsOnce names 4 (codes "Pair")) (sym type_numbers)
    (once_later (differ _ _ refl) (once_later (differ _ _ refl) (once_later (differ _ _ refl) (once_later (differ _ _ refl) (once_here tt)))))

pub act_current : HasCurrent pairs 2 1 pair_rule pair_leaf 3
act_current = record {
  written = pair_once;
  at = subst (λ ls. StandsOnce ls 1 pair_leaf) (sym of_pair) (once_later (leaves_differ _ _ refl) (once_here (leaves_differ _ _ refl, tt)));
  type_name = codes "Leaf";
  numbered = leaf_type;
  owner = pair_rule;
  before = t_step ∷ [];
  behind = own_step pairs (2, omega arith, refl) refl (to_row pairs pair_rule pair_parts (steps.later tail_goes (steps.here (to_act pairs)))) (λ is. is.2);
  current = steps.own no_act_in_tail no_call_in_tail (refl, refl);
  alone = λ owner before name is now.
      (own_current pairs no_act_in_tail no_call_in_tail
      (settled pair_rule pair_leaf (t_step ∷ []) refl (λ xs there. in_pair xs pair_leaf there) is now)).1;
}

-- the last action says which type is current
acts : HasEffect pairs (t_step ∷ pair_step ∷ []) (Acts (type_number pairs (codes "Pair")))
acts = effect.more effect.fills (effect.more effect.acts effect.none)

pub y_current : HasCurrent pairs 2 2 pair_rule y_leaf 4
y_current = record {
  written = pair_once;
  at = subst (λ ls. StandsOnce ls 2 y_leaf) (sym of_pair) (once_later (leaves_differ _ _ refl) (once_later (leaves_differ _ _ refl) (once_here tt)));
  type_name = codes "Pair";
  numbered = pair_type;
  owner = pair_rule;
  before = t_step ∷ pair_step ∷ [];
  behind = own_step pairs (2, omega arith, refl) refl
      (to_row pairs pair_rule pair_parts (steps.later tail_goes (steps.later (act_goes pairs) (steps.here (to_assign pairs))))) (λ is. is.2);
  current = IsCurrentType.acted (t_step ∷ []) [] pair_rule pair_action no_acts;
  alone = λ owner before name is now.
      from_number name
      (current_told pairs (settled pair_rule y_leaf (t_step ∷ pair_step ∷ []) refl (λ xs there. in_pair xs y_leaf there) is now) acts);
}
  where
    from_number : (name : List ℕ) → type_number pairs (codes "Pair") ≡ type_number pairs name → name ≡ codes "Pair"
    from_number name same =
        let number : type_number pairs name ≡ Some 4 = sym same ∙ ap (position (bytes_eq (codes "Pair"))) type_numbers in
        sym (same_Some (codes "Pair") name (sym pair_type.there ∙ same_place name (type_names pairs) 4 number))

-- ---- of the fragment, which is put in

tail_once : StandsOnce pairs.rules 3 tail_fragment
tail_once = once_later (rules_differ _ _ refl) (once_later (rules_differ _ _ refl) (once_later (rules_differ _ _ refl) (once_here tt)))

pub t_current : HasCurrent pairs 3 0 tail_fragment t_leaf 3
t_current = record {
  written = tail_once;
  at = subst (λ ls. StandsOnce ls 0 t_leaf) (sym of_tail) (once_here tt);
  type_name = codes "Leaf";
  numbered = leaf_type;
  owner = pair_rule;
  before = [];
  behind = record {
    outside = [];
    inside = [];
    begins = BodyBegins.put_in tail_call 3 tail_fragment (steps.itself (2, omega arith, refl) refl) (to_row pairs pair_rule pair_parts (steps.here (to_call pairs)))
        (tail_named, refl);
    comes = to_assign pairs;
    single = λ is. is.2;
    all = refl;
  };
  current = steps.own no_acts no_calls (refl, refl);
  alone = λ owner before name is now. by owner before name is now (begins is.begins);
}
  where
    by : (owner : Rule) (before : List Step) (name : List ℕ) (is : IsBehind pairs owner before t_step) → IsCurrentType pairs owner before name →
        Begins owner is.outside tail_fragment → name ≡ codes "Leaf"
    by owner before name is now (none, inl own) = absurd (true≢false own.1)
    by owner before name is now (none, inr other) =
        let all : before ≡ [] = is.all ∙ ap₂ (λ xs ys. xs ++ ys) none (in_tail is.inside t_leaf is.comes) in
        (own_current pairs no_acts no_calls
        (subst (λ x. IsCurrentType pairs x [] name) other.0 (subst (λ xs. IsCurrentType pairs owner xs name) all now))).1
