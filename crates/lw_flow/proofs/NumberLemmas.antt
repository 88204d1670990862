-- The numbers of types: a name that stands among the names has one, and a number has one name.
use Rattle.std.proofs.Common.{◌≡◌, ℕ, ◌+◌, zero, suc, List, [], ◌∷◌, ◌++◌, Bool, true, false, Option, Some, None, slice_get, position, bytes_eq, option_and_then, cond, get_or, true≢false, Contains, refl, sym, ap, ◌∙◌, subst, arith, map}
use Rattle.std.specs.List.{flat_map, position_from}
use Rattle.std.proofs.lemmas.Option.{none-some, same_Some, slice_get-get_or}
use Rattle.std.proofs.lemmas.List.Elements.{Contains-append_left, Contains-append_right}
use Rattle.std.proofs.lemmas.Slice.Eq.{bytes_eq-Decides}
use Rattle.std.proofs.lemmas.List.Quantifiers.{position-Some}
use Rattle.std.proofs.lemmas.Iterator.Adapters.{position_from-zero}
use Rattle.lw_grammar.specs.declared.declared_types.Interface.{Interface}
use Rattle.lw_grammar.specs.declared.declared_types.UnionDef.{UnionDef}
use Rattle.lw_grammar.specs.declared.grammar.Grammar.{Grammar}
use Rattle.lw_grammar.specs.declared.rule.Rule.{Rule}
use Rattle.lw_grammar.specs.declared.rule.RuleResult.{RuleResult}
use Rattle.lw_grammar.specs.declared.rule.RuleResult.TheVariants.{Own, Returns, Gives, Infers}
use Rattle.lw_grammar.specs.declared.rule.Action.{Action}
use Rattle.lw_grammar.specs.Leaves as leaf
use Rattle.lw_grammar.specs.Leaves.{Leaf, leaves}
use Rattle.lw_grammar.specs.Subtypes.{HasType, ResultNames}
use Rattle.lw_grammar.proofs.FirstUses.{same_text, Contains-first_uses}
use Rattle.lw_numbers.specs.Numbering.{type_names, rule_types, result_types, leaf_types, if_whole}
use Rattle.lw_flow.specs.Effects.{type_number, own_number, result_name}

-- ---- where a text stands

the_text : (name : List ℕ) → bytes_eq name name ≡ true
the_text name = (bytes_eq-Decides name name).1 refl

pub same_place : (name : List ℕ) (xs : List (List ℕ)) (n : ℕ) → position (bytes_eq name) xs ≡ Some n → slice_get xs n ≡ Some name
same_place name xs n is =
    let found = position-Some (bytes_eq name) xs n name is in
    slice_get-get_or xs n name found.0 ∙ ap Some (sym (same_text name (get_or xs n name) found.1))

from_place : (name : List ℕ) (i : ℕ) (xs : List (List ℕ)) → Contains xs name → (n : ℕ) × (position_from (bytes_eq name) i xs ≡ Some n)
from_place name i [] (k, inside, is) = absurd (omega (arith, inside))
from_place name i (x ∷ xs) has = by (from_place name (i + 1) xs) (bytes_eq name x) refl has
  where
    by : (Contains xs name → (n : ℕ) × (position_from (bytes_eq name) (i + 1) xs ≡ Some n)) → (b : Bool) → bytes_eq name x ≡ b → Contains (x ∷ xs) name →
        (n : ℕ) × (cond b (Some i) (position_from (bytes_eq name) (i + 1) xs) ≡ Some n)
    by later true same has = (i, refl)
    by later false not (zero, inside, is) = absurd (true≢false (sym (the_text name) ∙ ap (bytes_eq name) (sym is) ∙ not))
    by later false not (suc k, inside, is) = later (k, omega (arith, inside), is)

pub has_place : (name : List ℕ) (xs : List (List ℕ)) → Contains xs name → (n : ℕ) × (position (bytes_eq name) xs ≡ Some n)
has_place name xs has = let found = from_place name 0 xs has in (found.0, position_from-zero (bytes_eq name) xs ∙ found.1)

-- ---- the types of rules and actions stand among the names

Contains-flat_map : {X Y : Type 0} (f : X → List Y) (xs : List X) (x : X) (y : Y) → Contains xs x → Contains (f x) y → Contains (flat_map f xs) y
Contains-flat_map f [] x y (k, inside, is) has = absurd (omega (arith, inside))
Contains-flat_map f (z ∷ xs) x y (zero, inside, is) has =
    Contains-append_left (f z) (flat_map f xs) y (subst (λ z. Contains (f z) y) (sym is) has)
Contains-flat_map f (z ∷ xs) x y (suc k, inside, is) has =
    Contains-append_right (f z) (flat_map f xs) y (Contains-flat_map f xs x y (k, omega (arith, inside), is) has)

module _ (g : Grammar) where
  of_rule : (rule : Rule) (name : List ℕ) → Contains g.rules rule → Contains (rule_types rule) name → Contains (type_names g) name
  of_rule rule name has within =
      let declared = map (λ (i : Interface). i.name) g.interfaces ++ map (λ (u : UnionDef). u.name) g.unions in
      Contains-first_uses (declared ++ flat_map rule_types g.rules) name
      (Contains-append_right declared (flat_map rule_types g.rules) name (Contains-flat_map rule_types g.rules rule name has within))

  pub of_action : (rule : Rule) (a : Action) → Contains g.rules rule → Contains (leaves rule.body) (leaf.Act a) → Contains (type_names g) a.type_name
  of_action rule a has within =
      of_rule rule a.type_name has
      (Contains-append_right (if_whole rule.is_fragment (result_types rule rule.result)) (flat_map leaf_types (leaves rule.body)) a.type_name
      (Contains-flat_map leaf_types (leaves rule.body) (leaf.Act a) a.type_name within (0, omega arith, refl)))

  in_result : (rule : Rule) (result : RuleResult) (name : List ℕ) → ResultNames g result rule.name name → Contains (result_types rule result) name
  in_result rule Own name is = (0, omega arith, sym is)
  in_result rule (Returns _ _) name is = (0, omega arith, sym is)
  in_result rule (Gives _) name is = absurd is
  in_result rule (Infers _ _) name is = (0, omega arith, sym is)

  pub of_type : (rule : Rule) (name : List ℕ) → Contains g.rules rule → HasType g rule name → Contains (type_names g) name
  of_type rule name has (whole, is) =
      of_rule rule name has
      (Contains-append_left (if_whole rule.is_fragment (result_types rule rule.result)) (flat_map leaf_types (leaves rule.body)) name
      (subst (λ b. Contains (if_whole b (result_types rule rule.result)) name) (sym whole) (in_result rule rule.result name is)))

  -- ---- the number of a rule's type

  named_result : (own : List ℕ) (result : RuleResult) (name : List ℕ) → ResultNames g result own name → result_name own result ≡ Some name
  named_result own Own name is = ap Some (sym is)
  named_result own (Returns _ _) name is = ap Some (sym is)
  named_result own (Gives _) name is = absurd is
  named_result own (Infers _ _) name is = ap Some (sym is)

  pub own_type : (rule : Rule) (name : List ℕ) → HasType g rule name → own_number g rule ≡ type_number g name
  own_type rule name (whole, is) = ap (option_and_then (type_number g)) (named_result rule.name rule.result name is)

  result_of : (own : List ℕ) (result : RuleResult) (name : List ℕ) → result_name own result ≡ Some name → ResultNames g result own name
  result_of own Own name is = sym (same_Some own name is)
  result_of own (Returns returned _) name is = sym (same_Some returned name is)
  result_of own (Gives _) name is = absurd (none-some name is)
  result_of own (Infers inferred _) name is = sym (same_Some inferred name is)

  pub type_of_number : (rule : Rule) (name : List ℕ) (n : ℕ) → rule.is_fragment ≡ false → own_number g rule ≡ Some n → slice_get (type_names g) n ≡ Some name → HasType g rule name
  type_of_number rule name n whole is named = by (result_name rule.name rule.result) refl is
    where
      by : (o : Option (List ℕ)) → result_name rule.name rule.result ≡ o → option_and_then (type_number g) o ≡ Some n → HasType g rule name
      by None _ none = absurd (none-some n none)
      by (Some other) result at =
          let same : other ≡ name = same_Some other name (sym (same_place other (type_names g) n at) ∙ named) in
          (whole, result_of rule.name rule.result name (result ∙ ap Some same))
