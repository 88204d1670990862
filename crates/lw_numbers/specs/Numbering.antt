-- The numbers that names of a grammar have, in first-seen order. Rules and terminals share one row of numbers, rules first; a name that is
-- declared twice has the number of its first declaration.
use Rattle.std.specs.Prelude.{ℕ, ◌+◌, List, [], ◌∷◌, ◌++◌, Option, Some, None, Bool, true, false, length, map}
use Rattle.std.specs.List.{flat_map}
use Rattle.lw_grammar.specs.declared.grammar.Grammar.{Grammar}
use Rattle.lw_grammar.specs.declared.rule.Rule.{Rule}
use Rattle.lw_grammar.specs.declared.rule.RuleResult.{RuleResult}
use Rattle.lw_grammar.specs.declared.rule.RuleResult.TheVariants.{Own, Returns, Gives, Infers}
use Rattle.lw_grammar.specs.declared.terminal.Terminal.{Terminal}
use Rattle.lw_grammar.specs.declared.declared_types.Interface.{Interface}
use Rattle.lw_grammar.specs.declared.declared_types.UnionDef.{UnionDef}
use Rattle.lw_grammar.specs.Kinds.{first_uses}
use Rattle.lw_grammar.specs.Leaves.{Leaf, Assign, Act, leaves}
use Rattle.lw_grammar.specs.Named.{IsRule, IsTerminal, IsInterface, IsUnion}
use Rattle.lw_numbers.specs.declared.called.Called.{Called}
use Rattle.lw_numbers.specs.declared.called.Called.TheVariants as called
use Rattle.lw_numbers.specs.declared.declares.Declares.{Declares}
use Rattle.lw_numbers.specs.declared.declares.Declares.TheVariants as declares

-- the number of the rule or terminal that a name means
pub data IsNumbered (g : Grammar) (name : List ℕ) : ℕ → Type 0 where
  rule_ : (r : ℕ) (rule : Rule) → IsRule g name r rule → IsNumbered g name r
  terminal : (t : ℕ) (terminal : Terminal) → IsTerminal g name t terminal → IsNumbered g name (length g.rules + t)

abbrev pub if_whole : Bool → List (List ℕ) → List (List ℕ)
if_whole true names = []
if_whole false names = names

abbrev pub put_property : Option (List ℕ × Bool) → List (List ℕ)
put_property None = []
put_property (Some put) = put.0 ∷ []

-- ---- types: those of interfaces, of unions, then those of rules and of their actions, as they are written

abbrev pub result_types : Rule → RuleResult → List (List ℕ)
result_types rule Own = rule.name ∷ []
result_types rule (Returns name s) = name ∷ []
result_types rule (Gives primitive) = []
result_types rule (Infers name s) = name ∷ []

abbrev pub leaf_types : Leaf → List (List ℕ)
leaf_types (Act a) = a.type_name ∷ []
leaf_types _ = []

-- a fragment has no type, and its actions make nodes
abbrev pub rule_types : Rule → List (List ℕ)
rule_types rule = (if_whole rule.is_fragment (result_types rule rule.result)) ++ flat_map leaf_types (leaves rule.body)

abbrev pub type_names : Grammar → List (List ℕ)
type_names g = first_uses [] (map (λ i. i.name) g.interfaces ++ map (λ u. u.name) g.unions ++ flat_map rule_types g.rules)

-- ---- properties: those of interfaces, then those that rules and their actions put into, as they are written

abbrev pub leaf_properties : Leaf → List (List ℕ)
leaf_properties (Assign p op v s) = p ∷ []
leaf_properties (Act a) = put_property a.put
leaf_properties _ = []

abbrev pub property_names : Grammar → List (List ℕ)
property_names g = first_uses [] (flat_map (λ i. map (λ a. a.name) i.attributes) g.interfaces ++ flat_map (λ rule. flat_map leaf_properties (leaves rule.body)) g.rules)

-- ---- what a name means

-- the rule or terminal that a name means, with its place among them, or nothing
abbrev pub Means : Grammar → List ℕ → Called → Type 0
Means g name (called.Rule r rule) = IsRule g name r rule.now
Means g name (called.Terminal t x) = IsTerminal g name t x.now
Means g name called.Nothing = (n : ℕ) → ¬ IsNumbered g name n

-- the interface or union that a name means, with its place among them, or nothing
abbrev pub MeansType : Grammar → List ℕ → Declares → Type 0
MeansType g name (declares.Interface i x) = IsInterface g name i x.now
MeansType g name (declares.Union u x) = IsUnion g name u x.now
MeansType g name declares.Nothing = ((i : ℕ) (x : Interface) → ¬ IsInterface g name i x) × ((u : ℕ) (x : UnionDef) → ¬ IsUnion g name u x)
