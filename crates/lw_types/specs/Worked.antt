-- Grammars that are written out, of whose types the laws say which properties they have.
use Rattle.std.specs.Prelude.{ℕ, List, [], ◌∷◌, Some, Bool, true, false, codes}
use Rattle.lw_grammar.specs.declared.grammar.Grammar.{Grammar}
use Rattle.lw_grammar.specs.declared.rule.Rule.{Rule}
use Rattle.lw_grammar.specs.declared.rule.RuleResult.TheVariants.{Returns}
use Rattle.lw_grammar.specs.declared.rule.Op.TheVariants.{Add}
use Rattle.lw_grammar.specs.declared.rule.Element.{Element}
use Rattle.lw_grammar.specs.declared.rule.Element.TheVariants.{Call, Assign, Act, Group, Choice}
use Rattle.lw_grammar.specs.declared.rule.Action.{Action}
use Rattle.lw_grammar.specs.declared.terminal.Primitive.TheVariants.{Text}
use Rattle.lw_grammar.specs.declared.declared_types.Attribute.{Attribute}
use Rattle.lw_grammar.specs.declared.declared_types.Interface.{Interface}
use Rattle.lw_grammar.specs.declared.declared_types.Member.{Member}
use Rattle.lw_grammar.specs.declared.declared_types.Member.TheVariants.{Named, Refers, Plain}
use Rattle.lw_grammar.specs.declared.declared_types.UnionDef.{UnionDef}
use Rattle.lw_grammar.specs.declared.declared_types.ValueKind.{ValueKind}
use Rattle.lw_faults.specs.Worked.{calls_id, entry_rule, fragment_rule, interface_of, no_place, of_rules, plain_rule, puts}
use Rattle.lw_types.specs.declared.property_table.info.PropertyInfo.{PropertyInfo}

abbrev pub property : ℕ → Bool → List ValueKind → PropertyInfo
property prop list values = record { prop = record { 0 = prop }; list = list; values = values }

abbrev pub written_attribute : List ℕ → Bool → Member → Attribute
written_attribute name list member = record { name = name; span = no_place; optional = false; list = list; members = member ∷ [] }

--     interface Base { name: string }
--     interface Shape extends Base { parts: Any[]; name: @Base }
--     type Any = Base | Any;
abbrev pub base : Interface
base = interface_of (codes "Base") [] (written_attribute (codes "name") false (Plain Text) ∷ [])

abbrev pub shape : Interface
shape =
    interface_of (codes "Shape") ((codes "Base", no_place) ∷ [])
    (written_attribute (codes "parts") true (Named (codes "Any") no_place) ∷ written_attribute (codes "name") false (Refers (codes "Base") no_place) ∷ [])

abbrev pub any : UnionDef
any = record { name = codes "Any"; file = 0; span = no_place; members = Named (codes "Base") no_place ∷ Named (codes "Any") no_place ∷ [] }

abbrev pub shapes : Grammar
shapes = record (of_rules []) { interfaces = base ∷ shape ∷ []; unions = any ∷ [] }

-- ---- an interface, a union, a fragment, and an action that takes the node so far:
--     grammar G interface Base { name: string } type Any = Base | Leaf;
--     entry Root: x=Named | Leaf; Named returns Base: name=ID; Leaf: Tail {infer Pair.left=current} y=ID; fragment Tail: t+=ID;
--     terminal ID: /[a-z]+/;

abbrev pub base_or_leaf : UnionDef
base_or_leaf = record any { members = Named (codes "Base") no_place ∷ Named (codes "Leaf") no_place ∷ [] }

abbrev pub base_ways : List Element
base_ways = puts (codes "x") (codes "Named") ∷ Call (codes "Leaf") no_place ∷ []

abbrev pub base_entry : Rule
base_entry = entry_rule (codes "Root") no_place (Choice base_ways no_place)

abbrev pub base_rule : Rule
base_rule = record (plain_rule (codes "Named") no_place (puts (codes "name") (codes "ID"))) { result = Returns (codes "Base") no_place }

abbrev pub pair_action : Action
pair_action = record { infers = true; type_name = codes "Pair"; put = Some (codes "left", false); span = no_place }

abbrev pub pair_parts : List Element
pair_parts = Call (codes "Tail") no_place ∷ Act pair_action ∷ puts (codes "y") (codes "ID") ∷ []

abbrev pub pair_rule : Rule
pair_rule = plain_rule (codes "Leaf") no_place (Group pair_parts no_place)

abbrev pub tail_fragment : Rule
tail_fragment = fragment_rule (codes "Tail") no_place (Assign (codes "t") Add calls_id no_place)

abbrev pub pairs : Grammar
pairs = record (of_rules (base_entry ∷ base_rule ∷ pair_rule ∷ tail_fragment ∷ [])) { interfaces = base ∷ []; unions = base_or_leaf ∷ [] }
