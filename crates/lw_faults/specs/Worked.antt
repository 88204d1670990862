-- Grammars that are written out, of which the laws say which fault they have and where, and which they have not. A place is written
-- where it is told; the others are nowhere. Each grammar has `terminal ID: /[a-z]+/;` behind what its comment shows.
use Rattle.std.specs.Prelude.{ℕ, ◌≡◌, List, [], ◌∷◌, replicate, Some, None, Bool, true, false, codes}
use Rattle.lw_base.specs.declared.token.Span.{Span}
use Rattle.lw_grammar.specs.declared.grammar.Grammar.{Grammar}
use Rattle.lw_grammar.specs.declared.rule.Rule.{Rule}
use Rattle.lw_grammar.specs.declared.rule.RuleResult.{RuleResult}
use Rattle.lw_grammar.specs.declared.rule.RuleResult.TheVariants.{Own, Returns}
use Rattle.lw_grammar.specs.declared.rule.Op.{Op}
use Rattle.lw_grammar.specs.declared.rule.Op.TheVariants.{One, Add}
use Rattle.lw_grammar.specs.declared.rule.Element.{Element}
use Rattle.lw_grammar.specs.declared.rule.Element.TheVariants.{Keyword, Call, Assign, Act, Group, Choice, Maybe, Many}
use Rattle.lw_grammar.specs.declared.rule.Value0.{Value0}
use Rattle.lw_grammar.specs.declared.rule.Value0.TheVariants as value
use Rattle.lw_grammar.specs.declared.rule.Action.{Action}
use Rattle.lw_grammar.specs.declared.terminal.Terminal.{Terminal}
use Rattle.lw_grammar.specs.declared.terminal.TermElement.{TermElement}
use Rattle.lw_grammar.specs.declared.terminal.TermElement.TheVariants as term
use Rattle.lw_grammar.specs.declared.terminal.Primitive.TheVariants.{Text}
use Rattle.lw_grammar.specs.declared.declared_types.Interface.{Interface}
use Rattle.lw_grammar.specs.declared.declared_types.Attribute.{Attribute}
use Rattle.lw_grammar.specs.declared.declared_types.UnionDef.{UnionDef}
use Rattle.lw_grammar.specs.declared.declared_types.Member.{Member}
use Rattle.lw_grammar.specs.declared.declared_types.Member.TheVariants.{Named, Plain}

-- ---- what the laws say of a fault

-- it is found here, and nowhere else
abbrev pub StandsAlone : (ℕ → Span → List ℕ → Type 0) → ℕ → Span → List ℕ → Type 0
StandsAlone IsFault file s name = IsFault file s name × ((f : ℕ) (t : Span) (n : List ℕ) → IsFault f t n → (f ≡ file) × (t ≡ s) × (n ≡ name))

-- it is not found
abbrev pub StandsNowhere : (ℕ → Span → List ℕ → Type 0) → Type 0
StandsNowhere IsFault = (file : ℕ) (s : Span) (name : List ℕ) → ¬ IsFault file s name

-- ---- parts

abbrev pub place : ℕ → ℕ → Span
place start end = record { start = start; end = end }

abbrev pub no_place : Span
no_place = place 0 0

abbrev pub keyword_of : List ℕ → Element
keyword_of text = Keyword text no_place

-- a property and the rule or terminal that it is put in by, as `x=ID`
abbrev pub puts : List ℕ → List ℕ → Element
puts p name = Assign p One (value.Call name no_place) no_place

abbrev pub plain_rule : List ℕ → Span → Element → Rule
plain_rule name s body = record { name = name; file = 0; span = s; is_entry = false; is_fragment = false; result = Own; body = body }

abbrev pub entry_rule : List ℕ → Span → Element → Rule
entry_rule name s body = record (plain_rule name s body) { is_entry = true }

abbrev pub fragment_rule : List ℕ → Span → Element → Rule
fragment_rule name s body = record (plain_rule name s body) { is_fragment = true }

abbrev pub terminal_id : Terminal
terminal_id = record { name = codes "ID"; file = 0; span = no_place; is_hidden = false; is_fragment = false; gives = Text; body = term.Pattern (codes "[a-z]+") no_place }

abbrev pub of_rules : List Rule → Grammar
of_rules rules = record { name = codes "G"; files = []; rules = rules; terminals = terminal_id ∷ []; interfaces = []; unions = []; imports = [] }

-- ---- left recursion, behind a call of a fragment:
--     grammar G entry A: v='q' | F a=A 'x'; fragment F: z=ID?;

abbrev pub recursive_row : List Element
recursive_row = Call (codes "F") no_place ∷ puts (codes "a") (codes "A") ∷ keyword_of (codes "x") ∷ []

abbrev pub recursive_ways : List Element
recursive_ways = Assign (codes "v") One (value.Keyword (codes "q") no_place) no_place ∷ Group recursive_row no_place ∷ []

abbrev pub recursive_rule : Rule
recursive_rule = entry_rule (codes "A") (place 16 17) (Choice recursive_ways no_place)

abbrev pub behind_fragment : Element → Grammar
behind_fragment body = of_rules (recursive_rule ∷ fragment_rule (codes "F") no_place body ∷ [])

-- with `z=ID?`, and with `z=ID`
abbrev pub left_recursive : Grammar
left_recursive = behind_fragment (Maybe (puts (codes "z") (codes "ID")) no_place)

abbrev pub right_recursive : Grammar
right_recursive = behind_fragment (puts (codes "z") (codes "ID"))

-- ---- a rule that reads nothing: grammar G entry A: b=B; B: x=ID?;

abbrev pub x_id : Element
x_id = puts (codes "x") (codes "ID")

abbrev pub calling_rule : Rule
calling_rule = entry_rule (codes "A") no_place (puts (codes "b") (codes "B"))

abbrev pub called_rule : Element → Rule
called_rule body = plain_rule (codes "B") (place 24 25) body

abbrev pub calling_b : Element → Grammar
calling_b body = of_rules (calling_rule ∷ called_rule body ∷ [])

-- a rule alone: grammar G entry A: ..;
abbrev pub alone : Element → Grammar
alone body = of_rules (entry_rule (codes "A") (place 16 17) body ∷ [])

-- ---- what is repeated reads nothing: grammar G entry A: (x=ID?)*;

abbrev pub repeating : Element → Grammar
repeating body = alone (Many body (place 19 27))

-- ---- a rule without an end: grammar G entry A: 'x' a=A;

abbrev pub endless_row : Element → List Element
endless_row again = keyword_of (codes "x") ∷ again ∷ []

abbrev pub a_a : Element
a_a = puts (codes "a") (codes "A")

abbrev pub endless : Element → Grammar
endless again = alone (Group (endless_row again) no_place)

-- ---- actions: grammar G entry A: x=ID {infer B};

abbrev pub makes_b : Span → Action
makes_b s = record { infers = true; type_name = codes "B"; put = None; span = s }

-- `{infer B.p=current}`
abbrev pub takes_b : Span → Action
takes_b s = record (makes_b s) { put = Some (codes "p", false) }

-- two parts in a row, and nothing else
abbrev pub both : Element → Element → List Element
both one other = one ∷ other ∷ []

abbrev pub two_parts : Element → Element → Grammar
two_parts one other = alone (Group (both one other) no_place)

-- grammar G entry A: ({infer B} 'x')*;
abbrev pub action_and_word : Element
action_and_word = Group (both (Act (makes_b (place 20 29))) (keyword_of (codes "x"))) no_place

-- grammar G entry A: x=ID F; fragment F: {infer B};
abbrev pub calls_f : Rule
calls_f = entry_rule (codes "A") no_place (Group (both x_id (Call (codes "F") no_place)) no_place)

abbrev pub acts_f : Rule
acts_f = fragment_rule (codes "F") no_place (Act (makes_b (place 39 48)))

abbrev pub acts_in_fragment : Grammar
acts_in_fragment = of_rules (calls_f ∷ acts_f ∷ [])

-- ---- calls of a rule that makes nodes: grammar G entry A: x=ID B; B: y=ID;

abbrev pub node_rule : Rule
node_rule = plain_rule (codes "B") no_place (puts (codes "y") (codes "ID"))

abbrev pub with_node : Element → Grammar
with_node body = of_rules (entry_rule (codes "A") no_place body ∷ node_rule ∷ [])

abbrev pub node_behind : List Element
node_behind = both x_id (Call (codes "B") (place 24 25))

abbrev pub node_before : List Element
node_before = both (Call (codes "B") no_place) x_id

-- grammar G entry A: (B 'x')*; B: y=ID;
abbrev pub node_and_word : Element
node_and_word = Group (both (Call (codes "B") (place 20 21)) (keyword_of (codes "x"))) no_place

-- ---- declared types: grammar G interface I { x: string } entry A returns I: y=ID;

abbrev pub interface_of : List ℕ → List (List ℕ × Span) → List Attribute → Interface
interface_of name above attributes = record { name = name; file = 0; span = no_place; above = above; attributes = attributes }

-- the attribute `x: T` or `x: T[]`
abbrev pub x_attribute : Bool → Member → Attribute
x_attribute list member = record { name = codes "x"; span = no_place; optional = false; list = list; members = member ∷ [] }

abbrev pub i_interface : Bool → Member → Interface
i_interface list member = interface_of (codes "I") [] (x_attribute list member ∷ [])

abbrev pub rule_returning : List ℕ → Element → Rule
rule_returning type_name body = record (entry_rule (codes "A") no_place body) { result = Returns type_name no_place }

abbrev pub returning : List Interface → List UnionDef → List ℕ → Element → Grammar
returning interfaces unions type_name body = record (of_rules (rule_returning type_name body ∷ [])) { interfaces = interfaces; unions = unions }

-- an interface with one attribute, and an assignment
abbrev pub with_attribute : Bool → Member → Element → Grammar
with_attribute list member body = returning (i_interface list member ∷ []) [] (codes "I") body

-- grammar G interface I { x: string } interface J extends I {} entry A returns J: x=ID;
abbrev pub j_interface : Interface
j_interface = interface_of (codes "J") ((codes "I", no_place) ∷ []) []

abbrev pub extending_type : Element → Grammar
extending_type body = returning (i_interface false (Plain Text) ∷ j_interface ∷ []) [] (codes "J") body

-- grammar G interface I { x: string } type U = I; entry A returns U: x=ID;
abbrev pub u_union : UnionDef
u_union = record { name = codes "U"; file = 0; span = no_place; members = Named (codes "I") no_place ∷ [] }

abbrev pub united : Element → Grammar
united body = returning (i_interface false (Plain Text) ∷ []) (u_union ∷ []) (codes "U") body

-- what is put in, and where it stands
abbrev pub x_by : Op → Value0 → Span → Element
x_by op v s = Assign (codes "x") op v s

abbrev pub calls_id : Value0
calls_id = value.Call (codes "ID") no_place

abbrev pub i_reference : Value0
i_reference = value.Cross (codes "I") (Some (codes "ID")) no_place

-- a fragment that never ends: grammar G interface I { x: string } entry A returns I: F; fragment F: y=ID F;
abbrev pub calls_endless : Rule
calls_endless = rule_returning (codes "I") (Call (codes "F") no_place)

abbrev pub endless_fragment : Span → Rule
endless_fragment s = fragment_rule (codes "F") no_place (Group (both (Assign (codes "y") One calls_id s) (Call (codes "F") no_place)) no_place)

abbrev pub with_endless : Span → Grammar
with_endless s = record (of_rules (calls_endless ∷ endless_fragment s ∷ [])) { interfaces = i_interface false (Plain Text) ∷ [] }

-- ---- a property of an inferred type, put in twice: grammar G entry A: x=ID x+=ID;

abbrev pub twice : Op → Op → Span → Grammar
twice first second s = two_parts (x_by first calls_id (place 19 23)) (x_by second calls_id s)

-- grammar G entry A returns U: x=ID | x+=ID;
abbrev pub unknown_twice : Grammar
unknown_twice = returning [] [] (codes "U") (Choice (both (x_by One calls_id (place 29 33)) (x_by Add calls_id (place 36 41))) no_place)

-- ---- a type that is not below: grammar G interface T {} interface S {} entry A returns T: {S};

abbrev pub s_interface : List (List ℕ × Span) → Interface
s_interface above = interface_of (codes "S") above []

abbrev pub s_action : Span → Action
s_action s = record { infers = false; type_name = codes "S"; put = None; span = s }

abbrev pub making_s : List (List ℕ × Span) → Span → Grammar
making_s above s = returning (interface_of (codes "T") [] [] ∷ s_interface above ∷ []) [] (codes "T") (Act (s_action s))

-- ---- types alone: grammar G interface A extends B {} interface B extends A {}

abbrev pub types_alone : List Interface → List UnionDef → Grammar
types_alone interfaces unions = record (of_rules []) { interfaces = interfaces; unions = unions }

-- an interface that extends one other, or none
abbrev pub extending : List ℕ → Span → List (List ℕ × Span) → Interface
extending name s above = record (interface_of name above []) { span = s }

abbrev pub extends : List ℕ → List (List ℕ × Span)
extends name = (name, no_place) ∷ []

abbrev pub a_extending : List (List ℕ × Span) → Interface
a_extending above = extending (codes "A") (place 20 21) above

abbrev pub b_extending : List (List ℕ × Span) → Interface
b_extending above = extending (codes "B") (place 45 46) above

-- grammar G type U = U;
abbrev pub union_of : Member → UnionDef
union_of member = record { name = codes "U"; file = 0; span = place 15 16; members = member ∷ [] }

-- ---- a fragment or a terminal that calls itself:
--     grammar G entry A: F; fragment F: 'x' F?;
--     grammar G entry A: x=ID; terminal T: 'a' T?;

abbrev pub f_caller : Rule
f_caller = entry_rule (codes "A") no_place (Call (codes "F") no_place)

abbrev pub x_and : List ℕ → Element
x_and name = Group (both (keyword_of (codes "x")) (Maybe (Call name no_place) no_place)) no_place

-- with `'x' F?`, or with `'x' A?`
abbrev pub fragment_calling : List ℕ → Grammar
fragment_calling name = of_rules (f_caller ∷ fragment_rule (codes "F") (place 31 32) (x_and name) ∷ [])

abbrev pub a_and : List ℕ → List TermElement
a_and name = term.Literal (codes "a") no_place ∷ term.Maybe (term.Call name no_place) ∷ []

abbrev pub t_terminal : TermElement → Terminal
t_terminal body = record terminal_id { name = codes "T"; span = place 34 35; body = body }

abbrev pub with_terminal : TermElement → Grammar
with_terminal body = record (alone x_id) { terminals = terminal_id ∷ t_terminal body ∷ [] }

-- with `'a' T?`, or with `'a' ID?`
abbrev pub terminal_calling : List ℕ → Grammar
terminal_calling name = with_terminal (term.Group (a_and name))

-- ---- entries: grammar G entry A: x=ID; entry B: y=ID;

abbrev pub in_file : ℕ → Rule → Rule
in_file file rule = record rule { file = file }

abbrev pub b_entry : Rule
b_entry = entry_rule (codes "B") (place 31 32) (puts (codes "y") (codes "ID"))

abbrev pub a_entry : Rule
a_entry = entry_rule (codes "A") (place 16 17) x_id

-- grammar G entry fragment A: x=ID;
abbrev pub entry_fragment : Rule
entry_fragment = record (fragment_rule (codes "A") (place 25 26) x_id) { is_entry = true }

abbrev pub id_element : Element
id_element = Call (codes "ID") no_place

-- ---- what a rule says of its type: grammar G entry A returns string: x=ID;

abbrev pub resulting : RuleResult → List UnionDef → Element → Grammar
resulting result unions body = record (of_rules (record (entry_rule (codes "A") (place 16 17) body) { result = result } ∷ [])) { unions = unions }

-- ---- calls: grammar G entry A: x=T; hidden terminal T: /a/;

abbrev pub x_value : Value0 → Element
x_value v = x_by One v no_place

-- the terminal is hidden or not, and a fragment or not
abbrev pub flagged_terminal : Bool → Bool → Terminal
flagged_terminal is_hidden is_fragment = record (t_terminal (term.Pattern (codes "a") no_place)) { is_hidden = is_hidden; is_fragment = is_fragment }

abbrev pub calling_terminal : Bool → Bool → Grammar
calling_terminal is_hidden is_fragment = record (alone (x_value (value.Call (codes "T") (place 21 22)))) {
  terminals = terminal_id ∷ flagged_terminal is_hidden is_fragment ∷ [];
}

-- grammar G entry A: x=[A:B]; B: y=ID;
abbrev pub crossing : Element → Grammar
crossing body =
    of_rules
    (entry_rule (codes "A") no_place (x_value (value.Cross (codes "A") (Some (codes "B")) (place 21 26))) ∷ plain_rule (codes "B") no_place body ∷ [])

-- grammar G entry A: x?=B; B: y=ID;
abbrev pub assigning : Op → Span → Rule → Grammar
assigning op s rule = of_rules (entry_rule (codes "A") no_place (x_by op (value.Call rule.name no_place) s) ∷ rule ∷ [])

abbrev pub y_id : Element
y_id = puts (codes "y") (codes "ID")

-- ---- names: grammar G entry A: x=ID; A: y=ID;

-- the second rule has this place
abbrev pub behind_a : Span → List ℕ → Grammar
behind_a s name = of_rules (a_entry ∷ plain_rule name s y_id ∷ [])

-- grammar G interface A {} entry A: x=ID;
abbrev pub beside_interface : List ℕ → Grammar
beside_interface name = record (of_rules (entry_rule (codes "A") (place 31 32) x_id ∷ [])) { interfaces = interface_of name [] [] ∷ [] }

-- `{B}`, an action that infers no type
abbrev pub makes_declared : List ℕ → Span → Action
makes_declared name s = record { infers = false; type_name = name; put = None; span = s }

-- grammar G entry A: x=[A];
abbrev pub by_its_name : Span → Element
by_its_name s = x_value (value.Cross (codes "A") None s)

-- grammar G entry A: name=T x=[A]; terminal T: /a/;
abbrev pub naming_terminal : Bool → Bool → Span → Grammar
naming_terminal is_hidden is_fragment s = record (two_parts (puts (codes "name") (codes "T")) (by_its_name s)) {
  terminals = terminal_id ∷ flagged_terminal is_hidden is_fragment ∷ [];
}

-- ---- many rules, and one terminal

abbrev pub many_rules : ℕ → Grammar
many_rules n = of_rules (replicate n a_entry)
