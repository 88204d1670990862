-- Grammars that are written out, of which the laws say what the definitions mean. Places stand only where they tell something.
use Rattle.std.specs.Prelude.{ℕ, ◌+◌, List, [], ◌∷◌, Some, None, Bool, true, false, codes}
use Rattle.lw_base.specs.declared.token.Span.{Span}
use Rattle.lw_grammar.specs.declared.grammar.Grammar.{Grammar}
use Rattle.lw_grammar.specs.declared.rule.Rule.{Rule}
use Rattle.lw_grammar.specs.declared.rule.RuleResult.TheVariants.{Own, Returns}
use Rattle.lw_grammar.specs.declared.rule.Op.TheVariants.{One, Add}
use Rattle.lw_grammar.specs.declared.rule.Element.{Element}
use Rattle.lw_grammar.specs.declared.rule.Element.TheVariants.{Keyword, Call, Assign, Act, Group, Choice, Maybe, Many}
use Rattle.lw_grammar.specs.declared.rule.Value0.{Value0}
use Rattle.lw_grammar.specs.declared.rule.Value0.TheVariants as value
use Rattle.lw_grammar.specs.declared.rule.Action.{Action}
use Rattle.lw_grammar.specs.declared.terminal.Terminal.{Terminal}
use Rattle.lw_grammar.specs.declared.terminal.TermElement.TheVariants.{Pattern}
use Rattle.lw_grammar.specs.declared.terminal.Primitive.TheVariants.{Text}
use Rattle.lw_grammar.specs.declared.declared_types.Interface.{Interface}
use Rattle.lw_grammar.specs.declared.declared_types.UnionDef.{UnionDef}
use Rattle.lw_grammar.specs.declared.declared_types.Member.TheVariants.{Named}
use Rattle.lw_grammar.specs.Kinds.{Kinds}

abbrev pub nowhere : Span
nowhere = record { start = 0; end = 0 }

-- keywords in a row, each with the place where it stands
abbrev pub keyword_row : List (List ℕ × Span) → List Element
keyword_row [] = []
keyword_row (w ∷ ws) = Keyword w.0 w.1 ∷ keyword_row ws

abbrev pub word : List ℕ → Element
word text = Keyword text nowhere

abbrev pub id_call : Value0
id_call = value.Call (codes "ID") nowhere

abbrev pub named_rule : List ℕ → Bool → Bool → Element → Rule
named_rule name is_entry is_fragment body = record {
  name = name;
  file = 0;
  span = nowhere;
  is_entry = is_entry;
  is_fragment = is_fragment;
  result = Own;
  body = body;
}

abbrev pub named_terminal : List ℕ → Bool → List ℕ → Terminal
named_terminal name is_hidden regex = record {
  name = name;
  file = 0;
  span = nowhere;
  is_hidden = is_hidden;
  is_fragment = false;
  gives = Text;
  body = Pattern regex nowhere;
}

abbrev pub id_terminal : Terminal
id_terminal = named_terminal (codes "ID") false (codes "[_a-zA-Z][\\w_]*")

abbrev pub space_terminal : Terminal
space_terminal = named_terminal (codes "WS") true (codes "\\s+")

abbrev pub rules_alone : List ℕ → List Rule → List Terminal → Grammar
rules_alone name rules terminals = record { name = name; files = []; rules = rules; terminals = terminals; interfaces = []; unions = []; imports = [] }

-- ---- models with states, by the cross-reference that a state has:
--     grammar S entry Model: 'model' name=ID states+=State*; State: 'state' name=ID ('to' next+=[State:ID])* 'end';
--     hidden terminal WS: /\s+/; terminal ID: /[_a-zA-Z][\w_]*/;

abbrev pub model_parts : List Element
model_parts =
    word (codes "model") ∷ Assign (codes "name") One id_call nowhere
    ∷ Many (Assign (codes "states") Add (value.Call (codes "State") nowhere) nowhere) nowhere ∷ []

abbrev pub model_rule : Rule
model_rule = named_rule (codes "Model") true false (Group model_parts nowhere)

abbrev pub next_parts : Value0 → List Element
next_parts next = word (codes "to") ∷ Assign (codes "next") Add next nowhere ∷ []

abbrev pub state_parts : Value0 → List Element
state_parts next =
    word (codes "state") ∷ Assign (codes "name") One id_call nowhere ∷ Many (Group (next_parts next) nowhere) nowhere ∷ word (codes "end") ∷ []

abbrev pub state_rule : Value0 → Rule
state_rule next = named_rule (codes "State") false false (Group (state_parts next) nowhere)

abbrev pub states_with : Value0 → Grammar
states_with next = rules_alone (codes "S") (model_rule ∷ state_rule next ∷ []) (space_terminal ∷ id_terminal ∷ [])

-- with `[State:ID]`
abbrev pub by_id : Value0
by_id = value.Cross (codes "State") (Some (codes "ID")) nowhere

abbrev pub states_by_id : Grammar
states_by_id = states_with by_id

-- with `[State]`
abbrev pub by_name : Value0
by_name = value.Cross (codes "State") None nowhere

abbrev pub states_by_name : Grammar
states_by_name = states_with by_name

abbrev pub states_kinds : Kinds
states_kinds = record {
  keywords = codes "model" ∷ codes "state" ∷ codes "to" ∷ codes "end" ∷ [];
  terminals = space_terminal ∷ id_terminal ∷ [];
}

-- ---- a data type rule, an action, a rule and a terminal that nothing reaches:
--     grammar D entry Root: name=QName | Marked; QName: ID ('.' ID)*; Marked: 'x' {infer Other} y=ID; Unused: z=INT;
--     terminal ID: /[_a-zA-Z][\w_]*/; terminal INT: /[0-9]+/; hidden terminal WS: /\s+/;

abbrev pub root_parts : List Element
root_parts = Assign (codes "name") One (value.Call (codes "QName") nowhere) nowhere ∷ Call (codes "Marked") nowhere ∷ []

abbrev pub root_rule : Rule
root_rule = named_rule (codes "Root") true false (Choice root_parts nowhere)

abbrev pub dot_parts : List Element
dot_parts = word (codes ".") ∷ Call (codes "ID") nowhere ∷ []

abbrev pub qname_parts : List Element
qname_parts = Call (codes "ID") nowhere ∷ Many (Group dot_parts nowhere) nowhere ∷ []

abbrev pub qname_rule : Rule
qname_rule = named_rule (codes "QName") false false (Group qname_parts nowhere)

abbrev pub other_action : Action
other_action = record { infers = true; type_name = codes "Other"; put = None; span = nowhere }

abbrev pub marked_parts : List Element
marked_parts = word (codes "x") ∷ Act other_action ∷ Assign (codes "y") One id_call nowhere ∷ []

abbrev pub marked_rule : Rule
marked_rule = named_rule (codes "Marked") false false (Group marked_parts nowhere)

abbrev pub unused_rule : Rule
unused_rule = named_rule (codes "Unused") false false (Assign (codes "z") One (value.Call (codes "INT") nowhere) nowhere)

abbrev pub int_terminal : Terminal
int_terminal = named_terminal (codes "INT") false (codes "[0-9]+")

abbrev pub dotted_grammar : Grammar
dotted_grammar =
    rules_alone (codes "D") (root_rule ∷ qname_rule ∷ marked_rule ∷ unused_rule ∷ []) (id_terminal ∷ int_terminal ∷ space_terminal ∷ [])

abbrev pub dotted_kinds : Kinds
dotted_kinds = record { keywords = codes "." ∷ codes "x" ∷ []; terminals = id_terminal ∷ space_terminal ∷ [] }

-- ---- a fragment, which calls itself:
--     grammar F entry A: Named 'x'; fragment Named: name=ID Named?; terminal ID: /[_a-zA-Z][\w_]*/;

abbrev pub with_fragment : Rule
with_fragment = named_rule (codes "A") true false (Group (Call (codes "Named") nowhere ∷ word (codes "x") ∷ []) nowhere)

abbrev pub fragment_parts : List Element
fragment_parts = Assign (codes "name") One id_call nowhere ∷ Maybe (Call (codes "Named") nowhere) nowhere ∷ []

abbrev pub named_fragment : Rule
named_fragment = named_rule (codes "Named") false true (Group fragment_parts nowhere)

abbrev pub fragment_grammar : Grammar
fragment_grammar = rules_alone (codes "F") (with_fragment ∷ named_fragment ∷ []) (id_terminal ∷ [])

-- ---- an interface and a union of one name, whose names begin at these places:
--     grammar G interface A {} interface T {} type T = A; entry R returns T: {A};

abbrev pub named_interface : List ℕ → ℕ → Interface
named_interface name start = record { name = name; file = 0; span = record { start = start; end = start + 1 }; above = []; attributes = [] }

abbrev pub t_union : ℕ → UnionDef
t_union start = record {
  name = codes "T";
  file = 0;
  span = record { start = start; end = start + 1 };
  members = Named (codes "A") nowhere ∷ [];
}

abbrev pub returning_rule : Rule
returning_rule = record (named_rule (codes "R") true false (Act (record { infers = false; type_name = codes "A"; put = None; span = nowhere }))) {
  result = Returns (codes "T") nowhere;
}

abbrev pub t_twice : ℕ → ℕ → Grammar
t_twice interface_at union_at = record {
  name = codes "G";
  files = [];
  rules = returning_rule ∷ [];
  terminals = [];
  interfaces = named_interface (codes "A") 20 ∷ named_interface (codes "T") interface_at ∷ [];
  unions = t_union union_at ∷ [];
  imports = [];
}

-- ---- two ways that begin and end alike: grammar E entry A: 'a' b='b' 'c' | 'a' d='d' 'c';

-- the word goes into the property that is named like it
abbrev pub assignment : List ℕ → Element
assignment text = Assign text One (value.Keyword text nowhere) nowhere

abbrev pub way_parts : List ℕ → List Element
way_parts text = word (codes "a") ∷ assignment text ∷ word (codes "c") ∷ []

-- one way: the keyword `a`, a word that is assigned, and the keyword `c`
abbrev pub way : List ℕ → Element
way text = Group (way_parts text) nowhere

abbrev pub ways : List Element
ways = way (codes "b") ∷ way (codes "d") ∷ []

abbrev pub two_ways_rule : Rule
two_ways_rule = named_rule (codes "A") true false (Choice ways nowhere)

abbrev pub two_ways : Grammar
two_ways = rules_alone (codes "E") (two_ways_rule ∷ []) []

-- its keywords, in the order of their first use
abbrev pub two_ways_kinds : Kinds
two_ways_kinds = record { keywords = codes "a" ∷ codes "b" ∷ codes "c" ∷ codes "d" ∷ []; terminals = [] }
