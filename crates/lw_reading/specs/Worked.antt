-- Texts that are read by grammars which are written out: their tokens, the marks of their derivations and the trees that these stand for.
use Rattle.std.specs.Prelude.{ℕ, List, [], ◌∷◌, Some, None, Bool, false, true, codes, ◌+◌}
use Rattle.lw_base.specs.declared.token.Span.{Span}
use Rattle.lw_base.specs.declared.token.Token.{Token}
use Rattle.lw_base.specs.declared.numbers.NodeId.{NodeId}
use Rattle.lw_base.specs.declared.numbers.PropId.{PropId}
use Rattle.lw_grammar.specs.declared.grammar.Grammar.{Grammar}
use Rattle.lw_grammar.specs.declared.rule.Rule.{Rule}
use Rattle.lw_grammar.specs.declared.rule.Op.TheVariants.{One, Add, Flag}
use Rattle.lw_grammar.specs.declared.rule.Element.{Element}
use Rattle.lw_grammar.specs.declared.rule.Element.TheVariants as element
use Rattle.lw_grammar.specs.declared.rule.Value0.{Value0}
use Rattle.lw_grammar.specs.declared.rule.Value0.TheVariants as value0
use Rattle.lw_grammar.specs.declared.rule.Action.{Action}
use Rattle.lw_grammar.specs.Marks.{Mark, Token as AToken, Open, Shut, Put, End, Act}
use Rattle.lw_grammar.specs.Worked.{nowhere, word, id_call, by_id, named_rule, id_terminal, rules_alone, other_action}
use Rattle.lw_tree.specs.declared.node.Node.{Node}
use Rattle.lw_tree.specs.declared.node.Reference.{Reference}
use Rattle.lw_tree.specs.declared.node.Value.{Value}
use Rattle.lw_tree.specs.declared.node.Value.TheVariants as value
use Rattle.lw_tree.specs.Parts.{Parts}

-- from one byte up to another, and a token there
abbrev pub from_to : ℕ → ℕ → Span
from_to start end = record { start = start; end = end }

abbrev pub word_token : ℕ → ℕ → ℕ → Token
word_token kind start end = record { kind = record { 0 = kind }; span = from_to start end; hidden = false }

-- the root, and a node inside another
abbrev pub root_node : ℕ → Span → Node
root_node type s = record { type_id = record { 0 = type }; container = None; prop = None; span = s }

abbrev pub node_in : ℕ → ℕ → ℕ → Span → Node
node_in above p type s = record { type_id = record { 0 = type }; container = Some (record { 0 = above }); prop = Some (record { 0 = p }); span = s }

-- a value of a property of a node
abbrev pub has : ℕ → ℕ → Value → NodeId × PropId × Value
has n p v = (record { 0 = n }, record { 0 = p }, v)

-- ---- `model m state x to x end` by the grammar of models with states: types Model and State, properties name, states and next

abbrev pub state_text : List ℕ
state_text = codes "model m state x to x end"

abbrev pub state_tokens : List Token
state_tokens =
    word_token 0 0 5 ∷ word_token 5 6 7 ∷ word_token 1 8 13 ∷ word_token 5 14 15 ∷ word_token 2 16 18 ∷ word_token 5 19 20 ∷ word_token 3 21 24 ∷ []

abbrev pub id_put : List ℕ → Mark
id_put p = Put p One id_call

abbrev pub state_marks : List Mark
state_marks =
    Open 0 ∷ AToken 0 ∷ id_put (codes "name") ∷ AToken 5 ∷ End ∷ Put (codes "states") Add (value0.Call (codes "State") nowhere)
    ∷ Open 1 ∷ AToken 1 ∷ id_put (codes "name") ∷ AToken 5 ∷ End ∷ AToken 2 ∷ Put (codes "next") Add by_id ∷ AToken 5 ∷ End ∷ AToken 3 ∷ Shut
    ∷ End ∷ Shut ∷ []

abbrev pub state_tree : Parts
state_tree = record {
  nodes = root_node 0 (from_to 0 24) ∷ node_in 0 1 1 (from_to 8 24) ∷ [];
  values = has 0 0 (value.Text (codes "m") (from_to 6 7)) ∷ has 0 1 (value.Child (record { 0 = 1 }))
      ∷ has 1 0 (value.Text (codes "x") (from_to 14 15)) ∷ has 1 2 (value.Refers (record { 0 = 0 })) ∷ [];
  refs = record { owner = record { 0 = 1 }; prop = record { 0 = 2 }; want = record { 0 = 1 }; name = codes "x"; span = from_to 19 20 } ∷ [];
  tokens = state_tokens;
  name = Some (record { 0 = 0 });
}

-- the marks up to the token of the reference, whose end is not read: what is open is closed, and the reference is left out
abbrev pub begun_marks : List Mark
begun_marks =
    Open 0 ∷ AToken 0 ∷ id_put (codes "name") ∷ AToken 5 ∷ End ∷ Put (codes "states") Add (value0.Call (codes "State") nowhere)
    ∷ Open 1 ∷ AToken 1 ∷ id_put (codes "name") ∷ AToken 5 ∷ End ∷ AToken 2 ∷ Put (codes "next") Add by_id ∷ AToken 5 ∷ []

abbrev pub begun_tokens : List Token
begun_tokens = word_token 0 0 5 ∷ word_token 5 6 7 ∷ word_token 1 8 13 ∷ word_token 5 14 15 ∷ word_token 2 16 18 ∷ word_token 5 19 20 ∷ []

abbrev pub begun_tree : Parts
begun_tree = record {
  nodes = root_node 0 (from_to 0 20) ∷ node_in 0 1 1 (from_to 8 20) ∷ [];
  values = has 0 0 (value.Text (codes "m") (from_to 6 7)) ∷ has 0 1 (value.Child (record { 0 = 1 }))
      ∷ has 1 0 (value.Text (codes "x") (from_to 14 15)) ∷ [];
  refs = [];
  tokens = begun_tokens;
  name = Some (record { 0 = 0 });
}

-- ---- `x a` by the dotted grammar: the node of the unassigned call takes the place of Root's, and the action has made it an Other

abbrev pub marked_text : List ℕ
marked_text = codes "x a"

abbrev pub marked_tokens : List Token
marked_tokens = word_token 1 0 1 ∷ word_token 2 2 3 ∷ []

abbrev pub marked_marks : List Mark
marked_marks = Open 0 ∷ Open 2 ∷ AToken 1 ∷ Act other_action ∷ id_put (codes "y") ∷ AToken 2 ∷ End ∷ Shut ∷ Shut ∷ []

abbrev pub marked_tree : Parts
marked_tree = record {
  nodes = root_node 3 (from_to 0 3) ∷ [];
  values = has 0 1 (value.Text (codes "a") (from_to 2 3)) ∷ [];
  refs = [];
  tokens = marked_tokens;
  name = Some (record { 0 = 0 });
}

-- ---- `a . b` by the dotted grammar: the text of a data type rule has nothing between its tokens, and its span runs from the first to the last

abbrev pub dotted_text : List ℕ
dotted_text = codes "a . b"

abbrev pub dotted_tokens : List Token
dotted_tokens = word_token 2 0 1 ∷ word_token 0 2 3 ∷ word_token 2 4 5 ∷ []

abbrev pub dotted_marks : List Mark
dotted_marks = Open 0 ∷ Put (codes "name") One (value0.Call (codes "QName") nowhere) ∷ AToken 2 ∷ AToken 0 ∷ AToken 2 ∷ End ∷ Shut ∷ []

abbrev pub dotted_tree : Parts
dotted_tree = record {
  nodes = root_node 0 (from_to 0 5) ∷ [];
  values = has 0 0 (value.Text (codes "a.b") (from_to 0 5)) ∷ [];
  refs = [];
  tokens = dotted_tokens;
  name = Some (record { 0 = 0 });
}

-- ---- `a + b` by grammar U entry Sum: Item ({infer Add.left=current} '+' right=Item)*; Item: value=ID; terminal ID: ..: an action puts the
--     node so far into a new one, which begins where it began

abbrev pub wrap_action : Action
wrap_action = record { infers = true; type_name = codes "Add"; put = Some (codes "left", false); span = nowhere }

abbrev pub item_call : Value0
item_call = value0.Call (codes "Item") nowhere

abbrev pub more_parts : List Element
more_parts = element.Act wrap_action ∷ word (codes "+") ∷ element.Assign (codes "right") One item_call nowhere ∷ []

abbrev pub sum_rule : Rule
sum_rule =
    named_rule (codes "Sum") true false
    (element.Group (element.Call (codes "Item") nowhere ∷ element.Many (element.Group more_parts nowhere) nowhere ∷ []) nowhere)

abbrev pub item_rule : Rule
item_rule = named_rule (codes "Item") false false (element.Assign (codes "value") One id_call nowhere)

abbrev pub sums : Grammar
sums = rules_alone (codes "U") (sum_rule ∷ item_rule ∷ []) (id_terminal ∷ [])

abbrev pub sum_text : List ℕ
sum_text = codes "a + b"

abbrev pub sum_tokens : List Token
sum_tokens = word_token 1 0 1 ∷ word_token 0 2 3 ∷ word_token 1 4 5 ∷ []

abbrev pub sum_marks : List Mark
sum_marks =
    Open 0 ∷ Open 1 ∷ id_put (codes "value") ∷ AToken 1 ∷ End ∷ Shut ∷ Act wrap_action ∷ AToken 0 ∷ Put (codes "right") One item_call
    ∷ Open 1 ∷ id_put (codes "value") ∷ AToken 1 ∷ End ∷ Shut ∷ End ∷ Shut ∷ []

-- types Sum, Add and Item, properties left, right and value
abbrev pub sum_tree : Parts
sum_tree = record {
  nodes = root_node 1 (from_to 0 5) ∷ node_in 0 0 2 (from_to 0 1) ∷ node_in 0 1 2 (from_to 4 5) ∷ [];
  values = has 0 0 (value.Child (record { 0 = 1 })) ∷ has 0 1 (value.Child (record { 0 = 2 }))
      ∷ has 1 2 (value.Text (codes "a") (from_to 0 1)) ∷ has 2 2 (value.Text (codes "b") (from_to 4 5)) ∷ [];
  refs = [];
  tokens = sum_tokens;
  name = None;
}

-- ---- `a` by grammar W entry A: known?=[A:ID]; terminal ID: ..: that it was read is all that is kept

abbrev pub a_cross : Value0
a_cross = value0.Cross (codes "A") (Some (codes "ID")) nowhere

abbrev pub flag_rule : Rule
flag_rule = named_rule (codes "A") true false (element.Assign (codes "known") Flag a_cross nowhere)

abbrev pub flags : Grammar
flags = rules_alone (codes "W") (flag_rule ∷ []) (id_terminal ∷ [])

abbrev pub flag_text : List ℕ
flag_text = codes "a"

abbrev pub flag_tokens : List Token
flag_tokens = word_token 0 0 1 ∷ []

abbrev pub flag_marks : List Mark
flag_marks = Open 0 ∷ Put (codes "known") Flag a_cross ∷ AToken 0 ∷ End ∷ Shut ∷ []

abbrev pub flag_tree : Parts
flag_tree = record {
  nodes = root_node 0 (from_to 0 1) ∷ [];
  values = has 0 0 (value.Truth (from_to 0 1)) ∷ [];
  refs = [];
  tokens = flag_tokens;
  name = None;
}
