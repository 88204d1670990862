-- The tree of a text by the grammar of models with states.
use Rattle.std.proofs.Common.{ℕ, ◌≡◌, ◌≢◌, List, [], ◌∷◌, ◌++◌, Some, None, Option, codes, refl, ap, sym, ◌∙◌, subst, slice_get, false, true}
use Rattle.std.specs.List.{flat_map}
use Rattle.lw_base.specs.declared.token.Span.{Span}
use Rattle.lw_base.specs.declared.token.Token.{Token}
use Rattle.lw_grammar.specs.declared.grammar.Grammar.{Grammar}
use Rattle.lw_grammar.specs.declared.rule.Op.{Op}
use Rattle.lw_grammar.specs.declared.rule.Op.TheVariants.{One, Add, Flag}
use Rattle.lw_grammar.specs.declared.rule.Value0.{Value0, out-Value0}
use Rattle.lw_grammar.specs.declared.rule.Value0.TheVariants as value0
use Rattle.lw_grammar.specs.declared.rule.Value0.TheOpen as value
use Rattle.lw_grammar.specs.declared.rule.Value0.TheOpen.{Value0-F}
use Rattle.lw_grammar.specs.declared.terminal.Primitive.TheVariants as primitive
use Rattle.lw_grammar.specs.Kinds.{first_uses}
use Rattle.lw_grammar.specs.Leaves.{Leaf, leaves}
use Rattle.lw_grammar.specs.Leaves as leaf
use Rattle.lw_grammar.specs.Named.{IsTerminal, declared_rule, declared_terminal}
use Rattle.lw_grammar.proofs.LeafLemmas.{leaf_equations}
use Rattle.lw_numbers.specs.Numbering.{type_names, property_names, leaf_types, leaf_properties}
use Rattle.lw_grammar.specs.Marks.{Mark, Token as AToken, Open, Shut, Put, End}
use Rattle.lw_grammar.specs.Worked.{nowhere, id_call, by_id, id_terminal, model_rule, state_rule, states_by_id}
use Rattle.lw_grammar.proofs.StatesWorked.{id_named}
use Rattle.lw_reading.specs.Grown.{Grown, Grow, Held, Nothing, Puts, Takes, Points, Plain, Text}
use Rattle.lw_reading.specs.Numbers.{IsNumberOfType, IsNumberOfProperty}
use Rattle.lw_reading.specs.Values as values
use Rattle.lw_reading.specs.Values.{text_said}
use Rattle.lw_reading.specs.Brackets.{Root, Shuts, in_value, at_root, Bracket, joined_texts, InNode, InValue}
use Rattle.lw_reading.specs.Follows.{FollowsMarks, nothing, token, next, opens, puts, shuts, ends, left_out, ended, shut, root, MakesReference, plain, a_node, a_reference, written, ChangesOpen, PutsValueIn}
use Rattle.lw_reading.specs.Follows as follows
use Rattle.lw_reading.specs.Trees.{IsTree, IsOpenedTree}
use Rattle.lw_reading.specs.Worked.{from_to, word_token, state_text, state_tokens, state_marks, state_tree, begun_marks, begun_tokens, begun_tree, id_put}

abbrev model_leaves : List Leaf
model_leaves =
    leaf.Keyword (codes "model") nowhere ∷ leaf.Assign (codes "name") One id_call nowhere
    ∷ leaf.Assign (codes "states") Add (value0.Call (codes "State") nowhere) nowhere ∷ []

of_model : leaves model_rule.body ≡ model_leaves
of_model = simp leaf_equations

abbrev state_leaves : List Leaf
state_leaves =
    leaf.Keyword (codes "state") nowhere ∷ leaf.Assign (codes "name") One id_call nowhere ∷ leaf.Keyword (codes "to") nowhere
    ∷ leaf.Assign (codes "next") Add by_id nowhere ∷ leaf.Keyword (codes "end") nowhere ∷ []

of_state : leaves (state_rule by_id).body ≡ state_leaves
of_state = simp leaf_equations

abbrev types_by : List Leaf → List Leaf → List (List ℕ)
types_by a b = first_uses [] ((codes "Model" ∷ flat_map leaf_types a) ++ ((codes "State" ∷ flat_map leaf_types b) ++ []))

its_types : type_names states_by_id ≡ codes "Model" ∷ codes "State" ∷ []
its_types = ap (λ a. types_by a (leaves (state_rule by_id).body)) of_model ∙ ap (λ b. types_by model_leaves b) of_state

abbrev properties_by : List Leaf → List Leaf → List (List ℕ)
properties_by a b = first_uses [] (flat_map leaf_properties a ++ (flat_map leaf_properties b ++ []))

its_properties : property_names states_by_id ≡ codes "name" ∷ codes "states" ∷ codes "next" ∷ []
its_properties = ap (λ a. properties_by a (leaves (state_rule by_id).body)) of_model ∙ ap (λ b. properties_by model_leaves b) of_state

type_is : (n : ℕ) (name : List ℕ) → slice_get (codes "Model" ∷ codes "State" ∷ []) n ≡ Some name → IsNumberOfType states_by_id name n
type_is n name is = ap (λ names. slice_get names n) its_types ∙ is

property_is : (n : ℕ) (name : List ℕ) → slice_get (codes "name" ∷ codes "states" ∷ codes "next" ∷ []) n ≡ Some name → IsNumberOfProperty states_by_id name n
property_is n name is = ap (λ names. slice_get names n) its_properties ∙ is

one_flag : One ≢ Flag
one_flag h = cc

add_flag : Add ≢ Flag
add_flag h = cc

text_number : primitive.Text ≢ primitive.Number
text_number h = cc

call_cross : (name : List ℕ) (s : Span) (wanted : List ℕ) (rule : Option (List ℕ)) (t : Span) → ◌≢◌ {A = Value0-F Value0} (value.Call name s) (value.Cross wanted rule t)
call_cross name s wanted rule t h = cc

-- what one token of an identifier says
says : (p from to : ℕ) (held : Held) (looked : List ℕ) → text_said (codes "ID") (joined_texts state_text (word_token 5 from to ∷ [])) ≡ looked →
    PutsValueIn states_by_id state_text One id_call (word_token 5 from to ∷ []) None held p (Puts held p (Text looked (from_to from to)))
says p from to held looked is =
    subst (λ t. PutsValueIn states_by_id state_text One id_call (word_token 5 from to ∷ []) None held p (Puts held p (Text t (from_to from to)))) is
    (plain (follows.terminal 1 id_terminal one_flag (value0.outs-Call (codes "ID") nowhere) (id_named by_id) (values.words text_number)))

looks_up : (p from to : ℕ) (held : Held) (looked : List ℕ) → text_said (codes "ID") (joined_texts state_text (word_token 5 from to ∷ [])) ≡ looked →
    PutsValueIn states_by_id state_text Add by_id (word_token 5 from to ∷ []) None held p (Points held p 1 looked (from_to from to))
looks_up p from to held looked is =
    subst (λ t. PutsValueIn states_by_id state_text Add by_id (word_token 5 from to ∷ []) None held p (Points held p 1 t (from_to from to))) is
    (a_reference add_flag (written (value0.outs-Cross (codes "State") (Some (codes "ID")) nowhere)) (type_is 1 (codes "State") refl)
    (follows.terminal 1 id_terminal (id_named by_id) (values.words text_number)))

abbrev t0 : Token
t0 = word_token 0 0 5

abbrev t1 : Token
t1 = word_token 5 6 7

abbrev t2 : Token
t2 = word_token 1 8 13

abbrev t3 : Token
t3 = word_token 5 14 15

abbrev t4 : Token
t4 = word_token 2 16 18

abbrev t5 : Token
t5 = word_token 5 19 20

abbrev t6 : Token
t6 = word_token 3 21 24

abbrev state_put : Mark
state_put = Put (codes "states") Add (value0.Call (codes "State") nowhere)

model_begins : FollowsMarks states_by_id state_text (Open 0 ∷ AToken 0 ∷ id_put (codes "name") ∷ AToken 5 ∷ End ∷ []) (t0 ∷ t1 ∷ [])
    (InNode 0 0 (Puts Nothing 0 (Text (codes "m") (from_to 6 7))) ∷ [])
model_begins =
    next (token t1 (next (token t0 (next nothing (opens {rule = model_rule} refl (refl, refl) (type_is 0 (codes "Model") refl)))) (puts (property_is 0 (codes "name") refl))))
    (ends (says 0 6 7 Nothing (codes "m") refl))

abbrev named_m : Held
named_m = Puts Nothing 0 (Text (codes "m") (from_to 6 7))

abbrev named_x : Held
named_x = Puts Nothing 0 (Text (codes "x") (from_to 14 15))

abbrev to_x : Held
to_x = Points named_x 2 1 (codes "x") (from_to 19 20)

abbrev whole_state : Grown
whole_state = Grow 1 (from_to 8 24) to_x

state_begins : FollowsMarks states_by_id state_text
    (Open 0 ∷ AToken 0 ∷ id_put (codes "name") ∷ AToken 5 ∷ End ∷ state_put ∷ Open 1 ∷ AToken 1 ∷ id_put (codes "name") ∷ AToken 5 ∷ End ∷ [])
    (t0 ∷ t1 ∷ t2 ∷ t3 ∷ []) (InNode 1 2 named_x ∷ InValue 1 Add (value0.Call (codes "State") nowhere) 2 None ∷ InNode 0 0 named_m ∷ [])
state_begins =
    next (token t3 (next (token t2 (next (next model_begins (puts (property_is 1 (codes "states") refl)))
    (opens {rule = state_rule by_id} refl (refl, refl) (type_is 1 (codes "State") refl)))) (puts (property_is 0 (codes "name") refl))))
    (ends (says 0 14 15 Nothing (codes "x") refl))

state_ends : FollowsMarks states_by_id state_text state_marks state_tokens (Root (Grow 0 (from_to 0 24) (Takes named_m 1 whole_state)) ∷ [])
state_ends =
    next (next (next (token t6 (next (token t5 (next (token t4 state_begins) (puts (property_is 2 (codes "next") refl))))
    (ends (looks_up 2 19 20 named_x (codes "x") refl)))) (shuts in_value)) (ends a_node)) (shuts at_root)

pub states_tree : IsTree states_by_id state_text state_marks state_tokens state_tokens state_tree
states_tree = record {
  grown = Grow 0 (from_to 0 24) (Takes named_m 1 whole_state);
  follows = state_ends;
  named = property_is 0 (codes "name") refl;
  parts = record { nodes = refl; values = λ n p. refl; refs = refl; tokens = refl; name = refl };
}

-- ---- the reference is not read to its end

not_cross : ¬ MakesReference Add (value0.Call (codes "State") nowhere)
not_cross (added, (wanted, rule, s, is)) = call_cross (codes "State") nowhere wanted rule s (sym (value0.outs-Call (codes "State") nowhere) ∙ is)

state_open : FollowsMarks states_by_id state_text begun_marks begun_tokens
    (InValue 2 Add by_id 5 None ∷ InNode 1 2 named_x ∷ InValue 1 Add (value0.Call (codes "State") nowhere) 2 None ∷ InNode 0 0 named_m ∷ [])
state_open = token t5 (next (token t4 state_begins) (puts (property_is 2 (codes "next") refl)))

pub begun_state : IsOpenedTree states_by_id state_text begun_marks begun_tokens begun_tokens begun_tree
begun_state = record {
  brackets = InValue 2 Add by_id 5 None ∷ InNode 1 2 named_x ∷ InValue 1 Add (value0.Call (codes "State") nowhere) 2 None ∷ InNode 0 0 named_m ∷ [];
  grown = Grow 0 (from_to 0 20) (Takes named_m 1 (Grow 1 (from_to 8 20) named_x));
  follows = state_open;
  closes = left_out (add_flag, (codes "State", Some (codes "ID"), nowhere, value0.outs-Cross (codes "State") (Some (codes "ID")) nowhere))
      (shut in_value (ended not_cross (ends a_node) (shut at_root root)));
  named = property_is 0 (codes "name") refl;
  parts = record { nodes = refl; values = λ n p. refl; refs = refl; tokens = refl; name = refl };
}
