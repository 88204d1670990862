-- The trees of texts by the dotted grammar, by that of sums, and by one with a flag.
use Rattle.std.proofs.Common.{ℕ, ◌≡◌, ◌≢◌, List, [], ◌∷◌, ◌++◌, Some, None, codes, refl, ap, sym, ◌∙◌, slice_get, subst, false, true}
use Rattle.std.specs.List.{flat_map}
use Rattle.lw_base.specs.declared.token.Token.{Token}
use Rattle.lw_grammar.specs.declared.grammar.Grammar.{Grammar}
use Rattle.lw_grammar.specs.declared.rule.Op.TheVariants.{One, Add, Flag}
use Rattle.lw_grammar.specs.declared.rule.Value0.TheVariants as value0
use Rattle.lw_grammar.specs.declared.terminal.Primitive.TheVariants as primitive
use Rattle.lw_grammar.specs.Kinds.{first_uses}
use Rattle.lw_grammar.specs.Leaves.{Leaf, leaves}
use Rattle.lw_grammar.specs.Leaves as leaf
use Rattle.lw_grammar.specs.Named.{IsRule, IsTerminal, declared_rule, declared_terminal}
use Rattle.lw_grammar.proofs.LeafLemmas.{leaf_equations}
use Rattle.lw_numbers.specs.Numbering.{type_names, property_names, leaf_types, leaf_properties}
use Rattle.lw_grammar.specs.Worked.{nowhere, id_call, id_terminal, root_rule, qname_rule, marked_rule, unused_rule, other_action, dotted_grammar}
use Rattle.lw_grammar.proofs.Every.{differ, every_at, first_here, first_later, meant}
use Rattle.lw_reading.specs.Grown.{Grown, Grow, Held, Nothing, Puts, Takes, Text, Truth}
use Rattle.lw_reading.specs.Numbers.{IsNumberOfType, IsNumberOfProperty}
use Rattle.lw_reading.specs.Values as values
use Rattle.lw_reading.specs.Values.{text_said}
use Rattle.lw_reading.specs.Brackets.{Root, in_value, in_node, at_root, joined_texts}
use Rattle.lw_reading.specs.Follows.{FollowsMarks, nothing, token, next, opens, puts, shuts, ends, renames, wraps, plain, data_type, truth, a_node, PutsValueIn}
use Rattle.lw_reading.specs.Follows as follows
use Rattle.lw_reading.specs.Trees.{IsTree}
use Rattle.lw_reading.specs.Worked.{from_to, word_token, marked_text, marked_tokens, marked_marks, marked_tree, dotted_text, dotted_tokens, dotted_marks, dotted_tree, wrap_action, item_call, sum_rule, item_rule, sums, sum_text, sum_tokens, sum_marks, sum_tree, a_cross, flag_rule, flags, flag_text, flag_tokens, flag_marks, flag_tree}

one_flag : One ≢ Flag
one_flag h = cc

text_number : primitive.Text ≢ primitive.Number
text_number h = cc

-- what one token of an identifier says
says : (g : Grammar) (text : List ℕ) (n kind p from to : ℕ) (held : Held) (looked : List ℕ) → IsTerminal g (codes "ID") n id_terminal →
    text_said (codes "ID") (joined_texts text (word_token kind from to ∷ [])) ≡ looked →
    PutsValueIn g text One id_call (word_token kind from to ∷ []) None held p (Puts held p (Text looked (from_to from to)))
says g text n kind p from to held looked named is =
    subst (λ t. PutsValueIn g text One id_call (word_token kind from to ∷ []) None held p (Puts held p (Text t (from_to from to)))) is
    (plain (follows.terminal n id_terminal one_flag (value0.outs-Call (codes "ID") nowhere) named (values.words text_number)))

-- ---- the dotted grammar

dotted_types : type_names dotted_grammar ≡ codes "Root" ∷ codes "QName" ∷ codes "Marked" ∷ codes "Other" ∷ codes "Unused" ∷ []
dotted_types = simp (leaf_equations)

dotted_properties : property_names dotted_grammar ≡ codes "name" ∷ codes "y" ∷ codes "z" ∷ []
dotted_properties = simp (leaf_equations)

dotted_type : (n : ℕ) (name : List ℕ) →
    slice_get (codes "Root" ∷ codes "QName" ∷ codes "Marked" ∷ codes "Other" ∷ codes "Unused" ∷ []) n ≡ Some name → IsNumberOfType dotted_grammar name n
dotted_type n name is = ap (λ names. slice_get names n) dotted_types ∙ is

dotted_property : (n : ℕ) (name : List ℕ) → slice_get (codes "name" ∷ codes "y" ∷ codes "z" ∷ []) n ≡ Some name → IsNumberOfProperty dotted_grammar name n
dotted_property n name is = ap (λ names. slice_get names n) dotted_properties ∙ is

dotted_id : IsTerminal dotted_grammar (codes "ID") 0 id_terminal
dotted_id =
    meant declared_terminal declared_rule (codes "ID") dotted_grammar.terminals dotted_grammar.rules 0 id_terminal
    (first_here refl) (differ _ _ refl, (differ _ _ refl, (differ _ _ refl, (differ _ _ refl, tt))))

qname_named : IsRule dotted_grammar (codes "QName") 1 qname_rule
qname_named =
    meant declared_rule declared_terminal (codes "QName") dotted_grammar.rules dotted_grammar.terminals 1 qname_rule
    (first_later (differ _ _ refl) (first_here refl)) (differ _ _ refl, (differ _ _ refl, (differ _ _ refl, tt)))

abbrev marked_held : Held
marked_held = Puts Nothing 1 (Text (codes "a") (from_to 2 3))

marked_follows : FollowsMarks dotted_grammar marked_text marked_marks marked_tokens (Root (Grow 3 (from_to 0 3) marked_held) ∷ [])
marked_follows =
    next (next (next (token (word_token 2 2 3) (next (next (token (word_token 1 0 1)
    (next (next nothing (opens {type = 0} {rule = root_rule} refl (refl, refl) (dotted_type 0 (codes "Root") refl)))
    (opens {type = 2} {rule = marked_rule} refl (refl, refl) (dotted_type 2 (codes "Marked") refl))))
    (renames refl (dotted_type 3 (codes "Other") refl))) (puts (dotted_property 1 (codes "y") refl))))
    (ends (says dotted_grammar marked_text 0 2 1 2 3 Nothing (codes "a") dotted_id refl))) (shuts in_node)) (shuts at_root)

pub tree_of_marked : IsTree dotted_grammar marked_text marked_marks marked_tokens marked_tokens marked_tree
tree_of_marked = record {
  grown = Grow 3 (from_to 0 3) marked_held;
  follows = marked_follows;
  named = dotted_property 0 (codes "name") refl;
  parts = record { nodes = refl; values = λ n p. refl; refs = refl; tokens = refl; name = refl };
}

abbrev dotted_held : Held
dotted_held = Puts Nothing 0 (Text (codes "a.b") (from_to 0 5))

dotted_follows : FollowsMarks dotted_grammar dotted_text dotted_marks dotted_tokens (Root (Grow 0 (from_to 0 5) dotted_held) ∷ [])
dotted_follows =
    next (next (token (word_token 2 4 5) (token (word_token 0 2 3) (token (word_token 2 0 1)
    (next (next nothing (opens {type = 0} {rule = root_rule} refl (refl, refl) (dotted_type 0 (codes "Root") refl))) (puts (dotted_property 0 (codes "name") refl))))))
    (ends (plain (data_type 1 qname_rule one_flag (value0.outs-Call (codes "QName") nowhere) qname_named)))) (shuts at_root)

pub tree_of_dotted : IsTree dotted_grammar dotted_text dotted_marks dotted_tokens dotted_tokens dotted_tree
tree_of_dotted = record {
  grown = Grow 0 (from_to 0 5) dotted_held;
  follows = dotted_follows;
  named = dotted_property 0 (codes "name") refl;
  parts = record { nodes = refl; values = λ n p. refl; refs = refl; tokens = refl; name = refl };
}

-- ---- sums

sum_types : type_names sums ≡ codes "Sum" ∷ codes "Add" ∷ codes "Item" ∷ []
sum_types = simp (leaf_equations)

sum_properties : property_names sums ≡ codes "left" ∷ codes "right" ∷ codes "value" ∷ []
sum_properties = simp (leaf_equations)

sum_type : (n : ℕ) (name : List ℕ) → slice_get (codes "Sum" ∷ codes "Add" ∷ codes "Item" ∷ []) n ≡ Some name → IsNumberOfType sums name n
sum_type n name is = ap (λ names. slice_get names n) sum_types ∙ is

sum_property : (n : ℕ) (name : List ℕ) → slice_get (codes "left" ∷ codes "right" ∷ codes "value" ∷ []) n ≡ Some name → IsNumberOfProperty sums name n
sum_property n name is = ap (λ names. slice_get names n) sum_properties ∙ is

sum_id : IsTerminal sums (codes "ID") 0 id_terminal
sum_id =
    meant declared_terminal declared_rule (codes "ID") sums.terminals sums.rules 0 id_terminal (first_here refl) (differ _ _ refl, (differ _ _ refl, tt))

abbrev left_item : Grown
left_item = Grow 2 (from_to 0 1) (Puts Nothing 2 (Text (codes "a") (from_to 0 1)))

abbrev right_item : Grown
right_item = Grow 2 (from_to 4 5) (Puts Nothing 2 (Text (codes "b") (from_to 4 5)))

abbrev sum_grown : Grown
sum_grown = Grow 1 (from_to 0 5) (Takes (Takes Nothing 0 left_item) 1 right_item)

sum_follows : FollowsMarks sums sum_text sum_marks sum_tokens (Root sum_grown ∷ [])
sum_follows =
    next (next (next (next (token (word_token 1 4 5) (next (next (next (token (word_token 0 2 3) (next (next (next (token (word_token 1 0 1)
    (next (next (next nothing (opens {type = 0} {rule = sum_rule} refl (refl, refl) (sum_type 0 (codes "Sum") refl)))
    (opens {type = 2} {rule = item_rule} refl (refl, refl) (sum_type 2 (codes "Item") refl))) (puts (sum_property 2 (codes "value") refl))))
    (ends (says sums sum_text 0 1 2 0 1 Nothing (codes "a") sum_id refl))) (shuts in_node))
    (wraps refl (sum_type 1 (codes "Add") refl) (sum_property 0 (codes "left") refl)))) (puts (sum_property 1 (codes "right") refl)))
    (opens {type = 2} {rule = item_rule} refl (refl, refl) (sum_type 2 (codes "Item") refl))) (puts (sum_property 2 (codes "value") refl))))
    (ends (says sums sum_text 0 1 2 4 5 Nothing (codes "b") sum_id refl))) (shuts in_value)) (ends a_node)) (shuts at_root)

sum_unnamed : (n : ℕ) → ¬ IsNumberOfProperty sums (codes "name") n
sum_unnamed n is =
    every_at (λ p. p ≢ codes "name") (codes "left" ∷ codes "right" ∷ codes "value" ∷ []) n (codes "name")
    (differ _ _ refl, (differ _ _ refl, (differ _ _ refl, tt))) (sym (ap (λ names. slice_get names n) sum_properties) ∙ is) refl

pub tree_of_sum : IsTree sums sum_text sum_marks sum_tokens sum_tokens sum_tree
tree_of_sum = record {
  grown = sum_grown;
  follows = sum_follows;
  named = sum_unnamed;
  parts = record { nodes = refl; values = λ n p. refl; refs = refl; tokens = refl; name = refl };
}

-- ---- a flag

flag_types : type_names flags ≡ codes "A" ∷ []
flag_types = simp (leaf_equations)

flag_properties : property_names flags ≡ codes "known" ∷ []
flag_properties = simp (leaf_equations)

flag_follows : FollowsMarks flags flag_text flag_marks flag_tokens (Root (Grow 0 (from_to 0 1) (Puts Nothing 0 (Truth (from_to 0 1)))) ∷ [])
flag_follows =
    next (next (token (word_token 0 0 1) (next (next nothing (opens {rule = flag_rule} refl (refl, refl) (ap (λ names. slice_get names 0) flag_types)))
    (puts (ap (λ names. slice_get names 0) flag_properties)))) (ends (plain truth))) (shuts at_root)

flag_unnamed : (n : ℕ) → ¬ IsNumberOfProperty flags (codes "name") n
flag_unnamed n is =
    every_at (λ p. p ≢ codes "name") (codes "known" ∷ []) n (codes "name") (differ _ _ refl, tt)
    (sym (ap (λ names. slice_get names n) flag_properties) ∙ is) refl

pub tree_of_flag : IsTree flags flag_text flag_marks flag_tokens flag_tokens flag_tree
tree_of_flag = record {
  grown = Grow 0 (from_to 0 1) (Puts Nothing 0 (Truth (from_to 0 1)));
  follows = flag_follows;
  named = flag_unnamed;
  parts = record { nodes = refl; values = λ n p. refl; refs = refl; tokens = refl; name = refl };
}
