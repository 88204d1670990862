-- Tokens that stand in a row in their text, and tokens that do not.
use Rattle.std.proofs.Common.{◌≡◌, [], ◌∷◌, length, codes, refl, arith}
use Rattle.std.proofs.lemmas.List.Elements.{All-head}
use Rattle.lw_grammar.specs.Worked.{states_by_id}
use Rattle.lw_reading.specs.Worked.{state_marks, state_text, state_tokens, state_tree, word_token, root_node, node_in, from_to}
use Rattle.lw_reading.proofs.StateTree.{states_tree}
use Rattle.lw_reading.specs.Within.{StandInRow, IsInText, StandsInText, none, more}
use Rattle.lw_reading.proofs.InRow.{head_row}
use Rattle.lw_reading.proofs.InText.{tree_in}

long : length state_text ≡ 24
long = refl

pub states_row : StandInRow state_text 0 state_tokens
states_row =
    more (omega arith) (omega arith, omega (arith, long))
    (more (omega arith) (omega arith, omega (arith, long))
    (more (omega arith) (omega arith, omega (arith, long))
    (more (omega arith) (omega arith, omega (arith, long))
    (more (omega arith) (omega arith, omega (arith, long))
    (more (omega arith) (omega arith, omega (arith, long))
    (more (omega arith) (omega arith, omega (arith, long)) none))))))

pub states_stand : StandsInText state_text state_tree
states_stand = tree_in states_by_id state_text state_marks state_tokens state_tokens state_tree states_row states_tree

pub none_in_nothing : ¬ StandsInText [] state_tree
none_in_nothing stands =
    let root = All-head (λ node. IsInText [] node.span) (root_node 0 (from_to 0 24)) (node_in 0 1 1 (from_to 8 24) ∷ []) stands.nodes in omega (arith, root.1)

pub not_behind : ¬ StandInRow (codes "ab") 0 (word_token 0 0 2 ∷ word_token 0 1 2 ∷ [])
not_behind row = omega (arith, (head_row (codes "ab") (head_row (codes "ab") row).2).0)

pub not_in_text : ¬ StandInRow (codes "a") 0 (word_token 0 0 2 ∷ [])
not_in_text row =
    let short : length (codes "a") ≡ 1 = refl in
    omega (arith, (head_row (codes "a") row).1.1, short)
