-- A small tree that is written out, of a model with parts and events, whose names have places.
use Rattle.std.specs.Prelude.{ℕ, ◌+◌, [], ◌∷◌, codes}
use Rattle.lw_base.specs.declared.numbers.NodeId.{NodeId}
use Rattle.lw_base.specs.declared.numbers.PropId.{PropId}
use Rattle.lw_base.specs.declared.token.Span.{Span}
use Rattle.lw_scoping.specs.Worked.{among_parts, the_model, tree_with}
use Rattle.lw_tree.specs.declared.node.Value.{Value}
use Rattle.lw_tree.specs.declared.node.Value.TheVariants.{Text}
use Rattle.lw_tree.specs.Parts.{Parts}

-- one letter
abbrev pub letter_at : ℕ → Span
letter_at start = record { start = start; end = start + 1 }

-- the node of this number is called x, by a letter at this byte
abbrev pub called_x_at : ℕ → ℕ → NodeId × PropId × Value
called_x_at n start = (record { 0 = n }, record { 0 = 0 }, Text (codes "x") (letter_at start))

-- `part x; event x; part x`: the model is 0, the parts are 1 and 3, and the event is 2
abbrev pub twins : Parts
twins =
    tree_with (the_model ∷ among_parts 0 1 ∷ among_parts 0 2 ∷ among_parts 0 1 ∷ [])
    (called_x_at 1 5 ∷ called_x_at 2 14 ∷ called_x_at 3 22 ∷ []) []
