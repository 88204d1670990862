-- Small trees that are written out, beside that of `part x; event x; part x` (`twins` of `lw_link_rules`): one that a rename of the first part leaves, and one of
-- another shape.
use Rattle.std.specs.Prelude.{ℕ, List, [], ◌∷◌, codes}
use Rattle.lw_base.specs.declared.numbers.NodeId.{NodeId}
use Rattle.lw_base.specs.declared.numbers.PropId.{PropId}
use Rattle.lw_base.specs.declared.token.Span.{Span}
use Rattle.lw_places.specs.Mentions.{Mention}
use Rattle.lw_link_rules.specs.Worked.{called_x_at, letter_at}
use Rattle.lw_scoping.specs.Worked.{among_parts, the_model, tree_with}
use Rattle.lw_tree.specs.declared.node.Value.{Value}
use Rattle.lw_tree.specs.declared.node.Value.TheVariants.{Text}
use Rattle.lw_tree.specs.Parts.{Parts}

-- one letter of the document at an address
abbrev pub letter_in : List ℕ → ℕ → Mention
letter_in address start = record { address = address; span = letter_at start }

-- the node of this number is called `long`, by the four letters from this byte
abbrev pub called_long_at : ℕ → Span → NodeId × PropId × Value
called_long_at n s = (record { 0 = n }, record { 0 = 0 }, Text (codes "long") s)

-- `part long; event x; part x`: the same nodes, of which the first part has a longer name, so that all that follows stands further behind
abbrev pub longer_twins : Parts
longer_twins =
    tree_with (the_model ∷ among_parts 0 1 ∷ among_parts 0 2 ∷ among_parts 0 1 ∷ [])
    (called_long_at 1 (record { start = 5; end = 9 }) ∷ called_x_at 2 17 ∷ called_x_at 3 25 ∷ []) []

-- `part x; part x; event x`: the event is 3, and the second part 2
abbrev pub event_last : Parts
event_last =
    tree_with (the_model ∷ among_parts 0 1 ∷ among_parts 0 1 ∷ among_parts 0 2 ∷ []) (called_x_at 1 5 ∷ called_x_at 2 13 ∷ called_x_at 3 22 ∷ []) []
