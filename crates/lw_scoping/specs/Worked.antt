-- Small trees that are written out, of models with parts and events. Their types are Model, Part and Event, their properties name, parts and uses.
use Rattle.std.specs.Prelude.{ℕ, ◌==◌, Bool, List, [], ◌∷◌, Some, None, codes, if◌then◌else◌}
use Rattle.std.specs.Str.{bytes_eq}
use Rattle.lw_base.specs.declared.token.Span.{Span}
use Rattle.lw_base.specs.declared.numbers.NodeId.{NodeId}
use Rattle.lw_base.specs.declared.numbers.PropId.{PropId}
use Rattle.lw_tree.specs.declared.node.Node.{Node}
use Rattle.lw_tree.specs.declared.node.Reference.{Reference}
use Rattle.lw_tree.specs.declared.node.Value.{Value}
use Rattle.lw_tree.specs.declared.node.Value.TheVariants.{Text}
use Rattle.lw_tree.specs.Parts.{Parts}
use Rattle.lw_scoping.specs.Links.{Trees}

-- where something stands does not matter here
abbrev pub somewhere : Span
somewhere = record { start = 0; end = 0 }

-- no type is below another
abbrev pub is_same_type : ℕ → ℕ → Bool
is_same_type type want = type == want

abbrev pub the_model : Node
the_model = record { type_id = record { 0 = 0 }; container = None; prop = None; span = somewhere }

-- a node of a type among the parts of another
abbrev pub among_parts : ℕ → ℕ → Node
among_parts above type = record { type_id = record { 0 = type }; container = Some (record { 0 = above }); prop = Some (record { 0 = 1 }); span = somewhere }

-- the node of this number is called so
abbrev pub called : ℕ → List ℕ → NodeId × PropId × Value
called n name = (record { 0 = n }, record { 0 = 0 }, Text name somewhere)

-- a reference in a node to a node of a type
abbrev pub uses : ℕ → ℕ → List ℕ → Reference
uses owner type name =
    record { owner = record { 0 = owner }; prop = record { 0 = 2 }; want = record { 0 = type }; name = name; span = somewhere }

abbrev pub tree_with : List Node → List (NodeId × PropId × Value) → List Reference → Parts
tree_with nodes values refs = record { nodes = nodes; values = values; refs = refs; tokens = []; name = Some (record { 0 = 0 }) }

-- `part x { part x; part y uses x }`: the model is 0, the outer x 1, the inner x 2, and y 3
abbrev pub shadowing : Parts
shadowing =
    tree_with (the_model ∷ among_parts 0 1 ∷ among_parts 1 1 ∷ among_parts 1 1 ∷ [])
    (called 1 (codes "x") ∷ called 2 (codes "x") ∷ called 3 (codes "y") ∷ []) (uses 3 1 (codes "x") ∷ [])

-- the same with an event as the inner x
abbrev pub other_type : Parts
other_type =
    tree_with (the_model ∷ among_parts 0 1 ∷ among_parts 1 2 ∷ among_parts 1 1 ∷ [])
    (called 1 (codes "x") ∷ called 2 (codes "x") ∷ called 3 (codes "y") ∷ []) (uses 3 1 (codes "x") ∷ [])

-- `part x; event x; part x`, where the model uses a part x and an event x: two of one name and type stand side by side
abbrev pub doubled : Parts
doubled =
    tree_with (the_model ∷ among_parts 0 1 ∷ among_parts 0 2 ∷ among_parts 0 1 ∷ [])
    (called 1 (codes "x") ∷ called 2 (codes "x") ∷ called 3 (codes "x") ∷ []) (uses 0 1 (codes "x") ∷ uses 0 2 (codes "x") ∷ [])

-- a model that has the part x and no name
abbrev pub exporting : Parts
exporting = tree_with (the_model ∷ among_parts 0 1 ∷ []) (called 1 (codes "x") ∷ []) []

-- a model that uses a part x, and a part z, and has neither
abbrev pub importing : Parts
importing = tree_with (the_model ∷ []) [] (uses 0 1 (codes "x") ∷ uses 0 1 (codes "z") ∷ [])

-- `model m uses m`: a model that uses the model of its own name
abbrev pub self_using : Parts
self_using = tree_with (the_model ∷ []) (called 0 (codes "m") ∷ []) (uses 0 0 (codes "m") ∷ [])

-- documents at a, b and c
abbrev pub three : Parts → Parts → Parts → Trees
three a b c address =
    if bytes_eq address (codes "a") then Some a
    else (if bytes_eq address (codes "b") then Some b else (if bytes_eq address (codes "c") then Some c else None))
