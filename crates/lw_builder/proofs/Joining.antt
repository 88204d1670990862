-- Lists and tables that are put together of two.
use Rattle.std.proofs.Common.{◌≡◌, List, [], ◌∷◌, ◌++◌}
use Rattle.std.proofs.lemmas.List.{map-append}
use Rattle.lw_base.specs.declared.numbers.NodeId.{NodeId}
use Rattle.lw_base.specs.declared.numbers.PropId.{PropId}
use Rattle.lw_tree.specs.declared.node.Value.{Value}
use Rattle.lw_builder.specs.Tables.{owned}

-- both lists joined
pub joined : {X : Type 0} {a b c d : List X} → a ≡ c → b ≡ d → a ++ b ≡ c ++ d
joined e f = cc

-- a value with its property and the node that holds it
abbrev pub Entry : Type 0
Entry = NodeId × PropId × Value

-- what a node holds itself
pub owned-push : (o : NodeId) (xs : List (PropId × Value)) (e : PropId × Value) → owned o (xs ++ e ∷ []) ≡ owned o xs ++ (o, e.0, e.1) ∷ []
owned-push o xs e = map-append (λ (x : PropId × Value). let y : Entry = (o, x.0, x.1) in y) xs (e ∷ [])
