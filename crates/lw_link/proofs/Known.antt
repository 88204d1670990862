-- Which types have sets, and that the type that a reference wants is one.
use Rattle.std.proofs.Common.{ℕ, ◌<◌, [], length, get_or, ap, arith}
use Rattle.std.proofs.lemmas.Option.{slice_get-get_or}
use Rattle.lw_grammar.specs.declared.grammar.Grammar.{Grammar}
use Rattle.lw_reading.specs.Numbers.{IsNumberOfType}
use Rattle.lw_numbers.specs.Numbering.{type_names}
use Rattle.lw_tree.specs.declared.node.Reference.{Reference}
use Rattle.lw_types.specs.Inferred.{AreTypesOf}
use Rattle.lw_types.specs.declared.types.Types.{Types}

module _ (g : Grammar) (types : Types) (are : AreTypesOf g types) (type : ℕ) where
  has_set : type < length (type_names g) → type < length types.types.below.items
  has_set lt = omega (arith, are.types.below.all, ap length are.rules.numbers.types)

  is_number : type < length types.types.below.items → IsNumberOfType g (get_or (type_names g) type []) type
  is_number lt =
      let inside : type < length (type_names g) = omega (arith, are.types.below.all, ap length are.rules.numbers.types) in
      slice_get-get_or (type_names g) type [] inside

pub want_named : (types : Types) (r : Reference) → (g : Grammar) × AreTypesOf g types × (r.want.0 < length (type_names g)) → (h : Grammar) → AreTypesOf h types →
    IsNumberOfType h (get_or (type_names h) r.want.0 []) r.want.0
want_named types r known h are = is_number h types are r.want.0 (has_set known.0 types known.1 r.want.0 known.2)
