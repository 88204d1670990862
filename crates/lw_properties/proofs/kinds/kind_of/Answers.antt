use Rattle.std.proofs.Common.{Some, ap, sym, subst}
use Rattle.std.specs.Option.{option_copied}
use Rattle.std.proofs.lemmas.Option.{same_Some}
use Rattle.lw_grammar.specs.Leaves.{Literal, Cross}
use Rattle.lw_faults.specs.Attributes.{IsKindOf}
use Rattle.lw_faults.specs.Attributes as known
use Rattle.lw_numbers.specs.Parts.{value_leaf_of}
use Rattle.lw_properties.proofs.ValueKinds.{literal_kind, cross_kind, kind_of_cross}
use Rattle.lw_properties.proofs.kinds.kind_of.Goals as goal

pub returns-in-Keyword : goal.returns-in-Keyword
returns-in-Keyword c kind =
    let g = c.args.g.now in
    let k = c.in-Keyword in (
      λ is. ap Some (literal_kind g k.field-0.now k.field-1 (subst (λ x. IsKindOf g (value_leaf_of x) kind) k.is is)),
      λ is. subst (λ x. IsKindOf g (value_leaf_of x) kind) (sym k.is) (subst (IsKindOf g (Literal k.field-0.now k.field-1)) (same_Some _ kind is) known.literal),
    )

pub returns-in-Cross : goal.returns-in-Cross
returns-in-Cross c kind =
    let g = c.args.g.now in
    let k = c.in-Cross in
    let rule = option_copied k.field-1 in (
      λ is. ap Some (cross_kind g k.wanted.now rule k.field-2 (subst (λ x. IsKindOf g (value_leaf_of x) kind) k.is is)),
      λ is. subst (λ x. IsKindOf g (value_leaf_of x) kind) (sym k.is)
          (subst (IsKindOf g (Cross k.wanted.now rule k.field-2)) (same_Some _ kind is) (kind_of_cross g k.wanted.now rule k.field-2)),
    )
