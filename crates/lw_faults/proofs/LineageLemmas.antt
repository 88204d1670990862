-- A type has one lineage, and so at most one attribute of a name.
use Rattle.std.proofs.Common.{◌≡◌, ℕ, List, ◌∷◌, ◌++◌, map, Contains, refl, sym, ap₂, subst}
use Rattle.std.specs.List.{flat_map}
use Rattle.lw_grammar.specs.declared.grammar.Grammar.{Grammar}
use Rattle.lw_grammar.specs.declared.declared_types.Interface.{Interface}
use Rattle.lw_grammar.specs.declared.declared_types.Attribute.{Attribute}
use Rattle.lw_grammar.specs.Named.{IsFirst}
use Rattle.lw_grammar.proofs.FirstLemmas.{first_place, first_item}
use Rattle.lw_faults.specs.Attributes.{Lineage, Lineages, HasAttribute}
use Rattle.lw_faults.specs.Attributes as above

module _ (g : Grammar) where
  mutual
    pub one_lineage : {entered name : List ℕ} {a b : List Interface} → Lineage g entered name a → Lineage g entered name b → a ≡ b
    one_lineage {entered} (above.interface {above = one} i own is fresh all) (above.interface {above = other} j own' was _ others) =
        let same : own ≡ own' = first_item is.first was.first in
        let turned : Lineages g (i ∷ entered) (map (λ n. n.0) own.above) other =
        subst (λ (x : Interface). Lineages g (i ∷ entered) (map (λ n. n.0) x.above) other) (sym same)
        (subst (λ n. Lineages g (n ∷ entered) (map (λ n. n.0) own'.above) other) (sym (first_place is.first was.first)) others) in
        ap₂ (λ x xs. x ∷ xs) same (one_lineages all turned)
    one_lineage {entered} (above.interface i own is fresh _) (above.looped j own' was begun) =
        absurd (fresh (subst (Contains entered) (first_place was.first is.first) begun))
    one_lineage (above.interface i own is _ _) (above.no_interface none) = absurd (none i own is)
    one_lineage {entered} (above.looped i own is begun) (above.interface j own' was fresh _) =
        absurd (fresh (subst (Contains entered) (first_place is.first was.first) begun))
    one_lineage (above.looped i own is _) (above.looped j own' was _) = refl
    one_lineage (above.looped i own is _) (above.no_interface none) = refl
    one_lineage (above.no_interface none) (above.interface i own is _ _) = absurd (none i own is)
    one_lineage (above.no_interface none) (above.looped i own is _) = refl
    one_lineage (above.no_interface none) (above.no_interface _) = refl

    one_lineages : {entered : List ℕ} {names : List (List ℕ)} {a b : List Interface} → Lineages g entered names a → Lineages g entered names b → a ≡ b
    one_lineages above.none above.none = refl
    one_lineages (above.more first all) (above.more second others) = ap₂ (λ xs ys. xs ++ ys) (one_lineage first second) (one_lineages all others)

  pub one_attribute : {type_name p : List ℕ} (a b : Attribute) → HasAttribute g type_name p a → HasAttribute g type_name p b → a ≡ b
  one_attribute {type_name} {p} a b is was =
      let turned : IsFirst (λ x. x.name ≡ p) (flat_map (λ i. i.attributes) is.lineage) was.at b =
      subst (λ ls. IsFirst (λ (x : Attribute). x.name ≡ p) (flat_map (λ (i : Interface). i.attributes) ls) was.at b) (one_lineage was.all is.all) was.first in
      first_item is.first turned
