-- What a reference leads to in its own tree, by relations of types that agree on what it wants.
use Rattle.std.proofs.Common.{ℕ, List, Option}
use Rattle.std.specs.List.{flat_map}
use Rattle.lw_tree.specs.declared.node.Reference.{Reference}
use Rattle.lw_tree.specs.Parts.{Parts}
use Rattle.lw_scoping.specs.Firsts.{IsFirstIn, found, none}
use Rattle.lw_scoping.specs.Symbols.{locals}
use Rattle.lw_scoping.specs.Links.{IsOwn}

pub first_as : {X : Type 0} {passes others : X → Type 0} {xs : List X} {result : Option X} → ((x : X) → passes x → others x) → ((x : X) → others x → passes x) →
    IsFirstIn passes xs result → IsFirstIn others xs result
first_as forth back (found {x = x} first) =
    found (record { there = first.there; does = forth x first.does; none_before = λ j y lt is does. first.none_before j y lt is (back y does) })
first_as forth back (none misses) = none (λ x has does. misses x has (back x does))

-- whatever the relations are
pub own_as : (below other : ℕ → ℕ → Type 0) (tree : Parts) (r : Reference) → ((type : ℕ) → below type r.want.0 → other type r.want.0) →
    ((type : ℕ) → other type r.want.0 → below type r.want.0) → (n : Option ℕ) → IsOwn below tree r n → IsOwn other tree r n
own_as below other tree r forth back n is = record {
  path = is.path;
  leads = is.leads;
  first = first_as {xs = flat_map (locals tree) is.path} (λ k fits. (fits.0, fits.1, forth fits.0 fits.2)) (λ k fits. (fits.0, fits.1, back fits.0 fits.2)) is.first;
}
