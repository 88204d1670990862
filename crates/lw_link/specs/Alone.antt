-- Where an answer leads in a document that is alone.
use Rattle.std.specs.Prelude.{ℕ, ◌≡◌, List, Some, None, true}
use Rattle.std.specs.FinSet.{FinSet, contains}
use Rattle.std.specs.Ordering.{nat_cmp}
use Rattle.lw_index.specs.declared.parts.Answer.{Answer}
use Rattle.lw_index.specs.declared.parts.Answer.TheVariants.{Found, Missing}
use Rattle.lw_scoping.specs.Links.{Link}
use Rattle.lw_scoping.specs.Symbols.{IsNamedOf}
use Rattle.lw_tree.specs.Parts.{Parts}

-- to this node of the document at the address, or nowhere
abbrev pub link_at : List ℕ → Answer → Link
link_at address (Found target) = Some (address, target.node.0)
link_at address Missing = None

-- the root is called so and has a type of the set
abbrev pub IsRootOf : Parts → List ℕ → FinSet nat_cmp → Type 0
IsRootOf tree name fits = IsNamedOf tree name (λ type. contains fits type ≡ true) 0

-- the answer is the root where that is so, and else that nothing fits
abbrev pub IsRootAnswer : Parts → List ℕ → FinSet nat_cmp → Answer → Type 0
IsRootAnswer tree name fits (Found target) = (target.node.0 ≡ 0) × IsRootOf tree name fits
IsRootAnswer tree name fits Missing = ¬ IsRootOf tree name fits
