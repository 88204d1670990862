-- What a document has that is alone, at its address and elsewhere.
use Rattle.std.proofs.Common.{◌≡◌, ◌≢◌, ℕ, Bool, true, false, List, Option, Some, None, refl, ap}
use Rattle.std.specs.Prelude.{if◌then◌else◌}
use Rattle.std.specs.Str.{bytes_eq}
use Rattle.std.proofs.lemmas.Slice.Eq.{bytes_eq-Decides}
use Rattle.lw_link_rules.specs.Diagnostics.{alone_at}

module _ {X : Type 0} (address : List ℕ) (x : X) where
  pub alone_here : alone_at address x address ≡ Some x
  alone_here = ap (λ (b : Bool). if b then Some x else None) ((bytes_eq-Decides address address).1 refl)

  pub alone_elsewhere : (other : List ℕ) → other ≢ address → alone_at address x other ≡ None
  alone_elsewhere other apart = by (bytes_eq other address) refl
    where
      by : (b : Bool) → bytes_eq other address ≡ b → (if b then Some x else None) ≡ None
      by true same = absurd (apart ((bytes_eq-Decides other address).0 same))
      by false unlike = refl
