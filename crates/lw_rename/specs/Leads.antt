-- Where answers lead by what is seen of documents, and the first that leads elsewhere.
use Rattle.std.specs.Prelude.{ℕ, ◌≡◌, ◌≢◌, ◌<◌, ◌==◌, List, [], ◌∷◌, Some, None, slice_get, if◌then◌else◌}
use Rattle.lw_index.specs.declared.parts.Answer.{Answer}
use Rattle.lw_index.specs.declared.parts.Answer.TheVariants.{Found, Missing}
use Rattle.lw_query.specs.declared.view.View.{View}
use Rattle.lw_scoping.specs.Links.{Link}

-- the address of the document of a number: no bytes where there is none
abbrev pub address_among : List View → ℕ → List ℕ
address_among [] n = []
address_among (v ∷ views) n = if v.doc.0 == n then v.uri.now else address_among views n

abbrev pub link_among : List View → Answer → Link
link_among views (Found target) = Some (address_among views target.doc.0, target.node.0)
link_among views Missing = None

-- the first link that is another than the one before, by its number
pub record IsOtherAt (was now : List Link) (i : ℕ) (before behind : Link) : Type 0 where
  pub led : slice_get was i ≡ Some before
  pub leads : slice_get now i ≡ Some behind
  pub differ : before ≢ behind
  pub same_before : (j : ℕ) → j < i → slice_get was j ≡ slice_get now j

abbrev pub IsFirstOther : List Link → List Link → ℕ → Type 0
IsFirstOther was now i = (before : Link) × (behind : Link) × IsOtherAt was now i before behind
