-- What an index holds: documents by number, each with its URI and its exports. Held against Langium, "Scoping": the index manager has, for each document, the descriptions of the nodes that it exports.
use Rattle.std.specs.Prelude.{◌≡◌, ℕ, List, [], refl}
use Rattle.std.specs.Option.{option_map_or}
use Rattle.std.specs.Ordering.{nat_cmp}
use Rattle.std.specs.Coded.{Coded, code_by, coded×, coded_list, coded_ℕ}
use Rattle.std.specs.FinMap as map
use Rattle.std.specs.Prelude.{Some}
use Rattle.lw_index.specs.declared.parts.Document.{Document}
use Rattle.lw_index.specs.declared.parts.Export.{Export}

abbrev pub Indexed : Type 0
Indexed = map.FinMap nat_cmp Document

-- an export as the list and the numbers that it is made of
abbrev pub coded_export : Coded Export
coded_export =
    code_by (List ℕ × (ℕ × ℕ)) (coded× (coded_list coded_ℕ) (coded× coded_ℕ coded_ℕ)) (λ x. (x.name, (x.type_id.0, x.node.0)))
    (λ p. record { name = p.0; type_id = record { 0 = p.1.0 }; node = record { 0 = p.1.1 } }) (λ _. refl)

-- a document as its URI and its exports
abbrev pub coded_document : Coded Document
coded_document =
    code_by (List ℕ × List Export) (coded× (coded_list coded_ℕ) (coded_list coded_export)) (λ d. (d.uri, d.exports))
    (λ p. record { uri = p.0; exports = p.1 }) (λ _. refl)

-- what a document exports: nothing where there is none of this number
abbrev pub exports_in : Indexed → ℕ → List Export
exports_in index doc = option_map_or (λ d. d.exports) (map.get index doc) []

-- no document but the one of this number has this URI
abbrev pub IsFreeFor : Indexed → ℕ → List ℕ → Type 0
IsFreeFor index doc uri = (other : ℕ) (document : Document) → map.get index other ≡ Some document → document.uri ≡ uri → other ≡ doc
