-- The references that lead to a node, over all documents, and their order. Held against LSP 3.17, "Find References Request": the references of a symbol are those of the whole project, whatever document they stand in. That they go by the number of the document and then by their own, each once, is this profile's.
use Rattle.std.specs.Prelude.{◌≡◌, ◌↔◌, ◌<◌, List, Some, Contains, AllPairs}
use Rattle.std.specs.List.{slice_get}
use Rattle.std.specs.FinMap as map
use Rattle.lw_base.specs.declared.numbers.DocId.{DocId}
use Rattle.lw_index.specs.declared.parts.Answer.{Answer}
use Rattle.lw_index.specs.declared.parts.Answer.TheVariants.{Found}
use Rattle.lw_index.specs.declared.parts.Target.{Target}
use Rattle.lw_index.specs.declared.refs.slot.SlotId.{SlotId}
use Rattle.lw_index.specs.Led.{Led}

-- the document of the reference was given answers, and the one of the reference is this node
pub record IsUser (led : Led) (target : Target) (slot : SlotId) : Type 0 where
  pub answers : List Answer
  pub given : map.get led slot.doc.0 ≡ Some answers
  pub leads : slice_get answers slot.reference.0 ≡ Some (Found target)

-- of two references that which goes first: by the numbers of their documents, and in one document by their own
pub data SlotPrecedes (a b : SlotId) : Type 0 where
  by_document : a.doc.0 < b.doc.0 → SlotPrecedes a b
  by_reference : a.doc ≡ b.doc → a.reference.0 < b.reference.0 → SlotPrecedes a b

-- the references of one document with these answers that lead to a node, in order
pub record AreUsersIn (answers : List Answer) (doc : DocId) (target : Target) (slots : List SlotId) : Type 0 where
  pub exact : (slot : SlotId) → Contains slots slot ↔ ((slot.doc ≡ doc) × (slice_get answers slot.reference.0 ≡ Some (Found target)))
  pub ordered : AllPairs SlotPrecedes slots
