-- Places of documents, by the number of the document and in bytes, and as an editor is told them.
-- Language Server Protocol 3.17, "Location" and "Position".
use Rattle.std.specs.Prelude.{ℕ, ◌≡◌, List, Some, Contains}
use Rattle.std.specs.FinMap.{get}
use Rattle.std.specs.Str.{IsCharBoundary}
use Rattle.lw_base.specs.declared.token.Span.{Span}
use Rattle.lw_build.specs.Readings.{present_texts_of}
use Rattle.lw_build.specs.Seen.{SeenView, StandsSeen, seen_tree}
use Rattle.lw_build.specs.View.{WorkspaceView}
use Rattle.lw_docs.specs.Documents.{Numbered}
use Rattle.lw_query.specs.declared.spot.Spot.{Spot}
use Rattle.lw_rpc.specs.declared.reply.Location.{Location}
use Rattle.lw_text.specs.Offset.{IsOffset}
use Rattle.lw_text.specs.Position.{IsPosition}
use Rattle.lw_text.specs.declared.place.Pos.{Pos}
use Rattle.lw_text.specs.declared.units.Encoding.TheVariants.{Utf16}
use Rattle.lw_tree.specs.declared.node.Reference.{Reference}
use Rattle.lw_tree.specs.Parts.{Parts, name_of}
use Rattle.lw_session.specs.declared.locating.PlaceAsked.{PlaceAsked}

-- a name or a reference of a tree takes up these bytes
pub data IsPartOf (tree : Parts) (s : Span) : Type 0 where
  name : (n : ℕ) (text : List ℕ) → name_of tree n ≡ Some (text, s) → IsPartOf tree s
  reference : (r : Reference) → Contains tree.refs r → r.span ≡ s → IsPartOf tree s

-- a document has the number, at one address, and these bytes are a part of its tree
pub record IsSpotOf (v : SeenView) (spot : Spot) : Type 0 where
  pub address : List ℕ
  pub stands : StandsSeen v spot.doc.0 address
  pub only : (other : List ℕ) → StandsSeen v spot.doc.0 other → other ≡ address
  pub tree : Parts
  pub is_tree : seen_tree v spot.doc.0 ≡ Some tree
  pub part : IsPartOf tree spot.span

-- where it is, as an editor is told it
pub record IsLocated (v : SeenView) (spot : Spot) (l : Location) : Type 0 where
  pub stands : StandsSeen v spot.doc.0 l.uri
  pub text : List ℕ
  pub is_text : present_texts_of v.kept l.uri ≡ Some text
  pub begins : IsPosition text spot.span.start l.start
  pub ends : IsPosition text spot.span.end l.end

-- the document at an address, by its number, and the byte of its text that a position means, where a character begins or the text ends
pub record IsAskedPlace (v : WorkspaceView) (address : List ℕ) (at : Pos) (asked : PlaceAsked) : Type 0 where
  pub held : Numbered
  pub here : get v.kept address ≡ Some held
  pub number : asked.doc ≡ held.number
  pub means : IsOffset Utf16 held.doc.text at asked.off
  pub boundary : IsCharBoundary held.doc.text asked.off
