-- The edits of documents, and a reference that a rename would bind to something else, as an editor is told them.
-- Language Server Protocol 3.17, "TextEdit" and "Position".
use Rattle.std.specs.Prelude.{ℕ, ◌≡◌, ◌+◌, All, List, ◌++◌, Some, codes, decimal, slice_get}
use Rattle.lw_base.specs.declared.numbers.RefId.{RefId}
use Rattle.lw_base.specs.declared.token.Span.{Span}
use Rattle.lw_conversation.specs.Asking.{AreEditsOf}
use Rattle.lw_grammar.specs.declared.grammar.Grammar.{Grammar}
use Rattle.lw_reading.specs.Reading.{Reads}
use Rattle.lw_reading.specs.declared.parsed.Parsed.TheVariants.{Whole}
use Rattle.lw_rename.specs.declared.fault.RenameFault.{RenameFault}
use Rattle.lw_rename.specs.declared.fault.RenameFault.TheVariants.{NoName, NotParsed, Shape, Rebound, NoMemory}
use Rattle.lw_rename.specs.declared.files.FileSpans.{FileSpans}
use Rattle.lw_reading.specs.Within.{IsInText}
use Rattle.lw_rpc.specs.declared.reply.FileEdits.{FileEdits}
use Rattle.lw_link_rules.specs.Links.{Texts}
use Rattle.lw_text.specs.Position.{IsPosition}
use Rattle.lw_text.specs.declared.place.Pos.{Pos}
use Rattle.lw_tree.specs.declared.node.Reference.{Reference}
use Rattle.lw_tree.specs.Parts.{Parts}

-- the edits of one document put a new name in place of its spans
abbrev pub AreFileEdits : Texts → List ℕ → FileSpans → FileEdits → Type 0
AreFileEdits texts new file edits = AreEditsOf texts new (file.uri, file.spans) edits

-- the spans stand in the text at their address
pub record StandsInFile (texts : Texts) (file : FileSpans) : Type 0 where
  pub text : List ℕ
  pub there : texts file.uri ≡ Some text
  pub within : All (IsInText text) file.spans

-- these bytes are a part of the text at an address
pub record IsSpanIn (texts : Texts) (address : List ℕ) (s : Span) : Type 0 where
  pub text : List ℕ
  pub there : texts address ≡ Some text
  pub within : IsInText text s

-- the reference of a number in the document at an address stands there
pub record IsReferenceOf (g : Grammar) (texts : Texts) (address : List ℕ) (number : RefId) (s : Span) : Type 0 where
  pub stands : IsSpanIn texts address s
  pub tree : Parts
  pub reads : Reads g stands.text (Whole tree)
  pub r : Reference
  pub at : slice_get tree.refs number.0 ≡ Some r
  pub here : r.span ≡ s

-- the reference that a fault tells stands where the fault says
abbrev pub IsPlacedFault : Grammar → Texts → RenameFault → Type 0
IsPlacedFault g texts NoName = Unit {0}
IsPlacedFault g texts (NotParsed address) = Unit {0}
IsPlacedFault g texts (Shape address n) = Unit {0}
IsPlacedFault g texts (Rebound address number s before after) = IsReferenceOf g texts address number s
IsPlacedFault g texts NoMemory = Unit {0}

-- what is told of a reference that stands there
pub record IsReboundTold (texts : Texts) (address : List ℕ) (s : Span) (told : List ℕ) : Type 0 where
  pub text : List ℕ
  pub there : texts address ≡ Some text
  pub at : Pos
  pub begins : IsPosition text s.start at
  pub says : told ≡ codes "A reference in " ++ address ++ codes " at " ++ decimal (at.line + 1) ++ codes ":" ++ decimal (at.character + 1) ++ codes " would change its target."
