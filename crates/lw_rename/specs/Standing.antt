-- That what is told of documents stands in their texts.
-- Held against the Language Server Protocol 3.17, "Range": a range of a document is one of its text.
use Rattle.std.specs.Prelude.{ℕ, ◌≡◌, List, All, Contains}
use Rattle.lw_base.specs.declared.numbers.RefId.{RefId}
use Rattle.lw_base.specs.declared.token.Span.{Span}
use Rattle.lw_query.specs.declared.view.View.{View}
use Rattle.lw_reading.specs.Within.{IsInText}
use Rattle.lw_rename.specs.Staying.{IsReferenceIn}
use Rattle.lw_rename.specs.declared.fault.RenameFault.{RenameFault}
use Rattle.lw_rename.specs.declared.fault.RenameFault.TheVariants.{NoName, NotParsed, Shape, Rebound, NoMemory}
use Rattle.lw_rename.specs.declared.files.FileSpans.{FileSpans}

module _ (views : List View) where
  -- what is replaced in a document stands in the text at its address
  pub record IsFileIn (file : FileSpans) : Type 0 where
    pub v : View
    pub among : Contains views v
    pub address : v.uri.now ≡ file.uri
    pub within : All (IsInText v.text.now) file.spans

  -- a reference of this number, of the document at this address, stands here in its text
  pub record IsReferenceAt (address : List ℕ) (reference : RefId) (span : Span) : Type 0 where
    pub v : View
    pub among : Contains views v
    pub here : v.uri.now ≡ address
    pub stands : IsReferenceIn v reference span
    pub within : IsInText v.text.now span

  -- the one reference that a fault tells is there
  abbrev pub IsFaultIn : RenameFault → Type 0
  IsFaultIn NoName = Unit {0}
  IsFaultIn (NotParsed address) = Unit {0}
  IsFaultIn (Shape address n) = Unit {0}
  IsFaultIn (Rebound address reference span before after) = IsReferenceAt address reference span
  IsFaultIn NoMemory = Unit {0}
