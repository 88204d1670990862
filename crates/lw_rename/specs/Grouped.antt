-- What is replaced, document by document, as the mentions that it stands for; and which refusal a fault tells.
-- Held against the Language Server Protocol 3.17, "WorkspaceEdit": the edits of each document by its URI.
use Rattle.std.specs.Prelude.{ℕ, ◌≡◌, ◌≢◌, List, [], Option, Some, None, All, AllPairs, map}
use Rattle.std.specs.List.{flat_map}
use Rattle.std.specs.Cmp.Lexicographic.{slice_cmp}
use Rattle.std.specs.Ordering.{nat_cmp}
use Rattle.std.specs.declared.cmp.Ordering.TheVariants.{Less}
use Rattle.lw_base.specs.declared.numbers.NodeId.{NodeId}
use Rattle.lw_base.specs.declared.numbers.RefId.{RefId}
use Rattle.lw_base.specs.declared.token.Span.{Span}
use Rattle.lw_places.specs.Mentions.{Mention}
use Rattle.lw_places.specs.Renamed.{Refusal}
use Rattle.lw_places.specs.Renamed as refusal
use Rattle.lw_scoping.specs.Links.{Link}
use Rattle.lw_rename.specs.declared.fault.RenameFault.{RenameFault}
use Rattle.lw_rename.specs.declared.fault.RenameFault.TheVariants.{NoName, NotParsed, Shape, Rebound}
use Rattle.lw_rename.specs.declared.files.FileSpans.{FileSpans}

abbrev pub mention_at : List ℕ → Span → Mention
mention_at address s = record { address = address; span = s }

abbrev pub mentions_at : List ℕ → List Span → List Mention
mentions_at address spans = map (mention_at address) spans

-- the spans of all documents, one document behind the other
abbrev pub mentions_in : List FileSpans → List Mention
mentions_in files = flat_map (λ f. mentions_at f.uri f.spans) files

-- The mentions by documents: each document once, in the order of addresses, and none without a mention.
pub record AreGrouped (mentions : List Mention) (files : List FileSpans) : Type 0 where
  pub joined : mentions_in files ≡ mentions
  pub filled : All (λ f. f.spans ≢ []) files
  pub ascending : AllPairs (λ f other. slice_cmp nat_cmp f.uri other.uri ≡ Less) files

-- where a fault says that a reference leads
abbrev pub link_told : Option (List ℕ × NodeId) → Link
link_told None = None
link_told (Some place) = Some (place.0, place.1.0)

-- the fault tells this refusal; want of memory tells none
pub data TellsRefusal : RenameFault → Refusal → Type 0 where
  no_name : TellsRefusal NoName refusal.NoName
  not_parsed : {address : List ℕ} → TellsRefusal (NotParsed address) (refusal.NotParsed address)
  shape : {address : List ℕ} {n : NodeId} → TellsRefusal (Shape address n) (refusal.Shape address n.0)
  rebound : {address : List ℕ} {i : RefId} {s : Span} {before after : Option (List ℕ × NodeId)} →
      TellsRefusal (Rebound address i s before after) (refusal.Rebound address i.0 (link_told before) (link_told after))
