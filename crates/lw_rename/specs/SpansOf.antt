-- Where a node is mentioned in each document, by what is seen of documents.
use Rattle.std.specs.Prelude.{ℕ, ◌≡◌, ◌<◌, ◌↔◌, ◌==◌, ◌&&◌, nat_lt, List, [], ◌∷◌, ◌++◌, Option, Some, None, Contains, AllPairs, length, slice_get, if◌then◌else◌}
use Rattle.std.specs.List.{AllZip}
use Rattle.std.specs.Option.{option_map}
use Rattle.lw_base.specs.declared.token.Span.{Span}
use Rattle.lw_index.specs.declared.parts.Answer.{Answer}
use Rattle.lw_index.specs.declared.parts.Answer.TheVariants.{Found}
use Rattle.lw_index.specs.declared.parts.Target.{Target}
use Rattle.lw_places.specs.Mentions.{Mention}
use Rattle.lw_query.specs.Built.{tree_seen}
use Rattle.lw_query.specs.declared.view.View.{View}
use Rattle.lw_tree.specs.declared.node.Reference.{Reference}
use Rattle.lw_tree.specs.Parts.{Parts, name_of}
use Rattle.lw_rename.specs.Grouped.{mentions_at}
use Rattle.lw_rename.specs.declared.files.FileSpans.{FileSpans}
use Rattle.lw_rename.specs.declared.mentions.SpanKey.{SpanKey}

abbrev pub keyed_span : SpanKey → Span
keyed_span key = record { start = key.start; end = key.end }

abbrev pub key_at : Span → SpanKey
key_at s = record { start = s.start; end = s.end }

abbrev pub keys_named : Option Span → List SpanKey
keys_named None = []
keys_named (Some s) = key_at s ∷ []

pub data SpanPrecedes (one other : Span) : Type 0 where
  by_start : one.start < other.start → SpanPrecedes one other
  by_end : one.start ≡ other.start → one.end < other.end → SpanPrecedes one other

-- a reference stands here whose answer is the target
pub record IsUseSpan (tree : Parts) (answers : List Answer) (target : Target) (s : Span) : Type 0 where
  pub number : ℕ
  pub r : Reference
  pub there : slice_get tree.refs number ≡ Some r
  pub leads : slice_get answers number ≡ Some (Found target)
  pub here : r.span ≡ s

-- where the name of the target stands, in its own document
abbrev pub name_span : View → Parts → Target → Option Span
name_span v tree target =
    if (v.doc.0 == target.doc.0) && nat_lt target.node.0 (length tree.nodes) then option_map (λ named. named.1) (name_of tree target.node.0) else None

module _ (target : Target) where
  pub data IsSpanTo (v : View) (s : Span) : Type 0 where
    used : {tree : Parts} → tree_seen v ≡ Some tree → IsUseSpan tree v.answers.now target s → IsSpanTo v s
    declared : {tree : Parts} → tree_seen v ≡ Some tree → name_span v tree target ≡ Some s → IsSpanTo v s

  -- exactly where it is mentioned in one document, in order
  pub record AreSpansOf (v : View) (spans : List Span) : Type 0 where
    pub exact : (s : Span) → Contains spans s ↔ IsSpanTo v s
    pub ordered : AllPairs SpanPrecedes spans

  -- in each
  abbrev pub AreAllSpans : List View → List (List Span) → Type 0
  AreAllSpans views spans = AllZip AreSpansOf views spans

-- all mentions, document by document
abbrev pub mentions_over : List View → List (List Span) → List Mention
mentions_over [] spans = []
mentions_over (v ∷ views) [] = []
mentions_over (v ∷ views) (s ∷ spans) = mentions_at v.uri.now s ++ mentions_over views spans

-- the same by documents, those without a mention left out
abbrev pub file_of : View → List Span → List FileSpans
file_of v [] = []
file_of v (s ∷ spans) = record { uri = v.uri.now; spans = s ∷ spans } ∷ []

abbrev pub files_over : List View → List (List Span) → List FileSpans
files_over [] spans = []
files_over (v ∷ views) [] = []
files_over (v ∷ views) (s ∷ spans) = file_of v s ++ files_over views spans
