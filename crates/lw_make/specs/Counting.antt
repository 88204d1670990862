-- How a summary is counted: document by document, as these are lent by the workspace that holds them.
use Rattle.std.specs.Prelude.{ℕ, ◌+◌, List, [], ◌∷◌, Option, Some, None, length, option_and_then}
use Rattle.std.specs.FinMap.{get}
use Rattle.lw_docs.specs.Documents.{ByAddress}
use Rattle.lw_index.specs.declared.parts.Answer.{Answer}
use Rattle.lw_index.specs.declared.parts.Answer.TheVariants.{Found, Missing}
use Rattle.lw_query.specs.Built.{tree_seen}
use Rattle.lw_query.specs.declared.view.View.{View}
use Rattle.lw_text.specs.declared.shown.Shown.{Shown}
use Rattle.lw_tree.specs.Parts.{Parts}
use Rattle.lw_make.specs.Summaries.{listed}
use Rattle.lw_make.specs.declared.making.summary.Summary.{Summary}

-- how many of these answers lead nowhere
abbrev pub missing_in : List Answer → ℕ
missing_in [] = 0
missing_in (Missing ∷ answers) = missing_in answers + 1
missing_in (Found _ ∷ answers) = missing_in answers

-- how many nodes a document has, and how many references, where it has a tree
abbrev pub nodes_seen : Option Parts → ℕ
nodes_seen None = 0
nodes_seen (Some tree) = length tree.nodes

abbrev pub references_in : Option Parts → ℕ
references_in None = 0
references_in (Some tree) = length tree.refs

-- the list that was published last of the document at an address, where there is one
abbrev pub last_of : ByAddress → List ℕ → Option (List Shown)
last_of kept address = option_and_then (λ held. held.doc.published) (get kept address)

-- the summary of no documents, where so many lists were published
abbrev pub of_none : ℕ → Summary
of_none published = record { documents = 0; nodes = 0; references = 0; unresolved = 0; diagnostics = 0; published = published }

-- a summary with one document more, whose last list has so many diagnostics
abbrev pub with_one : Summary → View → ℕ → Summary
with_one s v diagnostics = record {
  documents = s.documents + 1;
  nodes = s.nodes + nodes_seen (tree_seen v);
  references = s.references + references_in (tree_seen v);
  unresolved = s.unresolved + missing_in v.answers.now;
  diagnostics = s.diagnostics + diagnostics;
  published = s.published;
}

-- one with all of these more
abbrev pub with_all : ByAddress → Summary → List View → Summary
with_all kept s [] = s
with_all kept s (v ∷ views) = with_all kept (with_one s v (listed (last_of kept v.uri.now))) views
