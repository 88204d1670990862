-- What laws of links and diagnostics speak of: shown texts that differ at one address, and references that name nothing that is exported there.
use Rattle.std.specs.Prelude.{ℕ, ◌≡◌, ◌≢◌, List, Option, Some, Contains}
use Rattle.lw_grammar.specs.declared.grammar.Grammar.{Grammar}
use Rattle.lw_scoping.specs.Symbols.{exports, IsNamedNode}
use Rattle.lw_link_rules.specs.Links.{Texts, IsTreeOfText}
use Rattle.lw_tree.specs.declared.node.Reference.{Reference}
use Rattle.lw_tree.specs.Parts.{Parts}

-- the same texts are shown everywhere but at this address
abbrev pub DifferAtMostAt : List ℕ → Texts → Texts → Type 0
DifferAtMostAt changed texts others = (address : List ℕ) → address ≢ changed → texts address ≡ others address

-- no reference of the document with the one text has the name of an export of the document with the other
abbrev pub NamesNoExportOf : Grammar → Option (List ℕ) → Option (List ℕ) → Type 0
NamesNoExportOf g text other =
    (tree exporting : Parts) → IsTreeOfText g text (Some tree) → IsTreeOfText g other (Some exporting) → (r : Reference) (node type : ℕ) →
    Contains tree.refs r → Contains (exports exporting) node → ¬ IsNamedNode exporting node r.name type
