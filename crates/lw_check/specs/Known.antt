-- What is known of a document before its diagnostics are found.
-- Held against Langium, "Document lifecycle": a document is parsed, its symbols are indexed and its references linked before it is validated.
use Rattle.std.specs.Prelude.{ℕ, ◌≡◌, ◌<◌, List, length}
use Rattle.lw_grammar.specs.declared.grammar.Grammar.{Grammar}
use Rattle.lw_index.specs.declared.parts.Answer.{Answer}
use Rattle.lw_reading.specs.Known.{HasKnownTypes}
use Rattle.lw_reading.specs.Within.{StandsInText}
use Rattle.lw_symbols.specs.declared.locals.Locals.{Locals}
use Rattle.lw_symbols.specs.Locals.{AreLocalsOf}
use Rattle.lw_tree.specs.Parts.{Parts}
use Rattle.lw_types.specs.declared.types.Types.{Types}
use Rattle.lw_types.specs.Inferred.{AreTypesOf}

-- the tree of the text, its symbols, an answer for each reference, and the types of its grammar
pub record AreKnownOf (text : List ℕ) (tree : Parts) (locals : Locals) (answers : List Answer) (types : Types) : Type 0 where
  pub stands : StandsInText text tree
  pub root : 0 < length tree.nodes
  pub symbols : AreLocalsOf tree locals
  pub count : length answers ≡ length tree.refs
  pub known : (g : Grammar) × AreTypesOf g types × HasKnownTypes g tree
