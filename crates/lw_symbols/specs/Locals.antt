-- What is kept of the symbols of a tree.
-- Held against the definition of the symbols of a node.
use Rattle.std.specs.Prelude.{◌≡◌}
use Rattle.lw_tree.specs.Parts.{Parts}
use Rattle.lw_symbols.specs.declared.locals.Locals.{Locals}
use Rattle.lw_symbols.specs.Families.{named_families}
use Rattle.lw_symbols.specs.Shelves.{AreStartsOf}
use Rattle.lw_symbols.specs.Symbols.{AreSymbolsOf}

pub record AreLocalsOf (tree : Parts) (locals : Locals) : Type 0 where
  pub named : locals.named ≡ named_families tree
  pub symbols : AreSymbolsOf tree locals.symbols.items
  pub starts : AreStartsOf locals.symbols.items locals.starts.items
