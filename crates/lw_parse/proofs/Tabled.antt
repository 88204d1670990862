-- The tables of a parser and their plain parts.
use Rattle.std.proofs.Common.{ℕ, map, sym, ◌∙◌}
use Rattle.std.proofs.lemmas.List.{length-map}
use Rattle.std.proofs.lemmas.Option.{slice_get-map}
use Rattle.lw_grammar.specs.declared.grammar.Grammar.{Grammar}
use Rattle.lw_grammar.specs.Kinds.{Kinds}
use Rattle.lw_lookahead.specs.Tables.{AreTables}
use Rattle.lw_lookahead.specs.declared.kept.Tables.{Tables}
use Rattle.lw_parse.specs.Parsers.{TableParts, TellWays}

abbrev pub parts_of_tables : Tables → TableParts
parts_of_tables tables = record { depth = tables.k; ways = map (λ point. point.entries) tables.points.items }

module _ (g : Grammar) (kinds : Kinds) (k : ℕ) (tables : Tables) where
  pub tell_ways : AreTables g kinds k tables → TellWays g kinds k (parts_of_tables tables)
  tell_ways are = record {
    depth = are.depth;
    all = length-map tables.points.items (λ point. point.entries) ∙ are.all;
    each = λ n s entries at there. are.each n s entries at (sym (slice_get-map (λ point. point.entries) tables.points.items n) ∙ there);
  }

  pub are_tables : TellWays g kinds k (parts_of_tables tables) → AreTables g kinds k tables
  are_tables tell = record {
    depth = tell.depth;
    all = sym (length-map tables.points.items (λ point. point.entries)) ∙ tell.all;
    each = λ n s entries at there. tell.each n s entries at (slice_get-map (λ point. point.entries) tables.points.items n ∙ there);
  }
