-- Which way to take at each choice by the window that comes next.
use Rattle.std.specs.Prelude.{ℕ, ◌≡◌, ◌↔◌, List, Option, Some, Contains, length, slice_get}
use Rattle.std.specs.Option.{option_map}
use Rattle.lw_grammar.specs.declared.grammar.Grammar.{Grammar}
use Rattle.lw_grammar.specs.Kinds.{Kinds}
use Rattle.lw_look.specs.Choices.{choice_sites}
use Rattle.lw_look.specs.Looks.{Look, window}
use Rattle.lw_look.specs.Sites.{PartSite}
use Rattle.lw_first.specs.declared.heads.head.Head.{Head}
use Rattle.lw_first.specs.Heads.{kinds_in}
use Rattle.lw_lookahead.specs.declared.kept.Tables.{Tables}

-- these entries have exactly the windows of the choice at the site, by their heads, each with its way
abbrev pub AreEntriesAt : Grammar → Kinds → ℕ → PartSite → List (Head × ℕ) → Type 0
AreEntriesAt g kinds k s entries = (way : ℕ) (seen : List (Option ℕ)) → Look g kinds k s way seen ↔
    ((head : Head) × Contains entries (head, way) × (seen ≡ window k (kinds_in head)))

-- there are entries for each choice, by its number
pub record AreTables (g : Grammar) (kinds : Kinds) (k : ℕ) (tables : Tables) : Type 0 where
  pub depth : tables.k ≡ k
  pub all : length tables.points.items ≡ length (choice_sites g)
  pub each : (n : ℕ) (s : PartSite) (entries : List (Head × ℕ)) → slice_get (choice_sites g) n ≡ Some s →
      option_map (λ point. point.entries) (slice_get tables.points.items n) ≡ Some entries → AreEntriesAt g kinds k s entries
