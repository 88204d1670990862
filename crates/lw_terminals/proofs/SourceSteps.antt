-- The sources of terminals one after the other, by what is said of their patterns.
use Rattle.std.proofs.Common.{◌≡◌, ℕ, ◌<◌, ◌≤◌, List, Some, None, length, get_or, take, slice_get, refl, sym, ap, ◌∙◌, subst, arith}
use Rattle.std.specs.List.{AllZip}
use Rattle.std.proofs.lemmas.List.{length-take}
use Rattle.std.proofs.lemmas.Option.{slice_get-get_or, get_or_from_slice_get, slice_get_within}
use Rattle.std.proofs.lemmas.Slice.Zip.{AllZip-long}
use Rattle.lw_grammar.specs.declared.grammar.Grammar.{Grammar}
use Rattle.lw_grammar.specs.declared.terminal.Terminal.{Terminal}
use Rattle.lw_matchers.specs.declared.source.TerminalSource.{TerminalSource}
use Rattle.lw_terminals.specs.declared.patterns.written.Written.{Written}
use Rattle.lw_terminals.specs.declared.patterns.written.Written.TheVariants.{Short, Long, Unwritten}
use Rattle.lw_terminals.specs.WrittenPatterns.{IsPatternOf, ArePatternsOf}
use Rattle.lw_terminals.specs.declared.sources.Sources.{Sources}
use Rattle.lw_terminals.specs.Sources.{IsSourceOf, HasLongPattern, AreSourcesOf, EndsAt}
use Rattle.lw_terminals.specs.TokenSets.{HasPatterns}
use Rattle.lw_terminals.proofs.Items.{item_there}

-- ---- the terminal of a place, and what is said of its pattern

module _ (g : Grammar) (written : List Written) (said : ArePatternsOf g written) (place : ℕ) (inside : place < length g.terminals) (w : Written)
    (is : w ≡ get_or written place w) where
  is_pattern : (terminal : Terminal) → slice_get g.terminals place ≡ Some terminal → IsPatternOf g terminal w
  is_pattern terminal there =
      said.each place terminal w there (slice_get-get_or written place w (omega (arith, inside, said.count)) ∙ ap Some (sym is))

  pub has_source : (pattern : List ℕ) → w ≡ Short pattern → (terminals : List Terminal) → terminals ≡ g.terminals → (terminal : Terminal) →
      terminal ≡ get_or terminals place terminal → (source : TerminalSource) →
      source ≡ record { name = terminal.name; pattern = pattern; hidden = terminal.is_hidden } → IsSourceOf g place source
  has_source pattern short terminals are terminal at source made =
      let there : slice_get g.terminals place ≡ Some terminal =
      slice_get-get_or g.terminals place terminal inside ∙ ap Some (ap (λ ts. get_or ts place terminal) (sym are) ∙ sym at) in
      let tied = subst (IsPatternOf g terminal) short (is_pattern terminal there) in
      subst (IsSourceOf g place) (sym made) (record { terminal = terminal; there = there; name = refl; written = tied.0; short = tied.1; hidden = refl })

  pub has_long : (bytes : ℕ) → w ≡ Long bytes → HasLongPattern g place bytes
  has_long bytes long =
      let found = item_there g.terminals place inside in
      let tied = subst (IsPatternOf g found.0) long (is_pattern found.0 found.1) in
      record { terminal = found.0; there = found.1; pattern = tied.0; written = tied.1; long = tied.2; bytes_are = tied.3 }

  pub has_some : HasPatterns g → w ≡ Unwritten → ⊥
  has_some each none =
      let found = item_there g.terminals place inside in
      let some = each found.0 (place, inside, get_or_from_slice_get g.terminals place found.0 found.0 found.1) in
      subst (IsPatternOf g found.0) none (is_pattern found.0 found.1) some.0 some.1

-- ---- where they end

module _ (g : Grammar) (places : List ℕ) (i : ℕ) (sources : Sources) (each : AllZip (IsSourceOf g) (take i places) sources.terminals.items) where
  count : i ≤ length places → length sources.terminals.items ≡ i
  count le = let long = AllZip-long (IsSourceOf g) (take i places) sources.terminals.items each in omega (arith, long, length-take i places, le)

  made_of : i ≤ length places → EndsAt g places i sources.long → AreSourcesOf g places sources
  made_of le ends = record {
    each = subst (λ n. AllZip (IsSourceOf g) (take n places) sources.terminals.items) (sym (count le)) each;
    end = subst (λ n. EndsAt g places n sources.long) (sym (count le)) ends;
  }

  pub up_to_long : (place bytes : ℕ) → slice_get places i ≡ Some place → HasLongPattern g place bytes → sources.long ≡ Some bytes → AreSourcesOf g places sources
  up_to_long place bytes at long told =
      let inside = slice_get_within places i place at in
      made_of (omega (arith, inside)) (subst (EndsAt g places i) (sym told) (place, at, long))

  pub up_to_end : i ≡ length places → sources.long ≡ None → AreSourcesOf g places sources
  up_to_end all told = made_of (omega (arith, all)) (subst (EndsAt g places i) (sym told) all)
