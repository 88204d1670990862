-- Of the terminals that are kinds, those whose patterns are taken, and the one that is tried behind them.
use Rattle.std.proofs.Common.{◌≡◌, ℕ, ◌+◌, ◌≤◌, List, [], ◌∷◌, Some, length, take, slice_get, All, Contains, sym, ap, ◌∙◌, subst, arith}
use Rattle.std.specs.List.{AllZip}
use Rattle.std.proofs.lemmas.List.{length-take, take-take}
use Rattle.std.proofs.lemmas.List.Elements.{All-nil, All-cons, All-head, All-tail}
use Rattle.std.proofs.lemmas.Option.{same_Some, slice_get_within}
use Rattle.std.proofs.lemmas.Slice.Zip.{AllZip-long}
use Rattle.lw_base.specs.declared.numbers.RuleId.{RuleId}
use Rattle.lw_grammar.specs.declared.grammar.Grammar.{Grammar}
use Rattle.lw_kinds.specs.Rows.{KindRow}
use Rattle.lw_terminals.specs.declared.patterns.written.TheConstants.{LONGEST_PATTERN}
use Rattle.lw_matchers.specs.declared.source.TerminalSource.{TerminalSource}
use Rattle.lw_matchers.specs.Made.{IsUsable, AreUsable, AreUnlisted, IsTriedAt}
use Rattle.lw_terminals.specs.declared.sources.Sources.{Sources}
use Rattle.lw_terminals.specs.Sources.{IsSourceOf, HasLongPattern, AreSourcesOf, IsNumberedAs}
use Rattle.lw_terminals.specs.Taken.{HasTaken, IsTried}
use Rattle.lw_terminals.proofs.Zips.{zip_at, zip_take, front_item}

module _ (g : Grammar) (listed : List (List ℕ)) where
  -- where a set was made of sources, their terminals' patterns are taken
  pub all_taken : (places : List ℕ) (sources : List TerminalSource) → AllZip (IsSourceOf g) places sources → AreUsable sources → AreUnlisted listed sources →
      All (HasTaken g listed) places
  all_taken [] sources all usable unlisted = All-nil (HasTaken g listed)
  all_taken (place ∷ places) [] all usable unlisted = absurd all
  all_taken (place ∷ places) (source ∷ sources) all usable unlisted =
      All-cons (HasTaken g listed) place places (record {
        terminal = all.0.terminal;
        there = all.0.there;
        pattern = source.pattern;
        written = all.0.written;
        taken = record {
          short = all.0.short;
          usable = All-head (λ s. IsUsable s.pattern) source sources usable;
          unlisted = All-head (λ s. ¬ Contains listed s.pattern) source sources unlisted;
        };
      })
      (all_taken places sources all.1 (All-tail (λ s. IsUsable s.pattern) source sources usable) (All-tail (λ s. ¬ Contains listed s.pattern) source sources unlisted))

  module _ (row : KindRow) (sources : Sources) (are : AreSourcesOf g row.terminals sources) where
    -- there are no more sources than terminals
    pub within : length sources.terminals.items ≤ length row.terminals
    within =
        let long = AllZip-long (IsSourceOf g) (take (length sources.terminals.items) row.terminals) sources.terminals.items are.each in
        omega (arith, long, length-take (length sources.terminals.items) row.terminals)

    before : (i : ℕ) → i ≤ length sources.terminals.items → AreUsable (take i sources.terminals.items) → AreUnlisted listed (take i sources.terminals.items) →
        All (HasTaken g listed) (take i row.terminals)
    before i le usable unlisted =
        let front = take (length sources.terminals.items) row.terminals in
        subst (All (HasTaken g listed)) (take-take i (length sources.terminals.items) row.terminals le)
        (all_taken (take i front) (take i sources.terminals.items) (zip_take (IsSourceOf g) i front sources.terminals.items are.each) usable unlisted)

    -- the terminal whose source is reached is tried, and has a short pattern
    module _ (i : ℕ) (source : TerminalSource) (reached : IsTriedAt listed sources.terminals.items i source) (rule : RuleId) (told : IsNumberedAs g row.terminals i rule) where
      its_place : (place : ℕ) × (slice_get (take (length sources.terminals.items) row.terminals) i ≡ Some place) × IsSourceOf g place source
      its_place = zip_at (IsSourceOf g) (take (length sources.terminals.items) row.terminals) sources.terminals.items i source are.each reached.there

      pub tried : IsTried g listed row rule source.pattern
      tried =
          let kind = front_item (length sources.terminals.items) row.terminals i its_place.0 its_place.1 in
          let inside = slice_get_within sources.terminals.items i source reached.there in
          record {
            number = i;
            place = its_place.0;
            kind = kind;
            before = before i (omega (arith, inside)) reached.before reached.unlisted;
            terminal = its_place.2.terminal;
            there = its_place.2.there;
            written = its_place.2.written;
            told = told.2 ∙ ap (λ n. length g.rules + n) (same_Some told.0 its_place.0 (sym told.1 ∙ kind));
          }

      pub short : length source.pattern ≤ LONGEST_PATTERN
      short = its_place.2.short

    -- where a set was made of all sources, and the next terminal has a long pattern, that one is tried
    module _ (bytes place : ℕ) (next : slice_get row.terminals (length sources.terminals.items) ≡ Some place) (long : HasLongPattern g place bytes)
        (usable : AreUsable sources.terminals.items) (unlisted : AreUnlisted listed sources.terminals.items) (rule : RuleId)
        (told : IsNumberedAs g row.terminals (length sources.terminals.items) rule) where
      pub tried_long : IsTried g listed row rule long.pattern
      tried_long = record {
        number = length sources.terminals.items;
        place = place;
        kind = next;
        before = all_taken (take (length sources.terminals.items) row.terminals) sources.terminals.items are.each usable unlisted;
        terminal = long.terminal;
        there = long.there;
        written = long.written;
        told = told.2 ∙ ap (λ n. length g.rules + n) (same_Some told.0 place (sym told.1 ∙ next));
      }
