-- What the entries and conflicts of choices say of the windows at their sites.
use Rattle.std.proofs.Common.{◌≡◌, ◌≢◌, ℕ, ◌<◌, ◌≤◌, List, [], ◌∷◌, Option, Some, All, Contains, ◌⊎◌, length, slice_get, refl, sym, ap, ◌∙◌, subst, arith}
use Rattle.std.specs.Cmp.Lexicographic.{slice_cmp}
use Rattle.std.specs.List.{AllZip}
use Rattle.std.specs.Option.{option_map}
use Rattle.std.specs.Ordering.{nat_cmp}
use Rattle.std.specs.declared.cmp.Ordering.TheVariants.{Greater}
use Rattle.std.proofs.lemmas.List.Elements.{All-cons, All-nil}
use Rattle.std.proofs.lemmas.Option.{get_or_from_slice_get, same_Some, slice_get_within}
use Rattle.lw_grammar.specs.declared.grammar.Grammar.{Grammar}
use Rattle.lw_grammar.specs.Kinds.{Kinds}
use Rattle.lw_grammar.specs.KindTexts.{texts_of}
use Rattle.lw_look.specs.Choices.{choice_sites}
use Rattle.lw_look.specs.Looks.{IsLL, Look, window}
use Rattle.lw_look.specs.Sites.{PartSite}
use Rattle.lw_look.proofs.ChoiceSites.{all_listed}
use Rattle.lw_first.specs.declared.heads.head.Head.{Head}
use Rattle.lw_first.specs.Heads.{kinds_in}
use Rattle.lw_lookahead.specs.declared.points.point.Point.{Point}
use Rattle.lw_lookahead.specs.Written.{IsWrittenAt}
use Rattle.lw_base.proofs.Lists.{at_of}
use Rattle.lw_lookahead.specs.declared.fault.Conflict.{Conflict}
use Rattle.lw_lookahead.specs.Conflicts.{IsClearAt, IsFirstConflict, IsShared}
use Rattle.lw_lookahead.specs.Entries.{AreEntries, IsOfBoth}
use Rattle.lw_lookahead.specs.Printed.{window_text}
use Rattle.lw_lookahead.specs.Seen.{AreEntriesOfChoice, AreSeen, IsSeenAt}
use Rattle.lw_lookahead.specs.Shared.{AreFewHeads, SharesNoHead, IsFirstConflictIn, heads_at}
use Rattle.lw_lookahead.specs.Tables.{AreEntriesAt}
use Rattle.lw_lookahead.proofs.ChoiceSteps.{AreOf, Entries, zip_at, zip_length}
use Rattle.lw_lookahead.proofs.Counting.{item_of, looks_at_choice}
use Rattle.lw_lookahead.proofs.FoundHeads.{one_seen}

-- ---- entries

pub zip_known : (k : ℕ) (points : List Point) (all : List Entries) → AllZip (AreOf k) points all → All (λ (own : Entries). AreEntries k own.entries) all
zip_known k [] [] zip = All-nil (λ (own : Entries). AreEntries k own.entries)
zip_known k [] (own ∷ all) zip = absurd zip
zip_known k (point ∷ points) [] zip = absurd zip
zip_known k (point ∷ points) (own ∷ all) zip = All-cons (λ (own : Entries). AreEntries k own.entries) own all zip.0.known (zip_known k points all zip.1)

module _ (g : Grammar) (kinds : Kinds) (k : ℕ) where
  -- ---- one choice

  module _ (s : PartSite) (point : Point) (is : IsSeenAt g kinds k s point) (few : AreFewHeads k point) where
    -- a window that comes next at two ways is that of a head of both
    shared_head : (i j : ℕ) (seen : List (Option ℕ)) → Look g kinds k s i seen → Look g kinds k s j seen →
        (head : Head) × IsOfBoth (heads_at point) i j head × (seen ≡ window k (kinds_in head))
    shared_head i j seen looks also =
        let (head, has, shown) = (is.exact i seen).0 looks in
        let (other, own, shows) = (is.exact j seen).0 also in
        let same : other ≡ head = one_seen k other head (few.short other j own) (few.short head i has) (sym shows ∙ shown) in
        (head, (has, subst (λ h. Contains (heads_at point) (h, j)) same own), shown)

    clear_at : SharesNoHead point → IsClearAt g kinds k s
    clear_at clear i j seen looks also = let (head, both, shown) = shared_head i j seen looks also in clear i j head both

    entries_at : (entries : List (Head × ℕ)) → AreEntriesOfChoice k point entries → AreEntriesAt g kinds k s entries
    entries_at entries are way seen = (λ looks. to ((is.exact way seen).0 looks), λ shown. from shown.0 shown.1 shown.2)
      where
        to : (head : Head) × Contains (heads_at point) (head, way) × (seen ≡ window k (kinds_in head)) →
            (head : Head) × Contains entries (head, way) × (seen ≡ window k (kinds_in head))
        to (head, has, shown) =
            let (first, entry) = are.first.all head way has in
            let same : first ≡ way = are.clear first way head (are.first.no_others head first entry, has) in
            (head, subst (λ n. Contains entries (head, n)) same entry, shown)

        from : (head : Head) → Contains entries (head, way) → seen ≡ window k (kinds_in head) → Look g kinds k s way seen
        from head entry shown = (is.exact way seen).1 (head, are.first.no_others head way entry, shown)

  -- ---- all choices

  module _ (points : List Point) (seen : AreSeen g kinds k points) (few : All (AreFewHeads k) points) where
    few_at : (n : ℕ) (point : Point) → slice_get points n ≡ Some point → AreFewHeads k point
    few_at n point at = subst (AreFewHeads k) (get_or_from_slice_get points n point point at) (few n point (slice_get_within points n point at))

    point_at : (n : ℕ) (s : PartSite) → slice_get (choice_sites g) n ≡ Some s → (point : Point) × (slice_get points n ≡ Some point)
    point_at n s at = item_of points n (omega (arith, seen.all, slice_get_within (choice_sites g) n s at))

    clear_there : (n : ℕ) (s : PartSite) → slice_get (choice_sites g) n ≡ Some s → ((point : Point) → slice_get points n ≡ Some point → SharesNoHead point) → IsClearAt g kinds k s
    clear_there n s at clear =
        let (point, there) = point_at n s at in clear_at s point (seen.each n s point at there) (few_at n point there) (clear point there)

    module _ (all : List Entries) (zip : AllZip (AreOf k) points all) where
      pub same_count : length all ≡ length (choice_sites g)
      same_count = sym (zip_length (AreOf k) points all zip) ∙ seen.all

      pub each_entries : (n : ℕ) (s : PartSite) (entries : List (Head × ℕ)) → slice_get (choice_sites g) n ≡ Some s →
          option_map (λ (own : Entries). own.entries) (slice_get all n) ≡ Some entries → AreEntriesAt g kinds k s entries
      each_entries n s entries at is =
          let (point, there) = point_at n s at in
          let (own, found, are) = zip_at (AreOf k) points all n point zip there in
          let same : own.entries ≡ entries = same_Some own.entries entries (sym (ap (option_map (λ (own : Entries). own.entries)) found) ∙ is) in
          entries_at s point (seen.each n s point at there) (few_at n point there) entries (subst (AreEntriesOfChoice k point) same are)

      pub is_ll : IsLL g kinds k
      is_ll s i j w looks also =
          let (n, at) = at_of (choice_sites g) s (all_listed g s (looks_at_choice g kinds k looks)) in
          clear_there n s at (λ point there. (zip_at (AreOf k) points all n point zip there).2.clear) i j w looks also

    module _ (conflict : Conflict) (first : IsFirstConflictIn (texts_of kinds) k points conflict) (s : PartSite) (at : slice_get (choice_sites g) first.number ≡ Some s) where
      is : IsSeenAt g kinds k s first.point
      is = seen.each first.number s first.point at first.at

      few_here : AreFewHeads k first.point
      few_here = few_at first.number first.point first.at

      shows : (way : ℕ) → Contains (heads_at first.point) (conflict.shared, way) → Look g kinds k s way (window k (kinds_in conflict.shared))
      shows way has = (is.exact way (window k (kinds_in conflict.shared))).1 (conflict.shared, has, refl)

      -- whatever window both ways share is printed no earlier
      no_earlier : (w : List (Option ℕ)) → IsShared g kinds k s conflict.first conflict.second w →
          slice_cmp nat_cmp conflict.text (window_text (texts_of kinds) w) ≢ Greater
      no_earlier w both =
          let (head, have, shown) = shared_head s first.point is few_here conflict.first conflict.second w both.0 both.1 in
          subst (λ w. slice_cmp nat_cmp conflict.text (window_text (texts_of kinds) w) ≢ Greater) (sym shown) (first.conflicts.first.first head have)

      no_lesser : (i j : ℕ) (w : List (Option ℕ)) → i < j → IsShared g kinds k s i j w → (conflict.first < i) ⊎ ((conflict.first ≡ i) × (conflict.second ≤ j))
      no_lesser i j w before both = let (head, have, shown) = shared_head s first.point is few_here i j w both.0 both.1 in first.conflicts.pair.least i j head before have

      written : IsWrittenAt g s conflict.file conflict.span
      written =
          subst (λ span. IsWrittenAt g s conflict.file span) (sym first.conflicts.span)
          (subst (λ file. IsWrittenAt g s file first.point.span) (sym first.conflicts.file) is.place)

      conflict_of : IsFirstConflict g kinds k conflict
      conflict_of = record {
        number = first.number;
        site = s;
        at = at;
        clear = λ n other before there. clear_there n other there (λ point own. first.clear n point before own);
        place = written;
        ascending = first.conflicts.pair.ascending;
        shared = (shows conflict.first first.conflicts.first.is.0, shows conflict.second first.conflicts.first.is.1);
        least_pair = no_lesser;
        text = first.conflicts.first.printed_so;
        least_text = no_earlier;
      }

    pub first_conflict : (conflict : Conflict) → IsFirstConflictIn (texts_of kinds) k points conflict → IsFirstConflict g kinds k conflict
    first_conflict conflict first =
        let (s, at) = item_of (choice_sites g) first.number (omega (arith, seen.all, slice_get_within points first.number first.point first.at)) in
        conflict_of conflict first s at
