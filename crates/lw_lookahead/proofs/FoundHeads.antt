-- What is found by the head of a window is the way that the window comes next at.
use Rattle.std.proofs.Common.{◌≡◌, ◌≢◌, ℕ, ◌≤◌, List, Option, Some, None, Contains, ◌↔◌, HashMap, length, get_or, slice_get, ◌<◌, refl, sym, ap, ◌∙◌, subst, arith}
use Rattle.std.specs.Option.{option_map}
use Rattle.std.proofs.lemmas.List.{take_all}
use Rattle.std.proofs.lemmas.Option.{get_or_from_slice_get, slice_get_read, slice_get_within}
use Rattle.lw_grammar.specs.declared.grammar.Grammar.{Grammar}
use Rattle.lw_grammar.specs.Kinds.{Kinds}
use Rattle.lw_look.specs.Choices.{choice_sites}
use Rattle.lw_look.specs.Looks.{Look, window}
use Rattle.lw_look.specs.Sites.{PartSite}
use Rattle.lw_look.proofs.HeadsCover.{one_head}
use Rattle.lw_first.specs.declared.heads.head.Head.{Head}
use Rattle.lw_first.specs.Heads.{kinds_in}
use Rattle.lw_first.proofs.Distinct.{same_kinds}
use Rattle.lw_lookahead.specs.declared.kept.Tables.{Tables}
use Rattle.lw_lookahead.specs.Entries.{AreEntries}
use Rattle.lw_lookahead.specs.Tables.{AreEntriesAt, AreTables}
use Rattle.lw_lookahead.proofs.HeadKeys.{entry_found, found, found_entry}

-- heads of no more than k kinds that are seen alike are one
pub one_seen : (k : ℕ) (head other : Head) → length (kinds_in head) ≤ k → length (kinds_in other) ≤ k → window k (kinds_in head) ≡ window k (kinds_in other) → head ≡ other
one_seen k head other short also same =
    same_kinds head other (sym (take_all k (kinds_in head) short) ∙ one_head k (kinds_in head) (kinds_in other) same ∙ take_all k (kinds_in other) also)

module _ (g : Grammar) (kinds : Kinds) (k : ℕ) (s : PartSite) (entries : List (Head × ℕ)) (are : AreEntriesAt g kinds k s entries) (known : AreEntries k entries)
    (seen : List (Option ℕ)) (way : ℕ) where
  pub chooses_found : (head : Head) (result : Option ℕ) → seen ≡ window k (kinds_in head) → length (kinds_in head) ≤ k → result ≡ found head entries →
      (result ≡ Some way) ↔ Look g kinds k s way seen
  chooses_found head result shown short is = (
    λ chosen. (are way seen).1 (head, found_entry head way entries (sym is ∙ chosen), shown),
    λ looks. let (other, has, also) = (are way seen).0 looks in from other has also,
  )
    where
      from : (other : Head) → Contains entries (other, way) → seen ≡ window k (kinds_in other) → result ≡ Some way
      from other has also =
          let same : other ≡ head = one_seen k other head (known.short other way has) short (sym also ∙ shown) in
          let own = subst (λ x. Contains entries (x, way)) same has in
          let (first, there) = entry_found head way entries own in
          is ∙ there ∙ ap Some (known.once head first way (found_entry head first entries there) own)

  pub chooses_none : (result : Option ℕ) → k ≤ 3 → ((h : List ℕ) → length h ≤ 3 → seen ≢ window k h) → result ≡ None → (result ≡ Some way) ↔ Look g kinds k s way seen
  chooses_none result most none is = (
    λ chosen. cc,
    λ looks. let (other, has, also) = (are way seen).0 looks in absurd (none (kinds_in other) (omega (arith, known.short other way has)) also),
  )

-- ---- in tables

module _ (g : Grammar) (kinds : Kinds) (k n : ℕ) (s : PartSite) (tables : Tables) (are : AreTables g kinds k tables) (at : slice_get (choice_sites g) n ≡ Some s)
    (entries : HashMap Head ℕ _) (items : List (HashMap Head ℕ _)) (is : items ≡ tables.points.items) (inside : n < length items) (read : entries ≡ get_or items n entries) where
  here : slice_get tables.points.items n ≡ Some entries
  here = ap (λ xs. slice_get xs n) (sym is) ∙ slice_get_read items (length items) n entries refl inside read

  pub entries_here : AreEntriesAt g kinds k s entries.entries
  entries_here = are.each n s entries.entries at (ap (option_map (λ (point : HashMap Head ℕ _). point.entries)) here)

  pub entries_known : AreEntries k entries.entries
  entries_known =
      let known = tables.entries n entries (slice_get_within tables.points.items n entries here) in
      subst (λ k. AreEntries k entries.entries) are.depth (subst (λ point. AreEntries tables.k point.entries) (get_or_from_slice_get tables.points.items n entries entries here) known)
