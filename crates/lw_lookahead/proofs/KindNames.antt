-- The texts of kinds by their numbers: those of keywords, then the names of terminals, and none behind them.
use Rattle.std.proofs.Common.{◌≡◌, ℕ, ◌+◌, ◌≤◌, List, [], Some, length, get_or, map, slice_get, sym, ap, ◌∙◌, length-append, arith}
use Rattle.std.specs.Option.{option_map}
use Rattle.std.proofs.lemmas.List.{get_or-append-add, get_or_append_left, get_or_past, length-map}
use Rattle.std.proofs.lemmas.Option.{get_or_from_slice_get, slice_get-map, slice_get_within}
use Rattle.lw_grammar.specs.declared.grammar.Grammar.{Grammar}
use Rattle.lw_grammar.specs.declared.terminal.Terminal.{Terminal}
use Rattle.lw_grammar.specs.Kinds.{AreKinds, IsKeywordKind, Kinds}
use Rattle.lw_grammar.specs.KindTexts.{quoted, texts_of}
use Rattle.lw_grammar.proofs.KindLemmas.{one_kinds}
use Rattle.lw_kinds.specs.Rows.{AreKindRowOf, KindRow}
use Rattle.lw_kinds.specs.Uses.{Use}

-- how many there are
module _ (g : Grammar) (row : KindRow) (are : AreKindRowOf g row) (kinds : Kinds) (of : AreKinds g kinds) where
  pub length-keywords : length kinds.keywords ≡ length row.keywords
  length-keywords =
      ap (λ (ks : Kinds). length ks.keywords) (one_kinds g kinds are.kinds of are.are) ∙ ap length (sym are.texts) ∙ length-map row.keywords (λ (word : Use). word.0)

  pub length-terminals : length kinds.terminals ≡ length row.terminals
  length-terminals =
      ap (λ (ks : Kinds). length ks.terminals) (one_kinds g kinds are.kinds of are.are)
      ∙ (sym (length-map are.kinds.terminals (λ (terminal : Terminal). Some terminal)) ∙ ap length (sym are.terminals) ∙ length-map row.terminals (slice_get g.terminals))

module _ (kinds : Kinds) where
  abbrev words : List (List ℕ)
  words = map quoted kinds.keywords

  abbrev names : List (List ℕ)
  names = map (λ (terminal : Terminal). terminal.name) kinds.terminals

  -- of a keyword
  pub keyword_text : (k : ℕ) (text : List ℕ) → IsKeywordKind kinds text k → get_or (texts_of kinds) k [] ≡ quoted text
  keyword_text k text is =
      let at : slice_get words k ≡ Some (quoted text) = slice_get-map quoted kinds.keywords k ∙ ap (option_map quoted) is in
      get_or_append_left words names [] k (slice_get_within words k (quoted text) at) ∙ get_or_from_slice_get words k (quoted text) [] at

  -- of a terminal
  pub terminal_text : (k place : ℕ) (terminal : Terminal) → k ≡ length kinds.keywords + place → slice_get kinds.terminals place ≡ Some terminal →
      get_or (texts_of kinds) k [] ≡ terminal.name
  terminal_text k place terminal is there =
      let name = λ (t : Terminal). t.name in
      let at : slice_get names place ≡ Some terminal.name = slice_get-map name kinds.terminals place ∙ ap (option_map name) there in
      let behind : k ≡ length words + place = omega (arith, length-map kinds.keywords quoted) in
      ap (λ n. get_or (texts_of kinds) n []) behind ∙ get_or-append-add words names place [] ∙ get_or_from_slice_get names place terminal.name [] at

  -- of no kind
  pub no_text : (k : ℕ) → length kinds.keywords + length kinds.terminals ≤ k → get_or (texts_of kinds) k [] ≡ []
  no_text k past =
      get_or_past (texts_of kinds) k []
      (omega (arith, length-append words names, length-map kinds.keywords quoted, length-map kinds.terminals (λ (terminal : Terminal). terminal.name)))
