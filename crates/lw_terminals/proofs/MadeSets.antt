-- A set of tokens that was made of all terminals that are kinds is the grammar's.
use Rattle.std.proofs.Common.{◌≡◌, ℕ, List, [], ◌∷◌, ◌++◌, Some, None, length, slice_get, map, refl, sym, ap, ap₂, ◌∙◌, subst, arith}
use Rattle.std.specs.List.{AllZip}
use Rattle.std.proofs.lemmas.List.{take_all}
use Rattle.std.proofs.lemmas.Option.{same_Some}
use Rattle.lw_grammar.specs.declared.grammar.Grammar.{Grammar}
use Rattle.lw_grammar.specs.declared.terminal.Terminal.{Terminal}
use Rattle.lw_grammar.specs.KindTexts.{quoted}
use Rattle.lw_kinds.specs.Rows.{KindRow, AreKindRowOf}
use Rattle.lw_matchers.specs.declared.source.TerminalSource.{TerminalSource}
use Rattle.lw_matchers.specs.Made.{AreUsable, AreUnlisted, form_of, token_kinds_of}
use Rattle.lw_matchers.specs.TokenKinds.{TokenKinds}
use Rattle.lw_tokens.specs.Lexicon.{HasForm}
use Rattle.lw_terminals.specs.declared.sources.Sources.{Sources}
use Rattle.lw_terminals.specs.Sources.{IsSourceOf, AreSourcesOf, EndsAt}
use Rattle.lw_terminals.specs.TokenSets.{HasSoundKinds, IsTokenSetOf}
use Rattle.lw_terminals.proofs.Tried.{all_taken}

module _ (g : Grammar) where
  -- a source has its terminal's form
  forms : (places : List ℕ) (terminals : List Terminal) (sources : List TerminalSource) → map (slice_get g.terminals) places ≡ map Some terminals →
      AllZip (IsSourceOf g) places sources → AllZip (HasForm g) terminals (map form_of sources)
  forms [] [] [] stand all = tt
  forms [] (terminal ∷ terminals) sources stand all = absurd (cc)
  forms (place ∷ places) [] sources stand all = absurd (cc)
  forms [] [] (source ∷ sources) stand all = absurd all
  forms (place ∷ places) (terminal ∷ terminals) [] stand all = absurd all
  forms (place ∷ places) (terminal ∷ terminals) (source ∷ sources) stand all =
      let here : slice_get g.terminals place ≡ Some terminal = cc in
      let later : map (slice_get g.terminals) places ≡ map Some terminals = cc in
      let same = same_Some all.0.terminal terminal (sym all.0.there ∙ here) in (
        subst (λ t. HasForm g t (form_of source)) same (record { pattern = all.0.written; hidden = all.0.hidden }),
        forms places terminals sources later all.1,
      )

  -- and its name
  names : (places : List ℕ) (terminals : List Terminal) (sources : List TerminalSource) → map (slice_get g.terminals) places ≡ map Some terminals →
      AllZip (IsSourceOf g) places sources → map (λ source. source.name) sources ≡ map (λ terminal. terminal.name) terminals
  names [] [] [] stand all = refl
  names [] (terminal ∷ terminals) sources stand all = absurd (cc)
  names (place ∷ places) [] sources stand all = absurd (cc)
  names [] [] (source ∷ sources) stand all = absurd all
  names (place ∷ places) (terminal ∷ terminals) [] stand all = absurd all
  names (place ∷ places) (terminal ∷ terminals) (source ∷ sources) stand all =
      let here : slice_get g.terminals place ≡ Some terminal = cc in
      let later : map (slice_get g.terminals) places ≡ map Some terminals = cc in
      let same = same_Some all.0.terminal terminal (sym all.0.there ∙ here) in
      ap₂ (λ x xs. x ∷ xs) (all.0.name ∙ ap (λ (t : Terminal). t.name) same) (names places terminals sources later all.1)

  module _ (listed : List (List ℕ)) (row : KindRow) (are : AreKindRowOf g row) (sound : HasSoundKinds row) (sources : Sources)
      (made_of : AreSourcesOf g row.terminals sources) (whole : EndsAt g row.terminals (length sources.terminals.items) None)
      (usable : AreUsable sources.terminals.items) (unlisted : AreUnlisted listed sources.terminals.items) (texts : List (List ℕ))
      (texts_are : texts ≡ map (λ word. word.0) row.keywords) where
    all : AllZip (IsSourceOf g) row.terminals sources.terminals.items
    all =
        subst (λ places. AllZip (IsSourceOf g) places sources.terminals.items)
        (take_all (length sources.terminals.items) row.terminals (omega (arith, whole))) made_of.each

    pub made : (set : TokenKinds) → set ≡ token_kinds_of texts sources.terminals.items → IsTokenSetOf g listed row set
    made set is = subst (IsTokenSetOf g listed row) (sym is) (record {
      sound = sound;
      taken = all_taken g listed row.terminals sources.terminals.items all usable unlisted;
      of = are.kinds;
      are = are.are;
      lexicon = record { keywords = texts_are ∙ are.texts; terminals = forms row.terminals are.kinds.terminals sources.terminals.items are.terminals all };
      texts = ap₂ (λ xs ys. map quoted xs ++ ys) (texts_are ∙ are.texts) (names row.terminals are.kinds.terminals sources.terminals.items are.terminals all);
    })
