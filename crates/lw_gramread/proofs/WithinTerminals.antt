-- What terminals spell stands in the text, as their tokens do, and so do the tokens that are left.
use Rattle.std.proofs.Common.{ℕ, ◌≡◌, Bool, List, [], ◌∷◌, sym, ap, ◌∙◌, subst}
use Rattle.lw_base.specs.declared.token.Span.{Span}
use Rattle.lw_grammar.specs.declared.terminal.Primitive.{Primitive}
use Rattle.lw_grammar.specs.declared.terminal.Terminal.{Terminal}
use Rattle.lw_grammar.specs.declared.terminal.TermElement.{TermElement, out-TermElement, fold_out-TermElement}
use Rattle.lw_grammar.specs.declared.terminal.TermElement.TheFolds.{map-TermElement}
use Rattle.lw_grammar.specs.declared.terminal.TermElement.TheVariants as term
use Rattle.lw_grammar.specs.declared.terminal.TermElement.TheOpen.{TermElement-F}
use Rattle.lw_gramread.specs.declared.lexeme.Lexeme.{Lexeme}
use Rattle.lw_gramread.specs.TerminalRules as terminals
use Rattle.lw_gramread.specs.TerminalRules.{SpellsTermMark, SpellsTermPart, SpellsTerm, SpellsMoreTerms, SpellsTermRow, SpellsMoreTermRows, SpellsTermChoice, SpellsTermHead, SpellsTerminal}
use Rattle.lw_gramread.specs.Spans.{across, term_group_of, term_choice_of}
use Rattle.lw_gramread.specs.PlacesWithin.{IsWithin, term_layer_spans, term_spans, terminal_spans}
use Rattle.lw_gramread.proofs.Within.{and_behind, AreWithin, TokensWithin, EachWithin, all_of_mapped}

module _ (text : List ℕ) where
  -- the places of an element, by its variant
  by_variant : (e : TermElement) (f : TermElement-F TermElement) → out-TermElement e ≡ f →
      AreWithin text (term_layer_spans (map-TermElement TermElement (List Span) term_spans f)) → AreWithin text (term_spans e)
  by_variant e f is h =
      subst (AreWithin text) (sym (fold_out-TermElement (List Span) term_layer_spans e ∙ ap (λ f. term_layer_spans (map-TermElement TermElement (List Span) term_spans f)) is)) h

  mark_within : {ts rest : List Lexeme} {e m : TermElement} → SpellsTermMark ts rest e m → AreWithin text (term_spans e) → TokensWithin text ts →
      AreWithin text (term_spans m) × TokensWithin text rest
  mark_within terminals.bare k h = (k, h)
  mark_within (terminals.maybe {e}) k h = (by_variant _ _ (term.outs-Maybe e) k, h.1)
  mark_within (terminals.many {e}) k h = (by_variant _ _ (term.outs-Many e) k, h.1)
  mark_within (terminals.some {e}) k h = (by_variant _ _ (term.outs-Some1 e) k, h.1)

  group_within : (es : List TermElement) → EachWithin text term_spans es → AreWithin text (term_spans (term_group_of es))
  unfolding term_group_of
  group_within [] h = by_variant _ _ (term.outs-Group []) tt
  group_within (e ∷ []) h = h.0
  group_within (e ∷ f ∷ es) h = by_variant _ _ (term.outs-Group (e ∷ f ∷ es)) (all_of_mapped text term_spans (e ∷ f ∷ es) h)

  alternatives_within : (es : List TermElement) → EachWithin text term_spans es → AreWithin text (term_spans (term_choice_of es))
  unfolding term_choice_of
  alternatives_within [] h = by_variant _ _ (term.outs-Choice []) tt
  alternatives_within (e ∷ []) h = h.0
  alternatives_within (e ∷ f ∷ es) h = by_variant _ _ (term.outs-Choice (e ∷ f ∷ es)) (all_of_mapped text term_spans (e ∷ f ∷ es) h)

  mutual
    part_within : {ts rest : List Lexeme} {e : TermElement} → SpellsTermPart ts rest e → TokensWithin text ts → AreWithin text (term_spans e) × TokensWithin text rest
    part_within (terminals.literal {v} {s}) h = (by_variant _ _ (term.outs-Literal v s) (h.0, tt), h.1)
    part_within (terminals.range {v} {w} {s} {t}) h = (by_variant _ _ (term.outs-Range v w (across s t)) ((h.0.0, h.1.1.0.1), tt), h.1.1.1)
    part_within (terminals.pattern_ {p} {s}) h = (by_variant _ _ (term.outs-Pattern p s) (h.0, tt), h.1)
    part_within (terminals.calls {n} {s}) h = (by_variant _ _ (term.outs-Call n s) (h.0, tt), h.1)
    part_within (terminals.enclosed c) h = let r = choice_within c h.1 in (r.0, r.1.1)

    term_within : {ts rest : List Lexeme} {e : TermElement} → SpellsTerm ts rest e → TokensWithin text ts → AreWithin text (term_spans e) × TokensWithin text rest
    term_within (terminals.term p m) h = let r = part_within p h in mark_within m r.0 r.1

    more_terms_within : {ts rest : List Lexeme} {es : List TermElement} → SpellsMoreTerms ts rest es → TokensWithin text ts → EachWithin text term_spans es × TokensWithin text rest
    more_terms_within terminals.no_term h = (tt, h)
    more_terms_within (terminals.term_and t others) h = and_behind (term_within t h) (more_terms_within others)

    row_within : {ts rest : List Lexeme} {e : TermElement} → SpellsTermRow ts rest e → TokensWithin text ts → AreWithin text (term_spans e) × TokensWithin text rest
    row_within (terminals.row {e} {es} t others) h =
        let r = and_behind (term_within t h) (more_terms_within others) in (group_within (e ∷ es) r.0, r.1)

    more_rows_within : {ts rest : List Lexeme} {es : List TermElement} → SpellsMoreTermRows ts rest es → TokensWithin text ts → EachWithin text term_spans es × TokensWithin text rest
    more_rows_within terminals.no_row h = (tt, h)
    more_rows_within (terminals.row_and t others) h = and_behind (row_within t h.1) (more_rows_within others)

    choice_within : {ts rest : List Lexeme} {e : TermElement} → SpellsTermChoice ts rest e → TokensWithin text ts → AreWithin text (term_spans e) × TokensWithin text rest
    choice_within (terminals.choice {e} {es} t others) h =
        let r = and_behind (row_within t h) (more_rows_within others) in (alternatives_within (e ∷ es) r.0, r.1)

  head_within : {ts rest : List Lexeme} {n : List ℕ} {s : Span} {fragment : Bool} {p : Primitive} → SpellsTermHead ts rest n s fragment p → TokensWithin text ts →
      IsWithin text s × TokensWithin text rest
  head_within terminals.fragment h = (h.1.0, h.1.1)
  head_within terminals.token h = (h.0, h.1)
  head_within (terminals.gives e) h = (h.0, h.1.1.1)

  pub terminal_within : {hidden : Bool} {ts rest : List Lexeme} {t : Terminal} → SpellsTerminal hidden ts rest t → TokensWithin text ts →
      AreWithin text (terminal_spans t) × TokensWithin text rest
  terminal_within (terminals.terminal head body) h =
      let r = head_within head h in
      let q = choice_within body r.1.1 in
      ((r.0, q.0), q.1.1)
