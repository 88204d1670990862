-- What terminals spell is read again as it is.
use Rattle.std.proofs.Common.{ℕ, zero, suc, ◌≡◌, ◌≤◌, Bool, true, false, List, [], ◌∷◌, length, Ok, refl, arith}
use Rattle.lw_base.specs.declared.token.Span.{Span}
use Rattle.lw_grammar.specs.declared.terminal.Terminal.{Terminal}
use Rattle.lw_grammar.specs.declared.terminal.TermElement.{TermElement}
use Rattle.lw_gramlex.specs.declared.token.Symbol.TheVariants as sign
use Rattle.lw_gramread.specs.declared.lexeme.Lexeme.{Lexeme}
use Rattle.lw_gramread.specs.declared.lexeme.Lexeme.TheVariants.{Sign}
use Rattle.lw_gramread.specs.TerminalRules as terms
use Rattle.lw_gramread.specs.TerminalRules.{SpellsTermMark, SpellsTermPart, SpellsTerm, SpellsMoreTerms, SpellsTermRow, SpellsMoreTermRows, SpellsTermChoice, SpellsTermHead, SpellsTerminal}
use Rattle.lw_gramread.specs.Steps.{◌>>◌, sees, same_symbol, same_reserved, skip, symbol, free_word, text, regex, primitive, gathered, one}
use Rattle.lw_gramread.specs.TerminalSteps.{terminal_result, literal_or_range, plain_term, marked_term, begins_term, term_part, term_element, term_elements, term_row, term_rows, term_choice, terms_inside, terminal_behind, terminal}
use Rattle.lw_gramread.proofs.Shorter.{term_shorter, term_row_shorter}
use Rattle.lw_gramread.proofs.AgainTypes.{gathered_none, gathered_more, first_again, one_again}

-- what may not follow an element, since it would belong to it
pub record TermUnmarked (rest : List Lexeme) : Type 0 where
  pub no_question : sees sign.Question rest ≡ false
  pub no_star : sees sign.Star rest ≡ false
  pub no_plus : sees sign.Plus rest ≡ false
  pub no_range : sees sign.DotDot rest ≡ false

mark_again : {ts rest : List Lexeme} {e m : TermElement} → SpellsTermMark ts rest e m → TermUnmarked rest → marked_term e ts ≡ Ok (m, rest)
unfolding marked_term same_symbol
mark_again terms.bare h = rw (h.no_question, h.no_star, h.no_plus) refl
mark_again terms.maybe h = refl
mark_again terms.many h = refl
mark_again terms.some h = refl

mark_no_range : {ts rest : List Lexeme} {e m : TermElement} → SpellsTermMark ts rest e m → TermUnmarked rest → sees sign.DotDot ts ≡ false
unfolding same_symbol
mark_no_range terms.bare h = h.no_range
mark_no_range terms.maybe h = refl
mark_no_range terms.many h = refl
mark_no_range terms.some h = refl

term_unmarked : {ts rest : List Lexeme} {e : TermElement} → SpellsTerm ts rest e → TermUnmarked ts
unfolding same_symbol
term_unmarked (terms.term terms.literal m) = record { no_question = refl; no_star = refl; no_plus = refl; no_range = refl }
term_unmarked (terms.term terms.range m) = record { no_question = refl; no_star = refl; no_plus = refl; no_range = refl }
term_unmarked (terms.term terms.pattern_ m) = record { no_question = refl; no_star = refl; no_plus = refl; no_range = refl }
term_unmarked (terms.term terms.calls m) = record { no_question = refl; no_star = refl; no_plus = refl; no_range = refl }
term_unmarked (terms.term (terms.enclosed c) m) = record { no_question = refl; no_star = refl; no_plus = refl; no_range = refl }

term_begins : {ts rest : List Lexeme} {e : TermElement} → SpellsTerm ts rest e → begins_term ts ≡ true
unfolding same_symbol
term_begins (terms.term terms.literal m) = refl
term_begins (terms.term terms.range m) = refl
term_begins (terms.term terms.pattern_ m) = refl
term_begins (terms.term terms.calls m) = refl
term_begins (terms.term (terms.enclosed c) m) = refl

-- what may not follow a row, and a choice
pub record EndsTermRow (rest : List Lexeme) : Type 0 where
  pub unmarked : TermUnmarked rest
  pub no_term : begins_term rest ≡ false

pub record EndsTermChoice (rest : List Lexeme) : Type 0 where
  pub no_bar : sees sign.Bar rest ≡ false
  pub ends_row : EndsTermRow rest

more_unmarked : {ts rest : List Lexeme} {es : List TermElement} → SpellsMoreTerms ts rest es → TermUnmarked rest → TermUnmarked ts
more_unmarked terms.no_term h = h
more_unmarked (terms.term_and e m) h = term_unmarked e

more_ends_row : {ts rest : List Lexeme} {es : List TermElement} → SpellsMoreTermRows ts rest es → EndsTermRow rest → EndsTermRow ts
unfolding same_symbol
more_ends_row terms.no_row h = h
more_ends_row (terms.row_and r m) h = record { unmarked = record { no_question = refl; no_star = refl; no_plus = refl; no_range = refl }; no_term = refl }

closed : {c : Span} {us : List Lexeme} → EndsTermChoice (Sign sign.CloseParenthesis c ∷ us)
unfolding same_symbol
closed = record { no_bar = refl; ends_row = record { unmarked = record { no_question = refl; no_star = refl; no_plus = refl; no_range = refl }; no_term = refl } }

ended : {c : Span} {us : List Lexeme} → EndsTermChoice (Sign sign.Semicolon c ∷ us)
unfolding same_symbol
ended = record { no_bar = refl; ends_row = record { unmarked = record { no_question = refl; no_star = refl; no_plus = refl; no_range = refl }; no_term = refl } }

mutual
  unfolding term_part plain_term literal_or_range term_element term_elements term_row term_rows term_choice terms_inside symbol free_word text regex same_symbol

  pub term_part_again : {ts rest : List Lexeme} {e : TermElement} → SpellsTermPart ts rest e → sees sign.DotDot rest ≡ false → (d : ℕ) → length ts ≤ d →
      term_part (terms_inside d) ts ≡ Ok (e, rest)
  term_part_again terms.literal h d le = rw h refl
  term_part_again terms.range h d le = refl
  term_part_again terms.pattern_ h d le = refl
  term_part_again terms.calls h d le = refl
  term_part_again (terms.enclosed c) h zero le = absurd (omega arith)
  term_part_again (terms.enclosed c) h (suc d) le = rw (term_choice_again c closed d (omega arith)) refl

  pub term_again : {ts rest : List Lexeme} {e : TermElement} → SpellsTerm ts rest e → TermUnmarked rest → (d : ℕ) → length ts ≤ d →
      term_element (terms_inside d) ts ≡ Ok (e, rest)
  term_again (terms.term p m) h d le = rw (term_part_again p (mark_no_range m h) d le, mark_again m h) refl

  pub more_terms_again : {ts rest : List Lexeme} {es : List TermElement} → SpellsMoreTerms ts rest es → EndsTermRow rest → (d : ℕ) → length ts ≤ d →
      (n : ℕ) → length ts ≤ n → gathered begins_term (one (term_element (terms_inside d))) n ts ≡ Ok (es, rest)
  more_terms_again {ts} terms.no_term h d le n more = gathered_none begins_term (one (term_element (terms_inside d))) n ts h.no_term
  more_terms_again (terms.term_and {ts} {mid} {rest} {e} {es} x m) h d le n more =
      gathered_more begins_term (one (term_element (terms_inside d))) n ts mid rest (e ∷ []) es (omega (arith, term_shorter x)) more (term_begins x)
      (one_again (term_element (terms_inside d)) e ts mid (term_again x (more_unmarked m h.unmarked) d le))
      (λ k q. more_terms_again m h d (omega (arith, term_shorter x)) k (omega (arith, term_shorter x)))

  pub term_row_again : {ts rest : List Lexeme} {e : TermElement} → SpellsTermRow ts rest e → EndsTermRow rest → (d : ℕ) → length ts ≤ d →
      term_row (terms_inside d) ts ≡ Ok (e, rest)
  term_row_again (terms.row {ts} {mid} {rest} {e} {es} x m) h d le =
      rw (first_again begins_term (one (term_element (terms_inside d))) (term_element (terms_inside d)) e es ts mid rest
      (term_again x (more_unmarked m h.unmarked) d le) (more_terms_again m h d (omega (arith, term_shorter x)) (length mid) (omega arith))) refl

  pub more_term_rows_again : {ts rest : List Lexeme} {es : List TermElement} → SpellsMoreTermRows ts rest es → EndsTermChoice rest → (d : ℕ) → length ts ≤ d →
      (n : ℕ) → length ts ≤ n → gathered (sees sign.Bar) (skip >> one (term_row (terms_inside d))) n ts ≡ Ok (es, rest)
  more_term_rows_again {ts} terms.no_row h d le n more = gathered_none (sees sign.Bar) (skip >> one (term_row (terms_inside d))) n ts h.no_bar
  more_term_rows_again (terms.row_and {b} {ts} {mid} {rest} {e} {es} x m) h d le n more =
      gathered_more (sees sign.Bar) (skip >> one (term_row (terms_inside d))) n (Sign sign.Bar b ∷ ts) mid rest (e ∷ []) es (omega arith) more refl
      (one_again (term_row (terms_inside d)) e ts mid (term_row_again x (more_ends_row m h.ends_row) d (omega arith)))
      (λ k q. more_term_rows_again m h d (omega (arith, term_row_shorter x)) k (omega (arith, term_row_shorter x)))

  pub term_choice_again : {ts rest : List Lexeme} {e : TermElement} → SpellsTermChoice ts rest e → EndsTermChoice rest → (d : ℕ) → length ts ≤ d →
      term_choice (terms_inside d) ts ≡ Ok (e, rest)
  term_choice_again (terms.choice {ts} {mid} {rest} {e} {es} x m) h d le =
      rw (first_again (sees sign.Bar) (skip >> one (term_row (terms_inside d))) (term_row (terms_inside d)) e es ts mid rest
      (term_row_again x (more_ends_row m h.ends_row) d le) (more_term_rows_again m h d (omega (arith, term_row_shorter x)) (length mid) (omega arith))) refl

pub terminal_again : {hidden : Bool} {ts rest : List Lexeme} {t : Terminal} → SpellsTerminal hidden ts rest t → (d : ℕ) → length ts ≤ d →
    terminal d hidden ts ≡ Ok (t, rest)
unfolding terminal terminal_behind terminal_result free_word primitive symbol same_symbol same_reserved
terminal_again (terms.terminal terms.fragment c) d le = rw (term_choice_again c ended d (omega arith)) refl
terminal_again (terms.terminal terms.token c) d le = rw (term_choice_again c ended d (omega arith)) refl
terminal_again (terms.terminal (terms.gives e) c) d le = rw (e, term_choice_again c ended d (omega arith)) refl
