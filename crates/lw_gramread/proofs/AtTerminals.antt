-- Terminals as they are read, beside the stack.
use Rattle.std.proofs.Common.{ℕ, zero, suc, ◌≡◌, ◌<◌, Bool, true, false, List, [], ◌∷◌, ◌++◌, length, Some, None, refl, arith}
use Rattle.lw_base.specs.declared.token.Span.{Span}
use Rattle.lw_grammar.specs.declared.terminal.Primitive.TheVariants as primitives
use Rattle.lw_grammar.specs.declared.terminal.TermElement.{TermElement}
use Rattle.lw_grammar.specs.declared.terminal.TermElement.TheVariants as term
use Rattle.lw_gramlex.specs.declared.token.Symbol.TheVariants as sign
use Rattle.lw_gramread.specs.declared.lexeme.Reserved.TheVariants as word
use Rattle.lw_gramread.specs.declared.lexeme.Lexeme.{Lexeme}
use Rattle.lw_gramread.specs.declared.lexeme.Lexeme.TheVariants.{Word, Text, Regex, Flagged, Sign, Other}
use Rattle.lw_gramread.specs.TerminalRules as terms
use Rattle.lw_gramread.specs.TerminalRules.{SpellsTermMark, SpellsTermPart, SpellsTerm, SpellsMoreTerms, SpellsTermRow, SpellsMoreTermRows, SpellsTermChoice, SpellsTermHead, SpellsTerminal}
use Rattle.lw_gramread.specs.Spans.{term_group_of, term_choice_of}
use Rattle.lw_gramread.specs.Steps.{◌>>◌, sees, sees_reserved, same_symbol, same_reserved, skip, free_word, text, regex, all_of, one}
use Rattle.lw_gramread.specs.TerminalSteps.{terminal_result, literal_or_range, plain_term, marked_term, begins_term, term_part, term_element, term_elements, term_row, term_rows, term_choice, terms_inside, terminal_behind, terminal}
use Rattle.lw_gramread.proofs.Shorter.{term_shorter, term_row_shorter}
use Rattle.lw_gramread.proofs.Machine.{Sym, Want, WantName, Card, TerminalName, ReturnsColon, Term, TermsEnd, TermsClose, AfterText, InTerminal, Verdict, place}
use Rattle.lw_gramread.proofs.At.{At, read, stuck, deep, along, bind, done, finish, Seen, comes, comes_not, seen, SeenWord, word_comes, word_comes_not, seen_word, symbol_at, name_at, text_at, primitive_at, card_not, Turns, gathered_at}

-- ---- what a stack wants where nothing goes on

after_text : (d : ℕ) (others : List Sym) (ts : List Lexeme) → sees sign.DotDot ts ≡ false →
    place d InTerminal (AfterText ∷ others) ts ≡ place d InTerminal (Card ∷ others) ts
after_text d others [] h = refl
after_text d others (Word n r s ∷ ts) h = refl
after_text d others (Text v s ∷ ts) h = refl
after_text d others (Regex p s ∷ ts) h = refl
after_text d others (Flagged s ∷ ts) h = refl
after_text d others (Other s ∷ ts) h = refl
after_text d others (Sign y s ∷ ts) h = rw h refl

terminal_name : (d : ℕ) (others : List Sym) (ts : List Lexeme) → sees_reserved word.Fragment ts ≡ false →
    place d InTerminal (TerminalName ∷ others) ts ≡ place d InTerminal (WantName ∷ ReturnsColon ∷ others) ts
terminal_name d others [] h = refl
terminal_name d others (Word n None s ∷ ts) h = refl
terminal_name d others (Word n (Some r) s ∷ ts) h = rw h refl
terminal_name d others (Text v s ∷ ts) h = refl
terminal_name d others (Regex p s ∷ ts) h = refl
terminal_name d others (Flagged s ∷ ts) h = refl
terminal_name d others (Other s ∷ ts) h = refl
terminal_name d others (Sign y s ∷ ts) h = refl

returns_colon : (d : ℕ) (others : List Sym) (ts : List Lexeme) → sees_reserved word.Returns ts ≡ false →
    place d InTerminal (ReturnsColon ∷ others) ts ≡ place d InTerminal (Want sign.Colon ∷ others) ts
returns_colon d others [] h = refl
returns_colon d others (Word n None s ∷ ts) h = refl
returns_colon d others (Word n (Some r) s ∷ ts) h = rw h refl
returns_colon d others (Text v s ∷ ts) h = refl
returns_colon d others (Regex p s ∷ ts) h = refl
returns_colon d others (Flagged s ∷ ts) h = refl
returns_colon d others (Other s ∷ ts) h = refl
returns_colon d others (Sign y s ∷ ts) h = refl

terms_end_term : (d : ℕ) (others : List Sym) (ts : List Lexeme) → begins_term ts ≡ true →
    place d InTerminal (TermsEnd ∷ others) ts ≡ place d InTerminal (Term ∷ TermsEnd ∷ others) ts
terms_end_term d others [] h = absurd (cc h)
terms_end_term d others (Word n None s ∷ ts) h = refl
terms_end_term d others (Word n (Some r) s ∷ ts) h = absurd (cc h)
terms_end_term d others (Text v s ∷ ts) h = refl
terms_end_term d others (Regex p s ∷ ts) h = refl
terms_end_term d others (Flagged s ∷ ts) h = absurd (cc h)
terms_end_term d others (Other s ∷ ts) h = absurd (cc h)
terms_end_term d others (Sign y s ∷ ts) h = rw h refl

terms_end_leave : (d : ℕ) (others : List Sym) (ts : List Lexeme) → begins_term ts ≡ false → sees sign.Bar ts ≡ false →
    place d InTerminal (TermsEnd ∷ others) ts ≡ place d InTerminal (Want sign.Semicolon ∷ others) ts
terms_end_leave d others [] h g = refl
terms_end_leave d others (Word n None s ∷ ts) h g = absurd (cc h)
terms_end_leave d others (Word n (Some r) s ∷ ts) h g = refl
terms_end_leave d others (Text v s ∷ ts) h g = absurd (cc h)
terms_end_leave d others (Regex p s ∷ ts) h g = absurd (cc h)
terms_end_leave d others (Flagged s ∷ ts) h g = refl
terms_end_leave d others (Other s ∷ ts) h g = refl
terms_end_leave d others (Sign y s ∷ ts) h g = rw (h, g) refl

terms_close_term : (d : ℕ) (others : List Sym) (ts : List Lexeme) → begins_term ts ≡ true →
    place d InTerminal (TermsClose ∷ others) ts ≡ place d InTerminal (Term ∷ TermsClose ∷ others) ts
terms_close_term d others [] h = absurd (cc h)
terms_close_term d others (Word n None s ∷ ts) h = refl
terms_close_term d others (Word n (Some r) s ∷ ts) h = absurd (cc h)
terms_close_term d others (Text v s ∷ ts) h = refl
terms_close_term d others (Regex p s ∷ ts) h = refl
terms_close_term d others (Flagged s ∷ ts) h = absurd (cc h)
terms_close_term d others (Other s ∷ ts) h = absurd (cc h)
terms_close_term d others (Sign y s ∷ ts) h = rw h refl

terms_close_leave : (d : ℕ) (others : List Sym) (ts : List Lexeme) → begins_term ts ≡ false → sees sign.Bar ts ≡ false →
    place d InTerminal (TermsClose ∷ others) ts ≡ place d InTerminal (Want sign.CloseParenthesis ∷ others) ts
terms_close_leave d others [] h g = refl
terms_close_leave d others (Word n None s ∷ ts) h g = absurd (cc h)
terms_close_leave d others (Word n (Some r) s ∷ ts) h g = refl
terms_close_leave d others (Text v s ∷ ts) h g = absurd (cc h)
terms_close_leave d others (Regex p s ∷ ts) h g = absurd (cc h)
terms_close_leave d others (Flagged s ∷ ts) h g = refl
terms_close_leave d others (Other s ∷ ts) h g = refl
terms_close_leave d others (Sign y s ∷ ts) h g = rw (h, g) refl

-- ---- elements

module _ (d : ℕ) (others : List Sym) where
  mark_at : (e : TermElement) (ts : List Lexeme) → At (place d InTerminal (Card ∷ others) ts) (place d InTerminal others) (λ rest m. SpellsTermMark ts rest e m) (marked_term e ts)
  unfolding marked_term same_symbol
  mark_at e ts = by ts (seen sign.Question ts) (seen sign.Star ts) (seen sign.Plus ts)
    where
      by : (us : List Lexeme) → Seen sign.Question us → Seen sign.Star us → Seen sign.Plus us → At (place d InTerminal (Card ∷ others) us) (place d InTerminal others) (λ rest m. SpellsTermMark us rest e m) (marked_term e us)
      by us (comes s vs) q t = read _ vs refl terms.maybe
      by us (comes_not h) (comes s vs) t = read _ vs refl terms.many
      by us (comes_not h) (comes_not g) (comes s vs) = read _ vs refl terms.some
      by us (comes_not h) (comes_not g) (comes_not f) = rw (h, g, f) (read e us (card_not d InTerminal others us h g f) terms.bare)

  literal_or_range_at : (v : List ℕ) (s : Span) (ts : List Lexeme) → At (place d InTerminal (AfterText ∷ others) ts) (place d InTerminal (Card ∷ others))
      (λ rest e. SpellsTermPart (Text v s ∷ ts) rest e) (literal_or_range v s ts)
  unfolding literal_or_range same_symbol
  literal_or_range_at v s ts = by ts (seen sign.DotDot ts)
    where
      by : (us : List Lexeme) → Seen sign.DotDot us → At (place d InTerminal (AfterText ∷ others) us) (place d InTerminal (Card ∷ others)) (λ rest e. SpellsTermPart (Text v s ∷ us) rest e) (literal_or_range v s us)
      by us (comes q vs) = bind _ (text_at d InTerminal (Card ∷ others) vs) (λ mid w h. done _ mid (rw h terms.range))
      by us (comes_not h) = rw h (read (term.Literal v s) us (after_text d others us h) terms.literal)

  plain_term_at : (ts : List Lexeme) → sees sign.OpenParenthesis ts ≡ false → At (place d InTerminal (Term ∷ others) ts) (place d InTerminal (Card ∷ others)) (SpellsTermPart ts) (plain_term ts)
  unfolding plain_term free_word text regex
  plain_term_at [] o = stuck refl
  plain_term_at (Word n None s ∷ ts) o = read (term.Call n s) ts refl terms.calls
  plain_term_at (Word n (Some r) s ∷ ts) o = stuck refl
  plain_term_at (Text v s ∷ ts) o = literal_or_range_at v s ts
  plain_term_at (Regex p s ∷ ts) o = read (term.Pattern p s) ts refl terms.pattern_
  plain_term_at (Flagged s ∷ ts) o = stuck refl
  plain_term_at (Other s ∷ ts) o = stuck refl
  plain_term_at (Sign y s ∷ ts) o = stuck (rw o refl)

-- reading an element where so many parentheses may be opened, and a part in parentheses
abbrev InsideAt : ℕ → Type 0
InsideAt d = (others : List Sym) (s : Span) (ts : List Lexeme) →
    At (place d InTerminal (Term ∷ others) (Sign sign.OpenParenthesis s ∷ ts)) (place d InTerminal (Card ∷ others)) (SpellsTermPart (Sign sign.OpenParenthesis s ∷ ts))
    (terms_inside d (Sign sign.OpenParenthesis s ∷ ts))

abbrev TermAt : ℕ → Type 0
TermAt d = (others : List Sym) (ts : List Lexeme) → At (place d InTerminal (Term ∷ others) ts) (place d InTerminal others) (SpellsTerm ts) (term_element (terms_inside d) ts)

part_from : (d : ℕ) → InsideAt d → (others : List Sym) (ts : List Lexeme) →
    At (place d InTerminal (Term ∷ others) ts) (place d InTerminal (Card ∷ others)) (SpellsTermPart ts) (term_part (terms_inside d) ts)
unfolding term_part same_symbol
part_from d inside others ts = by ts (seen sign.OpenParenthesis ts)
  where
    by : (us : List Lexeme) → Seen sign.OpenParenthesis us → At (place d InTerminal (Term ∷ others) us) (place d InTerminal (Card ∷ others)) (SpellsTermPart us) (term_part (terms_inside d) us)
    by us (comes s vs) = inside others s vs
    by us (comes_not h) = rw h (plain_term_at d others us h)

term_from : (d : ℕ) → InsideAt d → TermAt d
unfolding term_element
term_from d inside others ts = bind _ (part_from d inside others ts) (λ mid e h. finish (λ rest m g. (refl, terms.term h g)) (mark_at d others e mid))

module _ (d : ℕ) (ok : TermAt d) (others : List Sym) (loop : Sym) (k : List Lexeme → Verdict)
    (on_term : (ts : List Lexeme) → begins_term ts ≡ true → place d InTerminal (loop ∷ others) ts ≡ place d InTerminal (Term ∷ loop ∷ others) ts)
    (on_bar : (s : Span) (ts : List Lexeme) → place d InTerminal (loop ∷ others) (Sign sign.Bar s ∷ ts) ≡ place d InTerminal (Term ∷ loop ∷ others) ts)
    (leaves : (ts : List Lexeme) → begins_term ts ≡ false → sees sign.Bar ts ≡ false → place d InTerminal (loop ∷ others) ts ≡ k ts) where
  more_terms_turns : Turns begins_term (one (term_element (terms_inside d))) (place d InTerminal (loop ∷ others)) (place d InTerminal (loop ∷ others))
      (λ ts. Unit {0}) (λ ts. begins_term ts ≡ false) SpellsMoreTerms
  more_terms_turns = record {
    empty = refl;
    leaves = λ ts i e. (refl, terms.no_term, e);
    turn = λ ts i e. along (on_term ts e) (bind _ (ok (loop ∷ others) ts) (λ mid x h. done (x ∷ []) mid (term_shorter h, tt, λ rest ys m. terms.term_and h m)));
  }

  row_at : (ts : List Lexeme) → At (place d InTerminal (Term ∷ loop ∷ others) ts) (place d InTerminal (loop ∷ others)) (λ rest e. SpellsTermRow ts rest e × (begins_term rest ≡ false))
      (term_row (terms_inside d) ts)
  unfolding term_row term_elements all_of
  row_at ts =
      bind _ (bind _ (ok (loop ∷ others) ts) (λ mid e h.
      bind _ (gathered_at begins_term (one (term_element (terms_inside d))) (place d InTerminal (loop ∷ others)) (place d InTerminal (loop ∷ others))
      (λ us. Unit {0}) (λ us. begins_term us ≡ false) SpellsMoreTerms more_terms_turns (length mid) mid (omega arith) tt)
      (λ rest es g. done {P = λ us all. SpellsTermRow ts us (term_group_of all) × (begins_term us ≡ false)} (e ∷ es) rest (terms.row h g.0, g.1))))
      (λ rest all g. done (term_group_of all) rest g)

  more_rows_turns : Turns (sees sign.Bar) (skip >> one (term_row (terms_inside d))) (place d InTerminal (loop ∷ others)) k (λ ts. begins_term ts ≡ false) (λ ts. Unit {0}) SpellsMoreTermRows
  more_rows_turns = record {
    empty = refl;
    leaves = λ ts i e. (leaves ts i e, terms.no_row, tt);
    turn = λ ts i e. from ts e (seen sign.Bar ts);
  }
    where
      from : (ts : List Lexeme) → sees sign.Bar ts ≡ true → Seen sign.Bar ts →
          At (place d InTerminal (loop ∷ others) ts) (place d InTerminal (loop ∷ others))
          (λ mid xs. (length mid < length ts) × (begins_term mid ≡ false) × ((rest : List Lexeme) (ys : List TermElement) → SpellsMoreTermRows mid rest ys → SpellsMoreTermRows ts rest (xs ++ ys)))
          ((skip >> one (term_row (terms_inside d))) ts)
      from ts e (comes_not h) = absurd (cc (e, h))
      from ts e (comes s us) =
          along (on_bar s us) (bind _ (row_at us) (λ mid x h. done (x ∷ []) mid (omega (arith, term_row_shorter h.0), h.1, λ rest ys m. terms.row_and h.0 m)))

  choice_at : (ts : List Lexeme) → At (place d InTerminal (Term ∷ loop ∷ others) ts) k (SpellsTermChoice ts) (term_choice (terms_inside d) ts)
  unfolding term_choice term_rows all_of
  choice_at ts =
      bind _ (bind _ (row_at ts) (λ mid e h.
      bind _ (gathered_at (sees sign.Bar) (skip >> one (term_row (terms_inside d))) (place d InTerminal (loop ∷ others)) k
      (λ us. begins_term us ≡ false) (λ us. Unit {0}) SpellsMoreTermRows more_rows_turns (length mid) mid (omega arith) h.1)
      (λ rest es g. done {P = λ us all. SpellsTermChoice ts us (term_choice_of all)} (e ∷ es) rest (terms.choice h.0 g.0))))
      (λ rest all g. done (term_choice_of all) rest g)

inside_at : (d : ℕ) → InsideAt d
unfolding terms_inside same_symbol
inside_at zero others s ts = deep refl
inside_at (suc d) others s ts =
    bind _ (choice_at d (term_from d (inside_at d)) (Card ∷ others) TermsClose (place d InTerminal (Want sign.CloseParenthesis ∷ Card ∷ others))
    (λ us e. terms_close_term d (Card ∷ others) us e) (λ q us. refl) (λ us e f. terms_close_leave d (Card ∷ others) us e f) ts)
    (λ mid e h. bind _ (symbol_at d InTerminal (Card ∷ others) sign.CloseParenthesis mid (place (suc d) InTerminal (Card ∷ others)) (λ q us. refl)) (λ rest c g. done _ rest (terms.enclosed (rw g at h))))

-- ---- terminals

module _ (d : ℕ) (others : List Sym) where
  body_at : (ts : List Lexeme) → At (place d InTerminal (Term ∷ TermsEnd ∷ others) ts) (place d InTerminal (Want sign.Semicolon ∷ others)) (SpellsTermChoice ts) (term_choice (terms_inside d) ts)
  unfolding same_symbol
  body_at ts = choice_at d (term_from d (inside_at d)) others TermsEnd (place d InTerminal (Want sign.Semicolon ∷ others))
      (λ us e. terms_end_term d others us e) (λ q us. refl) (λ us e f. terms_end_leave d others us e f) ts

  result_at : (ts : List Lexeme) → At (place d InTerminal (ReturnsColon ∷ others) ts) (place d InTerminal (Want sign.Colon ∷ others))
      (λ rest p. (n : List ℕ) (s : Span) → SpellsTermHead (Word n None s ∷ ts) rest n s false p) (terminal_result false ts)
  unfolding terminal_result same_reserved
  result_at ts = by ts (seen_word word.Returns ts)
    where
      by : (us : List Lexeme) → SeenWord word.Returns us → At (place d InTerminal (ReturnsColon ∷ others) us) (place d InTerminal (Want sign.Colon ∷ others))
          (λ rest p. (n : List ℕ) (s : Span) → SpellsTermHead (Word n None s ∷ us) rest n s false p) (terminal_result false us)
      by us (word_comes w q vs) =
          finish (λ rest p h. (refl, λ n s. rw h.4 (terms.gives h.3))) (primitive_at d InTerminal (Want sign.Colon ∷ others) vs)
      by us (word_comes_not h) = rw h (read primitives.Text us (returns_colon d others us h) (λ n s. terms.token))

module _ (d : ℕ) (others : List Sym) (hidden : Bool) where
  token_at : (ts : List Lexeme) → At (place d InTerminal (WantName ∷ ReturnsColon ∷ Term ∷ TermsEnd ∷ others) ts) (place d InTerminal others) (SpellsTerminal hidden ts) (terminal_behind d hidden false ts)
  unfolding terminal_behind same_symbol
  token_at ts =
      bind _ (name_at d InTerminal (ReturnsColon ∷ Term ∷ TermsEnd ∷ others) ts) (λ us n h.
      bind _ (result_at d (Term ∷ TermsEnd ∷ others) us) (λ vs p g.
      bind _ (symbol_at d InTerminal (Term ∷ TermsEnd ∷ others) sign.Colon vs (place d InTerminal (Term ∷ TermsEnd ∷ others)) (λ q ws. refl)) (λ ws c e.
      bind _ (body_at d others ws) (λ xs body m.
      bind _ (symbol_at d InTerminal others sign.Semicolon xs (place d InTerminal others) (λ q ys. refl)) (λ rest s f.
      done _ rest (rw h (terms.terminal (rw e at (g n.0 n.1)) (rw f at m))))))))

  fragment_at : (w : List ℕ) (q : Span) (ts : List Lexeme) → At (place d InTerminal (WantName ∷ Want sign.Colon ∷ Term ∷ TermsEnd ∷ others) ts) (place d InTerminal others)
      (SpellsTerminal hidden (Word w (Some word.Fragment) q ∷ ts)) (terminal_behind d hidden true ts)
  unfolding terminal_behind terminal_result same_symbol
  fragment_at w q ts =
      bind _ (name_at d InTerminal (Want sign.Colon ∷ Term ∷ TermsEnd ∷ others) ts) (λ us n h.
      bind _ (symbol_at d InTerminal (Term ∷ TermsEnd ∷ others) sign.Colon us (place d InTerminal (Term ∷ TermsEnd ∷ others)) (λ z ws. refl)) (λ ws c e.
      bind _ (body_at d others ws) (λ xs body m.
      bind _ (symbol_at d InTerminal others sign.Semicolon xs (place d InTerminal others) (λ z ys. refl)) (λ rest s f.
      done _ rest (rw (h, e) (terms.terminal terms.fragment (rw f at m)))))))

  pub terminal_at : (ts : List Lexeme) → At (place d InTerminal (TerminalName ∷ Term ∷ TermsEnd ∷ others) ts) (place d InTerminal others) (SpellsTerminal hidden ts) (terminal d hidden ts)
  unfolding terminal same_reserved
  terminal_at ts = by ts (seen_word word.Fragment ts)
    where
      by : (us : List Lexeme) → SeenWord word.Fragment us → At (place d InTerminal (TerminalName ∷ Term ∷ TermsEnd ∷ others) us) (place d InTerminal others) (SpellsTerminal hidden us) (terminal d hidden us)
      by us (word_comes n s vs) = fragment_at n s vs
      by us (word_comes_not h) = rw h (along (terminal_name d (Term ∷ TermsEnd ∷ others) us h) (token_at us))
