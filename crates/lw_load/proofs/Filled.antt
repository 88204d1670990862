-- A choice in a terminal is written with two alternatives or more, so none is empty.
use Rattle.std.proofs.Common.{ℕ, ◌≡◌, ◌<◌, List, [], ◌∷◌, ◌++◌, map, Contains, Bool, sym, ap, ◌∙◌, subst, arith}
use Rattle.std.specs.List.{flat_map, AllByRecursion}
use Rattle.std.proofs.lemmas.List.Elements.{All-from_recursion, All-contains}
use Rattle.lw_grammar.specs.declared.terminal.Terminal.{Terminal}
use Rattle.lw_grammar.specs.declared.terminal.TermElement.{TermElement, out-TermElement, fold_out-TermElement}
use Rattle.lw_grammar.specs.declared.terminal.TermElement.TheFolds.{map-TermElement}
use Rattle.lw_grammar.specs.declared.terminal.TermElement.TheVariants as term
use Rattle.lw_grammar.specs.declared.terminal.TermElement.TheOpen.{TermElement-F}
use Rattle.lw_gramread.specs.declared.lexeme.Lexeme.{Lexeme}
use Rattle.lw_gramread.specs.Spans.{across, term_group_of, term_choice_of}
use Rattle.lw_gramread.specs.TerminalRules as terms
use Rattle.lw_gramread.specs.TerminalRules.{SpellsTermMark, SpellsTermPart, SpellsTerm, SpellsMoreTerms, SpellsTermRow, SpellsMoreTermRows, SpellsTermChoice, SpellsTerminal}
use Rattle.lw_grammar.specs.WellFormed.{choices, layer_choices}

-- each choice of these sizes has a part
abbrev pub AreFilled : List ℕ → Type 0
AreFilled sizes = AllByRecursion (λ n. 0 < n) sizes

abbrev IsFilled : TermElement → Type 0
IsFilled e = AreFilled (choices e)

abbrev EachFilled : List TermElement → Type 0
EachFilled es = AllByRecursion IsFilled es

both : (xs ys : List ℕ) → AreFilled xs → AreFilled ys → AreFilled (xs ++ ys)
both [] ys h k = k
both (x ∷ xs) ys h k = (h.0, both xs ys h.1 k)

-- of all parts
pub each_filled : {X : Type 0} (sizes_in : X → List ℕ) (xs : List X) → AllByRecursion (λ x. AreFilled (sizes_in x)) xs →
    AreFilled (flat_map (λ sizes. sizes) (map sizes_in xs))
each_filled sizes_in [] h = tt
each_filled sizes_in (x ∷ xs) h = both (sizes_in x) (flat_map (λ (sizes : List ℕ). sizes) (map sizes_in xs)) h.0 (each_filled sizes_in xs h.1)

pub none_empty : (sizes : List ℕ) → AreFilled sizes → ¬ Contains sizes 0
none_empty sizes h = λ has. let some : 0 < 0 = All-contains (λ n. 0 < n) sizes 0 (All-from_recursion (λ n. 0 < n) sizes h) has in omega (arith, some)

-- by its variant
by_variant : (e : TermElement) (f : TermElement-F TermElement) → out-TermElement e ≡ f →
    AreFilled (layer_choices (map-TermElement TermElement (List ℕ) choices f)) → IsFilled e
by_variant e f is h =
    subst AreFilled (sym (fold_out-TermElement (List ℕ) layer_choices e ∙ ap (λ f. layer_choices (map-TermElement TermElement (List ℕ) choices f)) is)) h

mark_filled : {ts rest : List Lexeme} {e m : TermElement} → SpellsTermMark ts rest e m → IsFilled e → IsFilled m
mark_filled terms.bare h = h
mark_filled (terms.maybe {e}) h = by_variant _ _ (term.outs-Maybe e) h
mark_filled (terms.many {e}) h = by_variant _ _ (term.outs-Many e) h
mark_filled (terms.some {e}) h = by_variant _ _ (term.outs-Some1 e) h

row_of_filled : (e : TermElement) (es : List TermElement) → EachFilled (e ∷ es) → IsFilled (term_group_of (e ∷ es))
unfolding term_group_of
row_of_filled e [] h = h.0
row_of_filled e (f ∷ es) h = by_variant _ _ (term.outs-Group (e ∷ f ∷ es)) (each_filled choices (e ∷ f ∷ es) h)

choice_of_filled : (e : TermElement) (es : List TermElement) → EachFilled (e ∷ es) → IsFilled (term_choice_of (e ∷ es))
unfolding term_choice_of
choice_of_filled e [] h = h.0
choice_of_filled e (f ∷ es) h = by_variant _ _ (term.outs-Choice (e ∷ f ∷ es)) (omega arith, each_filled choices (e ∷ f ∷ es) h)

mutual
  part_filled : {ts rest : List Lexeme} {e : TermElement} → SpellsTermPart ts rest e → IsFilled e
  part_filled (terms.literal {v} {s}) = by_variant _ _ (term.outs-Literal v s) tt
  part_filled (terms.range {v} {w} {s} {t}) = by_variant _ _ (term.outs-Range v w (across s t)) tt
  part_filled (terms.pattern_ {p} {s}) = by_variant _ _ (term.outs-Pattern p s) tt
  part_filled (terms.calls {n} {s}) = by_variant _ _ (term.outs-Call n s) tt
  part_filled (terms.enclosed c) = choice_filled c

  term_filled : {ts rest : List Lexeme} {e : TermElement} → SpellsTerm ts rest e → IsFilled e
  term_filled (terms.term p m) = mark_filled m (part_filled p)

  more_terms_filled : {ts rest : List Lexeme} {es : List TermElement} → SpellsMoreTerms ts rest es → EachFilled es
  more_terms_filled terms.no_term = tt
  more_terms_filled (terms.term_and e m) = (term_filled e, more_terms_filled m)

  row_filled : {ts rest : List Lexeme} {e : TermElement} → SpellsTermRow ts rest e → IsFilled e
  row_filled (terms.row {e} {es} t m) = row_of_filled e es (term_filled t, more_terms_filled m)

  more_rows_filled : {ts rest : List Lexeme} {es : List TermElement} → SpellsMoreTermRows ts rest es → EachFilled es
  more_rows_filled terms.no_row = tt
  more_rows_filled (terms.row_and r m) = (row_filled r, more_rows_filled m)

  choice_filled : {ts rest : List Lexeme} {e : TermElement} → SpellsTermChoice ts rest e → IsFilled e
  choice_filled (terms.choice {e} {es} r m) = choice_of_filled e es (row_filled r, more_rows_filled m)

-- no choice in the terminal is empty
abbrev pub HasParts : Terminal → Type 0
HasParts t = ¬ Contains (choices t.body) 0

pub terminal_filled : {hidden : Bool} {ts rest : List Lexeme} {t : Terminal} → SpellsTerminal hidden ts rest t → HasParts t
terminal_filled (terms.terminal {body} head c) = none_empty (choices body) (choice_filled c)
