-- A terminal has one pattern, and so a grammar with its kinds has one lexicon.
use Rattle.std.proofs.Common.{◌≡◌, ℕ, List, [], ◌∷◌, ◌++◌, codes, Some, refl, sym, ap, ap₂, ◌∙◌, subst}
use Rattle.std.proofs.lemmas.Option.{none-some, same_Some}
use Rattle.std.specs.List.{AllZip}
use Rattle.lw_grammar.specs.declared.grammar.Grammar.{Grammar}
use Rattle.lw_grammar.specs.declared.terminal.Terminal.{Terminal}
use Rattle.lw_grammar.specs.declared.terminal.TermElement.{TermElement, out-TermElement}
use Rattle.lw_grammar.specs.declared.terminal.TermElement.TheOpen.{TermElement-F, Pattern, Choice}
use Rattle.lw_grammar.specs.Kinds.{Kinds}
use Rattle.lw_grammar.proofs.FirstLemmas.{first_item}
use Rattle.lw_tokens.specs.Patterns as p
use Rattle.lw_tokens.specs.Patterns.{TerminalPattern, ElementPattern, LayerPattern, RowPattern, ChoicePattern, AlternativePattern, as_pattern, as_row, as_choice, unescaped, grouped, by_number}
use Rattle.lw_tokens.specs.Lexicon.{Lexicon, TerminalForm, HasForm, IsLexicon}

not_both : {A : Type 0} (l : TermElement-F TermElement) (text : List ℕ) (parts : List TermElement) → as_pattern l ≡ Some text → as_choice l ≡ Some parts → A
not_both (Pattern found s) text parts is choice = absurd (none-some parts choice)
not_both (Choice found) text parts is choice = absurd (none-some text is)
not_both l text parts is choice = absurd (none-some text is)

module _ (g : Grammar) where
  mutual
    one_terminal : {t : Terminal} {a b : List ℕ} → TerminalPattern g t a → TerminalPattern g t b → a ≡ b
    one_terminal (p.bare {text = x} is) (p.bare {text = y} also) = ap unescaped (same_Some x y (sym is ∙ also))
    one_terminal (p.bare {t = t} {text = x} is) (p.alternatives parts also choice) = not_both (out-TermElement t.body) x parts is also
    one_terminal (p.bare {text = x} is) (p.other no_pattern no_choice only) = absurd (none-some x (sym no_pattern ∙ is))
    one_terminal (p.alternatives {t = t} parts is choice) (p.bare {text = y} also) = not_both (out-TermElement t.body) y parts also is
    one_terminal (p.alternatives parts is choice) (p.alternatives {p = b} others also chosen) =
        one_choice choice (subst (λ es. ChoicePattern g es b) (same_Some others parts (sym also ∙ is)) chosen)
    one_terminal (p.alternatives parts is choice) (p.other no_pattern no_choice only) = absurd (none-some parts (sym no_choice ∙ is))
    one_terminal (p.other no_pattern no_choice only) (p.bare {text = y} also) = absurd (none-some y (sym no_pattern ∙ also))
    one_terminal (p.other no_pattern no_choice only) (p.alternatives parts also choice) = absurd (none-some parts (sym no_choice ∙ also))
    one_terminal (p.other no_pattern no_choice only) (p.other no_text none y) = one_alternative only y

    one_element : {e : TermElement} {a b : List ℕ} → ElementPattern g e a → ElementPattern g e b → a ≡ b
    one_element (p.element x) (p.element y) = one_layer x y

    one_layer : {l : TermElement-F TermElement} {a b : List ℕ} → LayerPattern g l a → LayerPattern g l b → a ≡ b
    one_layer p.literal p.literal = refl
    one_layer (p.range first last is to below) (p.range second end was until under) =
        let low : first ≡ second = let e = sym is ∙ was in cc in
        let high : last ≡ end = let e = sym to ∙ until in cc in
        ap₂ (λ x y. codes "[" ++ by_number x ++ codes "-" ++ by_number y ++ codes "]") low high
    one_layer p.pattern p.pattern = refl
    one_layer (p.call t called is x) (p.call {p = b} u other was y) =
        ap grouped (one_terminal x (subst (λ c. TerminalPattern g c b) (first_item was.first is.first) y))
    one_layer (p.group x) (p.group y) = ap grouped (one_row x y)
    one_layer (p.choice x) (p.choice y) = ap grouped (one_choice x y)
    one_layer (p.maybe x) (p.maybe y) = ap (λ q. grouped q ++ codes "?") (one_element x y)
    one_layer (p.many x) (p.many y) = ap (λ q. grouped q ++ codes "*") (one_element x y)
    one_layer (p.some1 x) (p.some1 y) = ap (λ q. grouped q ++ codes "+") (one_element x y)

    one_row : {parts : List TermElement} {a b : List ℕ} → RowPattern g parts a → RowPattern g parts b → a ≡ b
    one_row p.empty_row p.empty_row = refl
    one_row (p.row_part x xs) (p.row_part y ys) = ap₂ (λ q r. q ++ r) (one_element x y) (one_row xs ys)

    one_choice : {parts : List TermElement} {a b : List ℕ} → ChoicePattern g parts a → ChoicePattern g parts b → a ≡ b
    one_choice (p.last_choice x) (p.last_choice y) = one_alternative x y
    one_choice (p.last_choice x) (p.next_choice y ys) = elim ys [ ]
    one_choice (p.next_choice x xs) (p.last_choice y) = elim xs [ ]
    one_choice (p.next_choice x xs) (p.next_choice y ys) = ap₂ (λ q r. q ++ codes "|" ++ r) (one_alternative x y) (one_choice xs ys)

    one_alternative : {e : TermElement} {a b : List ℕ} → AlternativePattern g e a → AlternativePattern g e b → a ≡ b
    one_alternative (p.row parts is x) (p.row {p = b} others also y) = one_row x (subst (λ es. RowPattern g es b) (same_Some others parts (sym also ∙ is)) y)
    one_alternative (p.row parts is x) (p.single none y) = absurd (none-some parts (sym none ∙ is))
    one_alternative (p.single none x) (p.row parts is y) = absurd (none-some parts (sym none ∙ is))
    one_alternative (p.single none x) (p.single also y) = one_element x y

  one_form : (terminal : Terminal) (a b : TerminalForm) → HasForm g terminal a → HasForm g terminal b → a ≡ b
  one_form terminal a b is was = ap₂ (λ q h. record { pattern = q; hidden = h }) (one_terminal is.pattern was.pattern) (is.hidden ∙ sym was.hidden)

  all_forms : (terminals : List Terminal) (forms others : List TerminalForm) → AllZip (HasForm g) terminals forms → AllZip (HasForm g) terminals others → forms ≡ others
  all_forms [] [] [] are were = refl
  all_forms [] [] (b ∷ bs) are were = absurd were
  all_forms [] (a ∷ rest) bs are were = absurd are
  all_forms (t ∷ ts) [] bs are were = absurd are
  all_forms (t ∷ ts) (a ∷ rest) [] are were = absurd were
  all_forms (t ∷ ts) (a ∷ rest) (b ∷ bs) are were = ap₂ (λ x xs. x ∷ xs) (one_form t a b are.0 were.0) (all_forms ts rest bs are.1 were.1)

  pub one_lexicon : (kinds : Kinds) (a b : Lexicon) → IsLexicon g kinds a → IsLexicon g kinds b → a ≡ b
  one_lexicon kinds a b is was =
      ap₂ (λ words forms. record { keywords = words; terminals = forms }) (is.keywords ∙ sym was.keywords)
      (all_forms kinds.terminals a.terminals b.terminals is.terminals was.terminals)
