-- Patterns that are put in, by the form of what they are of, and one part of a row or a choice after the other.
use Rattle.std.proofs.Common.{◌≡◌, ℕ, ◌+◌, ◌<◌, ◌⊎◌, inl, inr, List, [], ◌∷◌, ◌++◌, length, get_or, take, Some, None, refl, sym, ap, ◌∙◌, subst, arith}
use Rattle.std.proofs.lemmas.List.{append-nil, append_assoc, take_more}
use Rattle.std.specs.Prelude.{codes}
use Rattle.lw_base.specs.declared.token.Span.{Span}
use Rattle.lw_grammar.specs.declared.grammar.Grammar.{Grammar}
use Rattle.lw_grammar.specs.declared.terminal.Terminal.{Terminal}
use Rattle.lw_grammar.specs.declared.terminal.TermElement.{TermElement, out-TermElement, roll-TermElement, roll-out-TermElement}
use Rattle.lw_grammar.specs.declared.terminal.TermElement.TheVariants as term
use Rattle.lw_grammar.specs.declared.terminal.TermElement.TheVariants.{rolls-Group}
use Rattle.lw_grammar.specs.declared.terminal.TermElement.TheOpen as layer
use Rattle.lw_grammar.specs.declared.terminal.TermElement.TheOpen.{TermElement-F}
use Rattle.lw_tokens.specs.Patterns as pattern
use Rattle.lw_tokens.specs.Patterns.{TerminalPattern, ElementPattern, LayerPattern, RowPattern, ChoicePattern, AlternativePattern, as_pattern, as_row, as_choice, escaped, unescaped, grouped}
use Rattle.lw_terminals.specs.declared.patterns.draft.Draft.{Draft}
use Rattle.lw_terminals.specs.Drafts.{PutsText, Writes, IsGrouped}
use Rattle.lw_terminals.proofs.DraftLemmas.{PutsText-none, PutsText-then}

-- what is no row is not seen as one
pub no_row : (e : TermElement) → ((parts : List TermElement) → ¬ (e ≡ term.Group parts)) → as_row (out-TermElement e) ≡ None
no_row e not = by (out-TermElement e) refl
  where
    by : (f : TermElement-F TermElement) → out-TermElement e ≡ f → as_row f ≡ None
    by (layer.Group parts) is = absurd (not parts (sym (roll-out-TermElement e) ∙ ap roll-TermElement is ∙ rolls-Group parts))
    by (layer.Literal text s) is = refl
    by (layer.Range from to s) is = refl
    by (layer.Pattern text s) is = refl
    by (layer.Call name s) is = refl
    by (layer.Choice parts) is = refl
    by (layer.Maybe part) is = refl
    by (layer.Many part) is = refl
    by (layer.Some1 part) is = refl

module _ (g : Grammar) where
  -- ---- elements by their layers
  pub of_layer : {e form : TermElement} {f : TermElement-F TermElement} {old new : Draft} → e ≡ form → out-TermElement form ≡ f →
      Writes (LayerPattern g f) old new → Writes (ElementPattern g e) old new
  of_layer is out (p, holds, puts) = (p, pattern.element (subst (λ l. LayerPattern g l p) (sym (ap out-TermElement is ∙ out)) holds), puts)

  pub literal_put : {text : List ℕ} {s : Span} {old new : Draft} → PutsText (escaped text) old new → Writes (LayerPattern g (layer.Literal text s)) old new
  literal_put {text} puts = (escaped text, pattern.literal, puts)

  pub regex_put : {text : List ℕ} {s : Span} {old new : Draft} → PutsText (grouped (unescaped text)) old new → Writes (LayerPattern g (layer.Pattern text s)) old new
  regex_put {text} puts = (grouped (unescaped text), pattern.pattern, puts)

  pub row_put : (parts : List TermElement) {old new : Draft} → Writes (IsGrouped (RowPattern g parts) (codes ")")) old new →
      Writes (LayerPattern g (layer.Group parts)) old new
  row_put parts (p, (q, holds, is), puts) = (p, subst (LayerPattern g (layer.Group parts)) (sym is) (pattern.group holds), puts)

  pub choice_put : (parts : List TermElement) {old new : Draft} → Writes (IsGrouped (ChoicePattern g parts) (codes ")")) old new →
      Writes (LayerPattern g (layer.Choice parts)) old new
  choice_put parts (p, (q, holds, is), puts) = (p, subst (LayerPattern g (layer.Choice parts)) (sym is) (pattern.choice holds), puts)

  module _ (part : TermElement) where
    -- the bracket and the mark behind it
    together : (q : List ℕ) (mark : List ℕ) → codes "(?:" ++ q ++ (codes ")" ++ mark) ≡ grouped q ++ mark
    together q mark = sym (append_assoc (codes "(?:" ++ q) (codes ")") mark)

    pub maybe_put : {old new : Draft} → Writes (IsGrouped (ElementPattern g part) (codes ")?")) old new → Writes (LayerPattern g (layer.Maybe part)) old new
    maybe_put (p, (q, holds, is), puts) = (p, subst (LayerPattern g (layer.Maybe part)) (sym (is ∙ together q (codes "?"))) (pattern.maybe holds), puts)

    pub many_put : {old new : Draft} → Writes (IsGrouped (ElementPattern g part) (codes ")*")) old new → Writes (LayerPattern g (layer.Many part)) old new
    many_put (p, (q, holds, is), puts) = (p, subst (LayerPattern g (layer.Many part)) (sym (is ∙ together q (codes "*"))) (pattern.many holds), puts)

    pub some_put : {old new : Draft} → Writes (IsGrouped (ElementPattern g part) (codes ")+")) old new → Writes (LayerPattern g (layer.Some1 part)) old new
    some_put (p, (q, holds, is), puts) = (p, subst (LayerPattern g (layer.Some1 part)) (sym (is ∙ together q (codes "+"))) (pattern.some1 holds), puts)

  -- ---- alternatives and terminals
  pub row_alternative : {e : TermElement} (parts : List TermElement) {old new : Draft} → as_row (out-TermElement e) ≡ Some parts → Writes (RowPattern g parts) old new →
      Writes (AlternativePattern g e) old new
  row_alternative parts is (p, holds, puts) = (p, pattern.row parts is holds, puts)

  pub single_alternative : {e : TermElement} {old new : Draft} → as_row (out-TermElement e) ≡ None → Writes (ElementPattern g e) old new → Writes (AlternativePattern g e) old new
  single_alternative none (p, holds, puts) = (p, pattern.single none holds, puts)

  module _ (t : Terminal) where
    pub bare_terminal : (text : List ℕ) {old new : Draft} → as_pattern (out-TermElement t.body) ≡ Some text → PutsText (unescaped text) old new → Writes (TerminalPattern g t) old new
    bare_terminal text is puts = (unescaped text, pattern.bare is, puts)

    pub choice_terminal : (parts : List TermElement) {old new : Draft} → as_choice (out-TermElement t.body) ≡ Some parts → Writes (ChoicePattern g parts) old new →
        Writes (TerminalPattern g t) old new
    choice_terminal parts is (p, holds, puts) = (p, pattern.alternatives parts is holds, puts)

    pub other_terminal : {old new : Draft} → as_pattern (out-TermElement t.body) ≡ None → as_choice (out-TermElement t.body) ≡ None →
        Writes (AlternativePattern g t.body) old new → Writes (TerminalPattern g t) old new
    other_terminal no_pattern no_choice (p, holds, puts) = (p, pattern.other no_pattern no_choice holds, puts)

  -- ---- rows
  row-push : {parts : List TermElement} {e : TermElement} {p q : List ℕ} → RowPattern g parts p → ElementPattern g e q → RowPattern g (parts ++ e ∷ []) (p ++ q)
  row-push {q = q} pattern.empty_row last = subst (RowPattern g _) (append-nil q) (pattern.row_part last pattern.empty_row)
  row-push {e = e} {q = q} (pattern.row_part {part} {parts} {p} {q = r} first others) last =
      subst (RowPattern g (part ∷ (parts ++ e ∷ []))) (sym (append_assoc p r q)) (pattern.row_part first (row-push others last))

  module _ (parts : List TermElement) (i : ℕ) (part : TermElement) (inside : i < length parts) (is : part ≡ get_or parts i part) where
    taken : take (i + 1) parts ≡ take i parts ++ part ∷ []
    taken = take_more parts i part inside ∙ ap (λ e. take i parts ++ e ∷ []) (sym is)

    pub row_more : {old mid new : Draft} → Writes (RowPattern g (take i parts)) old mid → Writes (ElementPattern g part) mid new →
        Writes (RowPattern g (take (i + 1) parts)) old new
    row_more {old} {mid} {new} (p, front, puts) (q, last, also) =
        (p ++ q, subst (λ es. RowPattern g es (p ++ q)) (sym taken) (row-push front last), PutsText-then p q old mid new puts also)

  pub row_none : (d : Draft) → Writes (RowPattern g []) d d
  row_none d = ([], pattern.empty_row, PutsText-none d)

  -- ---- choices
  choice-push : {parts : List TermElement} {e : TermElement} {p q : List ℕ} → ChoicePattern g parts p → AlternativePattern g e q →
      ChoicePattern g (parts ++ e ∷ []) (p ++ codes "|" ++ q)
  choice-push (pattern.last_choice first) last = pattern.next_choice first (pattern.last_choice last)
  choice-push {e = e} {q = q} (pattern.next_choice {part} {parts} {p} {q = r} first others) last =
      subst (ChoicePattern g (part ∷ (parts ++ e ∷ []))) (regroup (p ++ codes "|") r (codes "|") q) (pattern.next_choice first (choice-push others last))
    where
      regroup : (a b c d : List ℕ) → a ++ (b ++ c ++ d) ≡ a ++ b ++ c ++ d
      regroup a b c d = sym (append_assoc a (b ++ c) d) ∙ ap (λ x. x ++ d) (sym (append_assoc a b c))

  -- how a choice stands of which so many alternatives were put in
  abbrev pub ChoiceSoFar : List TermElement → ℕ → Draft → Draft → Type 0
  ChoiceSoFar parts i old new = ((i ≡ 0) × PutsText [] old new) ⊎ ((0 < i) × Writes (ChoicePattern g (take i parts)) old new)

  module _ (parts : List TermElement) (i : ℕ) (part : TermElement) (inside : i < length parts) (is : part ≡ get_or parts i part) where
    pub first_alternative : {old mid new : Draft} → i ≡ 0 → ChoiceSoFar parts i old mid → Writes (AlternativePattern g part) mid new → ChoiceSoFar parts (i + 1) old new
    first_alternative {old} {mid} {new} zero_is (inl (none, puts)) (q, holds, also) =
        inr (omega arith, (q, subst (λ es. ChoicePattern g es q) (sym alone) (pattern.last_choice holds), PutsText-then [] q old mid new puts also))
      where
        alone : take (i + 1) parts ≡ part ∷ []
        alone = taken parts i part inside is ∙ ap (λ n. take n parts ++ part ∷ []) zero_is
    first_alternative zero_is (inr (some, writes)) last = absurd (omega arith)

    pub next_alternative : {old mid bar new : Draft} → 0 < i → ChoiceSoFar parts i old mid → PutsText (codes "|") mid bar → Writes (AlternativePattern g part) bar new →
        ChoiceSoFar parts (i + 1) old new
    next_alternative some (inl (none, puts)) opens last = absurd (omega arith)
    next_alternative {old} {mid} {bar} {new} _ (inr (some, (p, front, puts))) opens (q, last, also) =
        inr (
          omega arith,
          (
            p ++ codes "|" ++ q,
            subst (λ es. ChoicePattern g es (p ++ codes "|" ++ q)) (sym (taken parts i part inside is)) (choice-push front last),
            PutsText-then (p ++ codes "|") q old bar new (PutsText-then p (codes "|") old mid bar puts opens) also,
          ),
        )
