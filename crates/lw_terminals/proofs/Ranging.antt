-- In a grammar without bad calls, the ranges of terminals have ends.
use Rattle.std.proofs.Common.{◌≡◌, ℕ, ◌≤◌, ◌⊎◌, inl, inr, List, [], ◌∷◌, Contains, encode_utf8, refl, sym, ap, ◌∙◌, subst, arith}
use Rattle.std.specs.Char.{IsScalar}
use Rattle.std.specs.Str.{IsUtf8, chars}
use Rattle.std.proofs.lemmas.Bool.{cases_lt}
use Rattle.std.proofs.lemmas.List.{append-nil}
use Rattle.std.proofs.lemmas.Str.{chars-nil, chars_past_char, IsUtf8-encode}
use Rattle.lw_base.specs.declared.token.Span.{Span}
use Rattle.lw_grammar.specs.declared.fault.GrammarFault.{GrammarFault}
use Rattle.lw_grammar.specs.declared.grammar.Grammar.{Grammar}
use Rattle.lw_grammar.specs.declared.terminal.Terminal.{Terminal}
use Rattle.lw_faults.specs.BadCalls as calls
use Rattle.lw_faults.specs.BadCalls.{IsInOrder}
use Rattle.lw_faults.specs.Faults as faults
use Rattle.lw_faults.specs.Faults.{IsCheckFault, fault}
use Rattle.lw_grammar.specs.Written.{term_ranges}
use Rattle.lw_terminals.specs.Readiness.{HasEnds}
use Rattle.lw_terminals.proofs.EndLemmas.{order_of_ends, ends_in_order}

one_char : (text : List ℕ) (c : ℕ) → IsScalar c → text ≡ encode_utf8 c → chars text ≡ c ∷ []
one_char text c scalar is =
    chars_past_char text [] c (subst IsUtf8 (sym is) (IsUtf8-encode c scalar)) (is ∙ sym (append-nil (encode_utf8 c))) ∙ ap (λ cs. c ∷ cs) chars-nil

ends_of_order : (from to : List ℕ) → IsInOrder from to → HasEnds from to
ends_of_order from to is = record {
  first = is.low;
  last = is.high;
  from_is = one_char from is.low is.scalar_low is.is_first;
  to_is = one_char to is.high is.scalar_high is.is_last;
  order = is.order;
}

-- a list has one item, or another number of them
abbrev OneOrNot : List ℕ → Type 0
OneOrNot cs = ((c : ℕ) × (cs ≡ c ∷ [])) ⊎ ((c : ℕ) → ¬ (cs ≡ c ∷ []))

one_or_not : (cs : List ℕ) → OneOrNot cs
one_or_not [] = inr (λ c is. cc)
one_or_not (a ∷ []) = inl (a, refl)
one_or_not (a ∷ b ∷ cs) = inr (λ c is. cc)

has_ends_or_not : (from to : List ℕ) → HasEnds from to ⊎ (¬ HasEnds from to)
has_ends_or_not from to = by (one_or_not (chars from)) (one_or_not (chars to))
  where
    by : OneOrNot (chars from) → OneOrNot (chars to) → HasEnds from to ⊎ (¬ HasEnds from to)
    by (inr not_one) to_is = inr (λ ends. not_one ends.first ends.from_is)
    by (inl one) (inr not_one) = inr (λ ends. not_one ends.last ends.to_is)
    by (inl (first, from_is)) (inl (last, to_is)) = elim (cases_lt last first) [
      | inl before ↦ inr (λ ends. let order : first ≤ last = order_of_ends from to first last from_is to_is ends in omega arith)
      | inr after ↦ inl (ends_in_order from to first last from_is to_is after)
    ]

module _ (g : Grammar) (no_check_fault : (f : GrammarFault) → ¬ IsCheckFault g f) where
  pub ranges_have_ends : (t : Terminal) → Contains g.terminals t → (from to : List ℕ) (s : Span) → Contains (term_ranges t.body) (from, to, s) → HasEnds from to
  ranges_have_ends t there from to s has = elim (has_ends_or_not from to) [
    | inl ends ↦ ends
    | inr not ↦ absurd (no_check_fault (fault 21 t.file s t.name) (faults.bad_call (calls.range t from to there has (λ is. not (ends_of_order from to is)))))
  ]
