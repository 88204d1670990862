-- The NFAs that are made, and the texts that have none.
use Rattle.std.proofs.Common.{◌≡◌, ℕ, List, length, map, slice_get, Some, option_map, sym, ap, subst, ◌∙◌}
use Rattle.std.proofs.lemmas.List.{length-map}
use Rattle.std.proofs.lemmas.Option.{slice_get-map}
use Rattle.regex_nfa.specs.declared.nfa.Nfa.{Nfa}
use Rattle.lw_tokens.specs.Lexicon.{TerminalForm}
use Rattle.lw_matching.specs.Nfas.{IsNfaOf, AreNfas}

-- each of the NFAs is that of the pattern at its place
abbrev pub MadeFrom : List (List ℕ) → List Nfa → Type 0
MadeFrom patterns nfas =
    (j : ℕ) (pattern : List ℕ) (nfa : Nfa) → slice_get patterns j ≡ Some pattern → slice_get nfas j ≡ Some nfa → IsNfaOf pattern nfa

pub made-are : (patterns : List (List ℕ)) (nfas : List Nfa) → length nfas ≡ length patterns → MadeFrom patterns nfas →
    (terminals : List TerminalForm) → map (λ form. form.pattern) terminals ≡ patterns → AreNfas terminals nfas
made-are patterns nfas count all terminals same = record {
  count = count ∙ sym (ap length same) ∙ length-map terminals (λ (form : TerminalForm). form.pattern);
  each = λ j form nfa there made.
      let here = slice_get-map (λ (form : TerminalForm). form.pattern) terminals j ∙ ap (option_map (λ form. form.pattern)) there in
      all j form.pattern nfa (subst (λ ps. slice_get ps j ≡ Some form.pattern) same here) made;
}
