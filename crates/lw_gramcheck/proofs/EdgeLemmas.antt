-- What one call adds to the edges between numbers.
use Rattle.std.proofs.Common.{◌≡◌, ℕ, List, [], ◌∷◌, ◌++◌, true, sym, ap, ◌∙◌, subst}
use Rattle.lw_base.specs.declared.token.Span.{Span}
use Rattle.lw_grammar.specs.declared.grammar.Grammar.{Grammar}
use Rattle.lw_grammar.specs.declared.rule.Rule.{Rule}
use Rattle.lw_grammar.specs.declared.terminal.Terminal.{Terminal}
use Rattle.lw_grammar.specs.Named.{IsRule, IsTerminal}
use Rattle.lw_numbers.specs.Numbering.{IsNumbered}
use Rattle.lw_faults.specs.Finding.{Finds}
use Rattle.lw_faults.proofs.Joining.{Finds-iff, Finds-nothing, Finds-one}
use Rattle.lw_gramcheck.specs.Sites.{Site, HasSite}
use Rattle.lw_gramcheck.specs.Edges.{Edge, MeansFragment, CallsFragment, CallsFragments, MeansTerminal, CallsTerminal}
use Rattle.lw_gramcheck.proofs.MeaningLemmas.{one_rule_place, one_terminal_place, never_both, no_rule, no_terminal}

one_edge : {a b : List Edge} (e : Edge) → b ≡ a ++ e ∷ [] → Finds (λ f. f ≡ e) a b
one_edge {a} e is = let P : List Edge → Type 0 = λ new. Finds (λ f. f ≡ e) a new in subst P (sym is) (Finds-one a e)

module _ (g : Grammar) where
  -- ---- of fragments

  module _ (q : ℕ) (call : Site) where
    pub one_fragment_call : {a b : List Edge} (r : ℕ) → MeansFragment g call.name r → b ≡ a ++ (q, r) ∷ [] → Finds (CallsFragment g q call) a b
    one_fragment_call r means is = Finds-iff (λ e. (λ same. (r, means, same), λ so. back e so)) (one_edge (q, r) is)
      where
        back : (e : Edge) → CallsFragment g q call e → e ≡ (q, r)
        back e (m, (rule, is_rule, whole), same) =
            let place : m ≡ r = one_rule_place g call.name m r rule means.0 is_rule means.1 in same ∙ ap (λ k. (q, k)) place

    pub no_fragment_call : {a : List Edge} → ((r : ℕ) → ¬ MeansFragment g call.name r) → Finds (CallsFragment g q call) a a
    no_fragment_call none = Finds-nothing (λ e (r, means, same). none r means)

  pub whole_fragment : {a b : List Edge} (q : ℕ) (rule : Rule) → rule.is_fragment ≡ true →
      Finds (λ e. (call : Site) × HasSite g rule call × CallsFragment g q call e) a b → Finds (CallsFragments g q rule) a b
  whole_fragment q rule whole finds = Finds-iff (λ e. (λ so. (whole, so), λ so. so.1)) finds

  module _ (name : List ℕ) where
    pub no_fragment_of_terminal : (t : ℕ) (x : Terminal) → IsTerminal g name t x → (n : ℕ) → ¬ MeansFragment g name n
    no_fragment_of_terminal t x is n (rule, is_rule, whole) = never_both g name n t rule x is_rule is

    pub no_fragment_of_nothing : ((n : ℕ) → ¬ IsNumbered g name n) → (n : ℕ) → ¬ MeansFragment g name n
    no_fragment_of_nothing none n (rule, is_rule, whole) = no_rule g name none n rule is_rule

    -- ---- of terminals

    pub no_terminal_of_rule : (r : ℕ) (rule : Rule) → IsRule g name r rule → (t : ℕ) → ¬ MeansTerminal g name t
    no_terminal_of_rule r rule is t (x, is_terminal) = never_both g name r t rule x is is_terminal

    pub no_terminal_of_nothing : ((n : ℕ) → ¬ IsNumbered g name n) → (t : ℕ) → ¬ MeansTerminal g name t
    no_terminal_of_nothing none t (x, is_terminal) = no_terminal g name none t x is_terminal

  module _ (t : ℕ) (call : List ℕ × Span) where
    pub one_terminal_call : {a b : List Edge} (u : ℕ) → MeansTerminal g call.0 u → b ≡ a ++ (t, u) ∷ [] → Finds (CallsTerminal g t call) a b
    one_terminal_call u means is = Finds-iff (λ e. (λ same. (u, means, same), λ so. back e so)) (one_edge (t, u) is)
      where
        back : (e : Edge) → CallsTerminal g t call e → e ≡ (t, u)
        back e (m, (x, is_terminal), same) =
            let place : m ≡ u = one_terminal_place g call.0 m u x means.0 is_terminal means.1 in same ∙ ap (λ k. (t, k)) place

    pub no_terminal_call : {a : List Edge} → ((u : ℕ) → ¬ MeansTerminal g call.0 u) → Finds (CallsTerminal g t call) a a
    no_terminal_call none = Finds-nothing (λ e (u, means, same). none u means)
