-- The types of rules: which are inferred, and what calls put up.
use Rattle.std.proofs.Common.{◌≡◌, ℕ, List, false, Option, Some, None, MatchOption, ◌↔◌, inl, inr, refl, sym, ap, ◌∙◌, subst, true≢false}
use Rattle.lw_base.specs.declared.token.Span.{Span}
use Rattle.lw_grammar.specs.declared.grammar.Grammar.{Grammar}
use Rattle.lw_grammar.specs.declared.rule.Rule.{Rule}
use Rattle.lw_grammar.specs.declared.rule.RuleResult.{RuleResult}
use Rattle.lw_grammar.specs.Leaves.{Call}
use Rattle.lw_grammar.proofs.FirstLemmas.{first_place, first_item}
use Rattle.lw_numbers.specs.Kin.{Kin, OfType, RulePutsUp, PutsUp}
use Rattle.lw_grammar.specs.Named.{IsRule}
use Rattle.lw_grammar.specs.declared.rule.RuleResult.TheVariants.{Own, Returns, Gives, Infers}
use Rattle.lw_grammar.specs.Subtypes.{IsDeclared, ResultNames, ResultInfers, HasType, InfersType}

-- what an answer says of one thing it says of another that is the same
pub answers_alike : {X N : Type 0} (of : X → N) (P Q : N → Type 0) → ((n : N) → P n ↔ Q n) → (o : Option X) →
    MatchOption o ((n : N) → ¬ P n) (λ x. (n : N) → P n ↔ (n ≡ of x)) → MatchOption o ((n : N) → ¬ Q n) (λ x. (n : N) → Q n ↔ (n ≡ of x))
answers_alike of P Q same None none = λ n q. none n ((same n).1 q)
answers_alike of P Q same (Some x) is = λ n. (λ q. (is n).0 ((same n).1 q), λ e. (same n).0 ((is n).1 e))

-- what a call of a whole rule puts up: the rule's type, as far as it has one
pub typed_up : (g : Grammar) (number : ℕ) (rule : Rule) → rule.is_fragment ≡ false → (name : List ℕ) → ((n : List ℕ) → HasType g rule n ↔ (n ≡ name)) → (from : Kin) →
    RulePutsUp g number rule from ↔ (from ≡ OfType name)
typed_up g number rule whole name typed from = (
  λ puts. elim puts [
    | inl fragment ↦ absurd (true≢false (sym fragment.0 ∙ whole))
    | inr is ↦ is.2 ∙ ap OfType ((typed is.0).0 is.1)
  ],
  λ is. inr (name, (typed name).1 refl, is),
)

pub none_up : (g : Grammar) (number : ℕ) (rule : Rule) → rule.is_fragment ≡ false → ((n : List ℕ) → ¬ HasType g rule n) → (from : Kin) → ¬ RulePutsUp g number rule from
none_up g number rule whole none from (inl fragment) = true≢false (sym fragment.0 ∙ whole)
none_up g number rule whole none from (inr is) = none is.0 is.1

-- what a call puts up is what its rule does
pub called_up : (g : Grammar) (name : List ℕ) (s : Span) (number : ℕ) (rule : Rule) → IsRule g name number rule → (from : Kin) →
    RulePutsUp g number rule from ↔ PutsUp g (Call name s) from
called_up g name s number rule is from = (
  λ puts. (number, rule, is, puts),
  λ puts. subst (λ (x : Rule). RulePutsUp g number x from) (first_item puts.2.first is.first)
      (subst (λ n. RulePutsUp g n puts.1 from) (first_place puts.2.first is.first) puts.3),
)

module _ (g : Grammar) where
  own_infers : (r : RuleResult) → ((name : List ℕ) (s : Span) → r ≡ Returns name s → ⊥) → (name : List ℕ) → ResultInfers g r name
  own_infers Own not name = tt
  own_infers (Returns type_name s) not name = absurd (not type_name s refl)
  own_infers (Gives primitive) not name = tt
  own_infers (Infers type_name s) not name = tt

  module _ (rule : Rule) where
    abbrev pub SameTypes : Type 0
    SameTypes = (name : List ℕ) → HasType g rule name ↔ InfersType g rule name

    -- a rule that says no `returns` has an inferred type
    pub inferred_own : ((name : List ℕ) (s : Span) → rule.result ≡ Returns name s → ⊥) → SameTypes
    inferred_own not name = (λ typed. (typed, own_infers rule.result not name), λ infers. infers.0)

    returned : (type_name : List ℕ) (s : Span) → rule.result ≡ Returns type_name s → (name : List ℕ) → HasType g rule name → name ≡ type_name
    returned type_name s is name typed = subst (λ r. ResultNames g r rule.name name) is typed.1

    -- and so does one that returns a type that is not declared
    pub inferred_returned : (type_name : List ℕ) (s : Span) → rule.result ≡ Returns type_name s → ¬ IsDeclared g type_name → SameTypes
    inferred_returned type_name s is none name = (
      λ typed. (typed, subst (λ r. ResultInfers g r name) (sym is) (λ declared. none (subst (IsDeclared g) (returned type_name s is name typed) declared))),
      λ infers. infers.0,
    )

    pub not_inferred : (type_name : List ℕ) (s : Span) → rule.result ≡ Returns type_name s → IsDeclared g type_name → (name : List ℕ) → ¬ InfersType g rule name
    not_inferred type_name s is declared name infers =
        subst (λ r. ResultInfers g r name) is infers.1 (subst (IsDeclared g) (sym (returned type_name s is name infers.0)) declared)
