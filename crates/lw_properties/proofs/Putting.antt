-- What is put into a type of a number, and into the types that are current.
use Rattle.std.proofs.Common.{◌≡◌, ℕ, List, [], ◌∷◌, ◌++◌, Bool, Some, slice_get, ◌↔◌, sym, ap, ◌∙◌, subst}
use Rattle.std.proofs.lemmas.Option.{same_Some}
use Rattle.lw_base.specs.declared.token.Span.{Span}
use Rattle.lw_grammar.specs.declared.grammar.Grammar.{Grammar}
use Rattle.lw_faults.specs.Finding.{Finds, OfSome}
use Rattle.lw_faults.proofs.Joining.{Finds-nothing, Finds-one, Finds-iff}
use Rattle.lw_numbers.specs.Numbering.{type_names}
use Rattle.lw_properties.specs.Asked.{SomeType}
use Rattle.lw_properties.specs.Mixing.{Putting, putting, IsFree, PutsIn}

module _ (g : Grammar) (p : List ℕ) (list : Bool) (file : ℕ) (s : Span) where
  module _ (number : ℕ) (name : List ℕ) (named : Some name ≡ slice_get (type_names g) number) where
    pub puts_one : {a : List Putting} → IsFree g name → Finds (PutsIn g p list file s number) a (a ++ putting name p list file s ∷ [])
    puts_one {a} free = Finds-iff (λ put. (λ is. (name, sym named, free, is), λ is. by put is)) (Finds-one a (putting name p list file s))
      where
        by : (put : Putting) → PutsIn g p list file s number put → put ≡ putting name p list file s
        by put (t, also, other, is) = is ∙ ap (λ n. putting n p list file s) (same_Some t name (sym also ∙ sym named))

    pub puts_none : {a : List Putting} → ¬ IsFree g name → Finds (PutsIn g p list file s number) a a
    puts_none bound = Finds-nothing (λ put is. bound (subst (IsFree g) (same_Some is.0 name (sym is.1 ∙ sym named)) is.2))

  -- number by number
  pub puts_current : (numbers : List ℕ) (put : Putting) → OfSome (PutsIn g p list file s) numbers put ↔ SomeType g (λ t. IsFree g t × (put ≡ putting t p list file s)) numbers
  puts_current numbers put = (
    λ is. (is.2.0, record { number = is.0; named = is.2.1; among = is.1 }, (is.2.2, is.2.3)),
    λ is. (is.1.number, is.1.among, (is.0, is.1.named, is.2.0, is.2.1)),
  )
