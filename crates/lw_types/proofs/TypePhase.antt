-- What is found one kind after the other are all faults of the phase.
use Rattle.std.proofs.Common.{ℕ, ◌≡◌, List, [], ◌⊎◌, inl, inr, Contains, refl, sym, subst, arith}
use Rattle.lw_base.specs.declared.token.Span.{Span}
use Rattle.lw_grammar.specs.declared.fault.GrammarFault.{GrammarFault}
use Rattle.lw_grammar.specs.declared.grammar.Grammar.{Grammar}
use Rattle.lw_faults.specs.Names.{Duplicate, UnknownRule, UnknownType, NoNameRule}
use Rattle.lw_faults.specs.Properties.{UnknownProperty, WrongPropertyForm, MixedProperty, NotASubtype}
use Rattle.lw_faults.specs.Circles.{CircularType}
use Rattle.lw_faults.specs.Faults.{fault, IsTypeFault, AreFaults, AreTypeFaults}
use Rattle.lw_faults.specs.Faults as is
use Rattle.lw_faults.specs.Finding.{Finds, IsFaultOf}
use Rattle.lw_faults.proofs.Joining.{Finds-then}

module _ (g : Grammar) where
  abbrev pub IsNameFault : GrammarFault → Type 0
  IsNameFault f = IsFaultOf 4 (Duplicate g) f ⊎ IsFaultOf 5 (UnknownRule g) f ⊎ IsFaultOf 6 (UnknownType g) f ⊎ IsFaultOf 18 (NoNameRule g) f ⊎ IsFaultOf 19 (CircularType g) f

  abbrev pub IsPropertyFault : GrammarFault → Type 0
  IsPropertyFault f = IsFaultOf 14 (UnknownProperty g) f ⊎ IsFaultOf 15 (WrongPropertyForm g) f ⊎ IsFaultOf 16 (MixedProperty g) f ⊎ IsFaultOf 17 (NotASubtype g) f

  by_number : (n : ℕ) (P : ℕ → Span → List ℕ → Type 0) → ((file : ℕ) (s : Span) (name : List ℕ) → P file s name → IsTypeFault g (fault n file s name)) →
      (f : GrammarFault) → IsFaultOf n P f → IsTypeFault g f
  by_number n P make f (number, so) = let Q : ℕ → Type 0 = λ k. IsTypeFault g (fault k f.file f.span f.name) in subst Q (sym number) (make f.file f.span f.name so)

  of_phase : (f : GrammarFault) → IsNameFault f ⊎ IsPropertyFault f → IsTypeFault g f
  of_phase f (inl (inl so)) = by_number 4 (Duplicate g) (λ file s name. is.duplicate) f so
  of_phase f (inl (inr (inl so))) = by_number 5 (UnknownRule g) (λ file s name. is.unknown_rule) f so
  of_phase f (inl (inr (inr (inl so)))) = by_number 6 (UnknownType g) (λ file s name. is.unknown_type) f so
  of_phase f (inl (inr (inr (inr (inl so))))) = by_number 18 (NoNameRule g) (λ file s name. is.no_name_rule) f so
  of_phase f (inl (inr (inr (inr (inr so))))) = by_number 19 (CircularType g) (λ file s name. is.circular_type) f so
  of_phase f (inr (inl so)) = by_number 14 (UnknownProperty g) (λ file s name. is.unknown_property) f so
  of_phase f (inr (inr (inl so))) = by_number 15 (WrongPropertyForm g) (λ file s name. is.wrong_property_form) f so
  of_phase f (inr (inr (inr (inl so)))) = by_number 16 (MixedProperty g) (λ file s name. is.mixed_property) f so
  of_phase f (inr (inr (inr (inr so)))) = by_number 17 (NotASubtype g) (λ file s name. is.not_a_subtype) f so

  in_phase : (f : GrammarFault) → IsTypeFault g f → IsNameFault f ⊎ IsPropertyFault f
  in_phase f (is.duplicate so) = inl (inl (refl, so))
  in_phase f (is.unknown_rule so) = inl (inr (inl (refl, so)))
  in_phase f (is.unknown_type so) = inl (inr (inr (inl (refl, so))))
  in_phase f (is.no_name_rule so) = inl (inr (inr (inr (inl (refl, so)))))
  in_phase f (is.circular_type so) = inl (inr (inr (inr (inr (refl, so)))))
  in_phase f (is.unknown_property so) = inr (inl (refl, so))
  in_phase f (is.wrong_property_form so) = inr (inr (inl (refl, so)))
  in_phase f (is.mixed_property so) = inr (inr (inr (inl (refl, so))))
  in_phase f (is.not_a_subtype so) = inr (inr (inr (inr (refl, so))))

  -- what was found of names and then of properties, and is listed, are the faults of the phase
  pub all_type_faults : {a b c list : List GrammarFault} → a ≡ [] → Finds IsNameFault a b → Finds IsPropertyFault b c → AreFaults (Contains c) list → AreTypeFaults g list
  all_type_faults {a} {b} {c} {list} none names properties listed =
      record { all = λ f. (λ has. from f ((listed.all f).0 has), λ so. (listed.all f).1 (into f so)); sorted = listed.sorted }
    where
      both : Finds (λ f. IsNameFault f ⊎ IsPropertyFault f) a c
      both = Finds-then names properties

      nothing : (f : GrammarFault) → ¬ Contains a f
      nothing f has = let P : List GrammarFault → Type 0 = λ xs. Contains xs f in let (k, inside, at) = subst P none has in omega (arith, inside)

      from : (f : GrammarFault) → Contains c f → IsTypeFault g f
      from f has = by ((both.exact f).0 has)
        where
          by : Contains a f ⊎ (IsNameFault f ⊎ IsPropertyFault f) → IsTypeFault g f
          by (inl before) = absurd (nothing f before)
          by (inr so) = of_phase f so

      into : (f : GrammarFault) → IsTypeFault g f → Contains c f
      into f so = (both.exact f).1 (inr (in_phase f so))

  -- a list of all faults that is empty
  pub none_found : {list : List GrammarFault} → list ≡ [] → AreTypeFaults g list → (f : GrammarFault) → ¬ IsTypeFault g f
  none_found {list} none are f so =
      let P : List GrammarFault → Type 0 = λ xs. Contains xs f in let (k, inside, at) = subst P none ((are.all f).1 so) in omega (arith, inside)
