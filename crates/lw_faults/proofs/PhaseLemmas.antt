-- A fault belongs to one phase, and where a fragment or a terminal calls itself, what rules read and do is not looked at.
use Rattle.std.proofs.Common.{◌≡◌, ℕ, ◌<◌, List, Bool, true, false, ◌||◌, ◌&&◌, nat_lt, ◌⊎◌, inl, inr, lit<, refl, sym, ◌∙◌, true≢false}
use Rattle.lw_base.specs.declared.token.Span.{Span}
use Rattle.lw_grammar.specs.declared.fault.GrammarFault.{GrammarFault}
use Rattle.lw_grammar.specs.declared.grammar.Grammar.{Grammar}
use Rattle.lw_faults.specs.Circles.{CircularCall}
use Rattle.lw_faults.specs.Faults.{IsTypeFault, IsCheckFault}
use Rattle.lw_faults.specs.Faults as fault

-- 4 to 6, and 14 to 19
abbrev of_types : ℕ → Bool
of_types n = (nat_lt 3 n && nat_lt n 7) || (nat_lt 13 n && nat_lt n 20)

module _ (g : Grammar) where
  type_number : (f : GrammarFault) → IsTypeFault g f → of_types f.number ≡ true
  type_number f (fault.duplicate _) = refl
  type_number f (fault.unknown_rule _) = refl
  type_number f (fault.unknown_type _) = refl
  type_number f (fault.unknown_property _) = refl
  type_number f (fault.wrong_property_form _) = refl
  type_number f (fault.mixed_property _) = refl
  type_number f (fault.not_a_subtype _) = refl
  type_number f (fault.no_name_rule _) = refl
  type_number f (fault.circular_type _) = refl

  check_number : (f : GrammarFault) → IsCheckFault g f → of_types f.number ≡ false
  check_number f (fault.no_entry _) = refl
  check_number f (fault.second_entry _) = refl
  check_number f (fault.entry_makes_no_node _) = refl
  check_number f (fault.left_recursion _ _) = refl
  check_number f (fault.reads_nothing _ _) = refl
  check_number f (fault.repeats_nothing _ _) = refl
  check_number f (fault.never_ends _ _) = refl
  check_number f (fault.misplaced_action _ _) = refl
  check_number f (fault.misplaced_call _ _) = refl
  check_number f (fault.mixed_data_type_rule _) = refl
  check_number f (fault.circular_call _) = refl
  check_number f (fault.bad_call _) = refl
  check_number f (fault.bad_assignment _) = refl
  check_number f (fault.too_many_rules _) = refl

  pub one_phase : (f : GrammarFault) → IsTypeFault g f → ¬ IsCheckFault g f
  one_phase f one other = true≢false (sym (type_number f one) ∙ check_number f other)

  pub circles_first : (file : ℕ) (s : Span) (name : List ℕ) (f : GrammarFault) → CircularCall g file s name → IsCheckFault g f → (f.number < 7) ⊎ (12 < f.number)
  circles_first file s name f circle (fault.no_entry _) = inl (lit< tt)
  circles_first file s name f circle (fault.second_entry _) = inl (lit< tt)
  circles_first file s name f circle (fault.entry_makes_no_node _) = inl (lit< tt)
  circles_first file s name f circle (fault.left_recursion none _) = absurd (none file s name circle)
  circles_first file s name f circle (fault.reads_nothing none _) = absurd (none file s name circle)
  circles_first file s name f circle (fault.repeats_nothing none _) = absurd (none file s name circle)
  circles_first file s name f circle (fault.never_ends none _) = absurd (none file s name circle)
  circles_first file s name f circle (fault.misplaced_action none _) = absurd (none file s name circle)
  circles_first file s name f circle (fault.misplaced_call none _) = absurd (none file s name circle)
  circles_first file s name f circle (fault.mixed_data_type_rule _) = inr (lit< tt)
  circles_first file s name f circle (fault.circular_call _) = inr (lit< tt)
  circles_first file s name f circle (fault.bad_call _) = inr (lit< tt)
  circles_first file s name f circle (fault.bad_assignment _) = inr (lit< tt)
  circles_first file s name f circle (fault.too_many_rules _) = inr (lit< tt)
