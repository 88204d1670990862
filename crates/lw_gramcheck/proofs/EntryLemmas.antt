-- Faults of the entry rule and of the size, from what was looked at.
use Rattle.std.proofs.Common.{◌≡◌, ℕ, ◌+◌, ◌<◌, List, ◌⊎◌, inl, inr, true, drop, length, refl, subst, arith}
use Rattle.lw_base.specs.declared.token.Span.{Span}
use Rattle.lw_grammar.specs.declared.fault.GrammarFault.{GrammarFault}
use Rattle.lw_grammar.specs.declared.grammar.Grammar.{Grammar}
use Rattle.lw_grammar.specs.declared.rule.Rule.{Rule}
use Rattle.lw_grammar.specs.Named.{IsEntry}
use Rattle.lw_grammar.specs.Nodes.{IsDataType}
use Rattle.lw_grammar.proofs.FirstLemmas.{first_place, first_item}
use Rattle.lw_faults.specs.Entries.{NoEntry, no_entry, SecondEntry, second_entry, EntryMakesNoNode, fragment_, data_type, TooManyRules, too_many, action_count}
use Rattle.lw_faults.specs.Faults.{fault}
use Rattle.lw_faults.specs.Finding.{Finds, IsFaultOf, OfSome}
use Rattle.lw_faults.proofs.Joining.{Finds-told, told_fault_of}
use Rattle.lw_gramcheck.specs.Parts.{MarkedAgain, at_rule}
use Rattle.lw_gramcheck.proofs.Places.{stands_behind, place_behind}

abbrev nowhere : Span
nowhere = record { start = 0; end = 0 }

module _ (g : Grammar) where
  -- ---- no entry

  pub found_no_entry : {a b : List GrammarFault} → ((r : ℕ) (rule : Rule) → ¬ IsEntry g r rule) → Finds (λ f. f ≡ fault 1 0 nowhere g.name) a b → Finds (IsFaultOf 1 (NoEntry g)) a b
  found_no_entry none = Finds-told (NoEntry g) (λ f is. told_fault_of (NoEntry g) 0 nowhere g.name is (no_entry none)) from
    where
      from : (file : ℕ) (s : Span) (name : List ℕ) → NoEntry g file s name → fault 1 file s name ≡ fault 1 0 nowhere g.name
      from _ _ _ (no_entry _) = refl

  -- ---- a second one

  module _ (first : ℕ) (rule : Rule) (entry : IsEntry g first rule) where
    second_from : (file : ℕ) (s : Span) (name : List ℕ) → SecondEntry g file s name → OfSome MarkedAgain (drop (first + 1) g.rules) (fault 2 file s name)
    second_from _ _ _ (second_entry q r one marked is below at mark root) =
        let same = first_place is entry in (marked, stands_behind g.rules (first + 1) r marked (omega arith) at, ((mark, root), refl))

    second_to : (f : GrammarFault) → OfSome MarkedAgain (drop (first + 1) g.rules) f → IsFaultOf 2 (SecondEntry g) f
    second_to f (marked, has, (is, told)) =
        let place = place_behind g.rules (first + 1) marked has in
        told_fault_of (SecondEntry g) marked.file marked.span marked.name told (second_entry first place.0 rule marked entry (omega arith) place.2 is.0 is.1)

    pub found_second : {a b : List GrammarFault} → Finds (OfSome MarkedAgain (drop (first + 1) g.rules)) a b → Finds (IsFaultOf 2 (SecondEntry g)) a b
    found_second = Finds-told (SecondEntry g) second_to second_from

    -- ---- an entry that makes no node

    no_node_from : (file : ℕ) (s : Span) (name : List ℕ) → EntryMakesNoNode g file s name → fault 3 file s name ≡ at_rule 3 rule
    no_node_from _ _ _ (fragment_ r other is _) = let P : Rule → Type 0 = λ x. at_rule 3 x ≡ at_rule 3 rule in subst P (first_item entry is) refl
    no_node_from _ _ _ (data_type r other is _) = let P : Rule → Type 0 = λ x. at_rule 3 x ≡ at_rule 3 rule in subst P (first_item entry is) refl

    pub found_no_node : {a b : List GrammarFault} → (rule.is_fragment ≡ true) ⊎ IsDataType g rule → Finds (λ f. f ≡ at_rule 3 rule) a b → Finds (IsFaultOf 3 (EntryMakesNoNode g)) a b
    found_no_node so = Finds-told (EntryMakesNoNode g) (λ f is. told_fault_of (EntryMakesNoNode g) rule.file rule.span rule.name is (either so)) no_node_from
      where
        either : (rule.is_fragment ≡ true) ⊎ IsDataType g rule → EntryMakesNoNode g rule.file rule.span rule.name
        either (inl is) = fragment_ first rule entry is
        either (inr is) = data_type first rule entry is

  -- ---- the size

  pub found_many : {a b : List GrammarFault} → 1024 < length g.rules + length g.terminals + action_count g → Finds (λ f. f ≡ fault 23 0 nowhere g.name) a b →
      Finds (IsFaultOf 23 (TooManyRules g)) a b
  found_many so = Finds-told (TooManyRules g) (λ f is. told_fault_of (TooManyRules g) 0 nowhere g.name is (too_many so)) from
    where
      from : (file : ℕ) (s : Span) (name : List ℕ) → TooManyRules g file s name → fault 23 file s name ≡ fault 23 0 nowhere g.name
      from _ _ _ (too_many _) = refl
