-- Grammars without an entry, with two, with one that makes no node, and those beside them.
use Rattle.std.proofs.Common.{◌≡◌, ◌<◌, ℕ, zero, suc, List, [], ◌∷◌, Some, true, codes, slice_get, refl, sym, ap, ◌∙◌, subst, arith, true≢false}
use Rattle.std.proofs.lemmas.Option.{none-some, same_Some}
use Rattle.lw_base.specs.declared.token.Span.{Span}
use Rattle.lw_grammar.specs.declared.grammar.Grammar.{Grammar}
use Rattle.lw_grammar.specs.declared.rule.Rule.{Rule}
use Rattle.lw_grammar.specs.Named.{IsEntry}
use Rattle.lw_faults.specs.Entries.{NoEntry, no_entry, SecondEntry, second_entry, EntryMakesNoNode}
use Rattle.lw_faults.specs.Entries as entries
use Rattle.lw_faults.specs.Worked.{StandsAlone, StandsNowhere, place, no_place, plain_rule, x_id, of_rules, alone, in_file, a_entry, b_entry, entry_fragment, id_element}
use Rattle.lw_grammar.proofs.Every.{first_here}
use Rattle.lw_faults.proofs.AloneLemmas.{the_rule, one_entry, one_no_id, only_one}
use Rattle.lw_faults.proofs.NodeLemmas.{puts_makes, id_makes_none}

-- ---- a rule alone

module _ (rule : Rule) where
  abbrev G : Grammar
  G = of_rules (rule ∷ [])

  only : (r : ℕ) (other : Rule) → slice_get G.rules r ≡ Some other → rule ≡ other
  only zero other at = same_Some rule other at
  only (suc r) other at = absurd (none-some other at)

  no_entry_alone : ¬ ((rule.is_entry ≡ true) × (rule.file ≡ 0)) → StandsAlone (NoEntry G) 0 no_place (codes "G")
  no_entry_alone none = (no_entry is_none, others)
    where
      is_none : (r : ℕ) (other : Rule) → ¬ IsEntry G r other
      is_none r other is = none (subst (λ (x : Rule). (x.is_entry ≡ true) × (x.file ≡ 0)) (sym (only r other is.there)) is.does)

      others : (f : ℕ) (t : Span) (n : List ℕ) → NoEntry G f t n → (f ≡ 0) × (t ≡ no_place) × (n ≡ codes "G")
      others f t n (no_entry _) = (refl, refl, refl)

pub none : StandsAlone (NoEntry (of_rules (plain_rule (codes "A") no_place x_id ∷ []))) 0 no_place (codes "G")
none = no_entry_alone (plain_rule (codes "A") no_place x_id) (λ is. true≢false (sym is.0))

pub imported : StandsAlone (NoEntry (of_rules (in_file 1 a_entry ∷ []))) 0 no_place (codes "G")
imported = no_entry_alone (in_file 1 a_entry) (λ is. omega (arith, is.1))

pub one : StandsNowhere (NoEntry (of_rules (a_entry ∷ [])))
one f t n (no_entry is_none) = is_none 0 a_entry (first_here (refl, refl))

-- ---- two entries

module _ (second : Rule) where
  abbrev Two : Grammar
  Two = of_rules (a_entry ∷ second ∷ [])

  first_is : IsEntry Two 0 a_entry
  first_is = first_here (refl, refl)

  at_second : (q r : ℕ) (rule : Rule) → q < r → slice_get Two.rules r ≡ Some rule → second ≡ rule
  at_second q zero rule below at = absurd (omega (arith, below))
  at_second q (suc zero) rule below at = same_Some second rule at
  at_second q (suc (suc r)) rule below at = absurd (none-some rule at)

pub two : StandsAlone (SecondEntry (of_rules (a_entry ∷ b_entry ∷ []))) 0 (place 31 32) (codes "B")
two = (second_entry 0 1 a_entry b_entry (first_is b_entry) (omega arith) refl refl refl, others)
  where
    others : (f : ℕ) (t : Span) (n : List ℕ) → SecondEntry (Two b_entry) f t n → (f ≡ 0) × (t ≡ place 31 32) × (n ≡ codes "B")
    others f t n (second_entry q r first rule is below at _ _) =
        let same = at_second b_entry q r rule below at in
        (sym (ap (λ (x : Rule). x.file) same), sym (ap (λ (x : Rule). x.span) same), sym (ap (λ (x : Rule). x.name) same))

pub one_imported : StandsNowhere (SecondEntry (of_rules (a_entry ∷ in_file 1 b_entry ∷ [])))
one_imported f t n (second_entry q r first rule is below at _ root) =
    let same = ap (λ (x : Rule). x.file) (at_second (in_file 1 b_entry) q r rule below at) in omega (arith, same, root)

-- ---- what the entry makes

pub text : StandsAlone (EntryMakesNoNode (alone id_element)) 0 (place 16 17) (codes "A")
text = (entries.data_type 0 (the_rule id_element) (one_entry id_element) (refl, id_makes_none (alone id_element) (the_rule id_element) refl (one_no_id id_element)), others)
  where
    its_place : (rule : Rule) → the_rule id_element ≡ rule → (rule.file ≡ 0) × (rule.span ≡ place 16 17) × (rule.name ≡ codes "A")
    its_place rule same = (sym (ap (λ (x : Rule). x.file) same), sym (ap (λ (x : Rule). x.span) same), sym (ap (λ (x : Rule). x.name) same))

    others : (f : ℕ) (t : Span) (n : List ℕ) → EntryMakesNoNode (alone id_element) f t n → (f ≡ 0) × (t ≡ place 16 17) × (n ≡ codes "A")
    others f t n (entries.fragment_ r rule is _) = its_place rule (only_one id_element r rule is.there)
    others f t n (entries.data_type r rule is _) = its_place rule (only_one id_element r rule is.there)

pub fragment_found : StandsAlone (EntryMakesNoNode (of_rules (entry_fragment ∷ []))) 0 (place 25 26) (codes "A")
fragment_found = (entries.fragment_ 0 entry_fragment (first_here (refl, refl)) refl, others)
  where
    its_place : (rule : Rule) → entry_fragment ≡ rule → (rule.file ≡ 0) × (rule.span ≡ place 25 26) × (rule.name ≡ codes "A")
    its_place rule same = (sym (ap (λ (x : Rule). x.file) same), sym (ap (λ (x : Rule). x.span) same), sym (ap (λ (x : Rule). x.name) same))

    others : (f : ℕ) (t : Span) (n : List ℕ) → EntryMakesNoNode (G entry_fragment) f t n → (f ≡ 0) × (t ≡ place 25 26) × (n ≡ codes "A")
    others f t n (entries.fragment_ r rule is _) = its_place rule (only entry_fragment r rule is.there)
    others f t n (entries.data_type r rule is _) = its_place rule (only entry_fragment r rule is.there)

pub node : StandsNowhere (EntryMakesNoNode (alone x_id))
node f t n (entries.fragment_ r rule is fragment) = true≢false (sym fragment ∙ sym (ap (λ (x : Rule). x.is_fragment) (only_one x_id r rule is.there)))
node f t n (entries.data_type r rule is text) =
    text.1 (puts_makes (alone x_id) rule (codes "x") (codes "ID") (sym (ap (λ (x : Rule). x.body) (only_one x_id r rule is.there))))
