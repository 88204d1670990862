-- The grammar of one rule: its entry, its names and its rules; and that nothing is in an empty list.
use Rattle.std.proofs.Common.{◌≡◌, ℕ, zero, suc, [], Some, Contains, codes, slice_get, refl, arith}
use Rattle.std.proofs.lemmas.Option.{none-some, same_Some}
use Rattle.lw_grammar.specs.declared.rule.Rule.{Rule}
use Rattle.lw_grammar.specs.declared.rule.Element.{Element}
use Rattle.lw_grammar.specs.Named.{IsRule, IsEntry, declared_rule, declared_terminal}
use Rattle.lw_faults.specs.Reads.{IsTokenCall}
use Rattle.lw_faults.specs.Worked.{place, entry_rule, alone}
use Rattle.lw_grammar.proofs.Every.{differ, first_here, meant, not_meant}

pub none_there : {X : Type 0} (x : X) → ¬ Contains [] x
none_there x (k, inside, is) = omega (arith, inside)

module _ (body : Element) where
  abbrev pub the_rule : Rule
  the_rule = entry_rule (codes "A") (place 16 17) body

  pub one_entry : IsEntry (alone body) 0 the_rule
  one_entry = first_here (refl, refl)

  pub one_named : IsRule (alone body) (codes "A") 0 the_rule
  one_named = meant declared_rule declared_terminal (codes "A") (alone body).rules (alone body).terminals 0 the_rule (first_here refl) (differ _ _ refl, tt)

  pub one_no_id : IsTokenCall (alone body) (codes "ID")
  one_no_id r rule = not_meant declared_rule declared_terminal (codes "ID") (alone body).rules (alone body).terminals r rule (differ _ _ refl, tt)

  pub only_one : (r : ℕ) (rule : Rule) → slice_get (alone body).rules r ≡ Some rule → the_rule ≡ rule
  only_one zero rule at = same_Some the_rule rule at
  only_one (suc r) rule at = absurd (none-some rule at)
