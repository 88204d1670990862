-- The rule that calls itself behind a fragment is left recursive where the fragment reads nothing, and else no rule is.
use Rattle.std.proofs.Common.{◌≡◌, ℕ, zero, suc, List, Some, codes, slice_get, Contains, ◌⊎◌, inl, inr, refl, sym, ap, subst, arith}
use Rattle.std.proofs.lemmas.Option.{none-some, same_Some}
use Rattle.lw_base.specs.declared.token.Span.{Span}
use Rattle.lw_grammar.specs.declared.grammar.Grammar.{Grammar}
use Rattle.lw_grammar.specs.declared.rule.Rule.{Rule}
use Rattle.lw_grammar.specs.declared.rule.Op.TheVariants.{One}
use Rattle.lw_grammar.specs.declared.rule.Element.{Element}
use Rattle.lw_grammar.specs.declared.rule.Element.TheVariants.{Call, Group, Maybe, outs-Keyword, outs-Call, outs-Assign, outs-Group, outs-Choice, outs-Maybe}
use Rattle.lw_grammar.specs.declared.rule.Value0.TheVariants as value
use Rattle.lw_grammar.specs.Named.{IsRule, IsEntry, declared_rule, declared_terminal}
use Rattle.lw_grammar.specs.Reached.{entry}
use Rattle.lw_grammar.proofs.FirstLemmas.{first_place}
use Rattle.lw_faults.specs.Reads.{IsTokenCall, MayRead, Leads, LeadsAll, ComesFirstTo, directly, over}
use Rattle.lw_faults.specs.Reads as read
use Rattle.lw_faults.specs.Derivations.{LeftRecursion, left_recursion}
use Rattle.lw_faults.specs.Worked.{StandsAlone, StandsNowhere, place, no_place, puts, fragment_rule, recursive_row, recursive_ways, recursive_rule, behind_fragment, left_recursive, right_recursive}
use Rattle.lw_grammar.proofs.Every.{differ, first_here, first_later, meant, not_meant}
use Rattle.lw_faults.proofs.ReadLemmas.{what_reads, can_read, what_leads, can_lead, what_value_leads, rule_reads}
use Rattle.lw_faults.proofs.WorkedReads.{puts_token, puts_leads, puts_can_lead}

module _ (body : Element) where
  abbrev G : Grammar
  G = behind_fragment body

  abbrev F : Rule
  F = fragment_rule (codes "F") no_place body

  a_named : IsRule G (codes "A") 0 recursive_rule
  a_named = meant declared_rule declared_terminal (codes "A") G.rules G.terminals 0 recursive_rule (first_here refl) (differ _ _ refl, tt)

  f_named : IsRule G (codes "F") 1 F
  f_named = meant declared_rule declared_terminal (codes "F") G.rules G.terminals 1 F (first_later (differ _ _ refl) (first_here refl)) (differ _ _ refl, tt)

  no_id : IsTokenCall G (codes "ID")
  no_id r rule = not_meant declared_rule declared_terminal (codes "ID") G.rules G.terminals r rule (differ _ _ refl, (differ _ _ refl, tt))

  -- the rule leads to the fragment, and to itself where the fragment reads nothing
  abbrev IsLed : List ℕ → Type 0
  IsLed name = (name ≡ codes "F") ⊎ ((name ≡ codes "A") × MayRead G body 0)

  row_leads : (name : List ℕ) → LeadsAll G recursive_row name → IsLed name
  row_leads name (read.first does) = inl (what_leads G (outs-Call (codes "F") no_place) does)
  row_leads name (read.later none (read.first does)) = inr (puts_leads G does, rule_reads G f_named (what_reads G (outs-Call (codes "F") no_place) none))
  row_leads name (read.later _ (read.later _ (read.first does))) = absurd (what_leads G (outs-Keyword (codes "x") no_place) does)
  row_leads name (read.later _ (read.later _ (read.later _ does))) = elim does [ ]

  a_leads : (name : List ℕ) → Leads G recursive_rule.body name → IsLed name
  a_leads name does = by (what_leads G (outs-Choice recursive_ways no_place) does)
    where
      by : (e : Element) × Contains recursive_ways e × Leads G e name → IsLed name
      by (e, (zero, inside, is), led) =
          absurd (what_value_leads G (value.outs-Keyword (codes "q") no_place)
          (what_leads G (outs-Assign (codes "v") One (value.Keyword (codes "q") no_place) no_place) (subst (λ x. Leads G x name) (sym is) led)))
      by (e, (suc zero, inside, is), led) = row_leads name (what_leads G (outs-Group recursive_row no_place) (subst (λ x. Leads G x name) (sym is) led))
      by (e, (suc (suc k), inside, is), led) = absurd (omega (arith, inside))

  module _ (to_id : (name : List ℕ) → Leads G body name → name ≡ codes "ID") where
    no_rule : (name : List ℕ) (r : ℕ) (rule : Rule) → name ≡ codes "ID" → ¬ IsRule G name r rule
    no_rule name r rule same is = no_id r rule (subst (λ n. IsRule G n r rule) same is)

    directly_led : (q r : ℕ) (caller rule : Rule) (name : List ℕ) → slice_get G.rules q ≡ Some caller → Leads G caller.body name → IsRule G name r rule →
        (q ≡ 0) × IsLed name
    directly_led zero r caller rule name at led is =
        (refl, a_leads name (subst (λ (x : Rule). Leads G x.body name) (sym (same_Some recursive_rule caller at)) led))
    directly_led (suc zero) r caller rule name at led is =
        absurd (no_rule name r rule (to_id name (subst (λ (x : Rule). Leads G x.body name) (sym (same_Some F caller at)) led)) is)
    directly_led (suc (suc q)) r caller rule name at led is = absurd (none-some caller at)

    comes_from_a : {q r : ℕ} → ComesFirstTo G q r → q ≡ 0
    comes_from_a {q} {r} (directly caller rule name at led is) = (directly_led q r caller rule name at led is).0
    comes_from_a (over first others) = comes_from_a first

    pub only_a : (file : ℕ) (s : Span) (name : List ℕ) → LeftRecursion G file s name → (file ≡ 0) × (s ≡ place 16 17) × (name ≡ codes "A")
    only_a file s name (left_recursion r rule within comes) =
        let is : recursive_rule ≡ rule = same_Some recursive_rule rule (subst (λ n. slice_get G.rules n ≡ Some rule) (comes_from_a comes) within.1) in
        (sym (ap (λ (x : Rule). x.file) is), sym (ap (λ (x : Rule). x.span) is), sym (ap (λ (x : Rule). x.name) is))

    -- where the fragment reads a token, the rule leads to the fragment alone
    module _ (reads_some : ¬ MayRead G body 0) where
      comes_to_f : {q r : ℕ} → ComesFirstTo G q r → (q ≡ 0) × (r ≡ 1)
      comes_to_f {q} {r} (directly caller rule name at led is) = by (directly_led q r caller rule name at led is)
        where
          by : (q ≡ 0) × IsLed name → (q ≡ 0) × (r ≡ 1)
          by (from, inl same) = (from, first_place (subst (λ n. IsRule G n r rule) same is).first f_named.first)
          by (from, inr (_, none)) = absurd (reads_some none)
      comes_to_f (over first others) = ((comes_to_f first).0, (comes_to_f others).1)

      pub none_is : StandsNowhere (LeftRecursion G)
      none_is file s name (left_recursion r rule within comes) = let both = comes_to_f comes in omega (arith, both.0, both.1)

  a_entry : IsEntry G 0 recursive_rule
  a_entry = first_here (refl, refl)

  pub a_is : MayRead G body 0 → LeftRecursion G 0 (place 16 17) (codes "A")
  a_is none = left_recursion 0 recursive_rule (entry recursive_rule a_entry, refl) (directly recursive_rule recursive_rule (codes "A") refl leads a_named)
    where
      f_none : MayRead G (Call (codes "F") no_place) 0
      f_none = can_read G (outs-Call (codes "F") no_place) (read.rule_ 1 F f_named none)

      two_parts : Leads G (Group recursive_row no_place) (codes "A")
      two_parts =
          can_lead G (outs-Group recursive_row no_place)
          (read.grouped (read.later f_none (read.first (puts_can_lead G (codes "a") (codes "A")))))

      leads : Leads G recursive_rule.body (codes "A")
      leads = can_lead G (outs-Choice recursive_ways no_place) (read.chosen (1, omega arith, refl) two_parts)

abbrev z_id : Element
z_id = puts (codes "z") (codes "ID")

optional_leads : (name : List ℕ) → Leads left_recursive (Maybe z_id no_place) name → name ≡ codes "ID"
optional_leads name does = puts_leads left_recursive (what_leads left_recursive (outs-Maybe z_id no_place) does)

pub found : StandsAlone (LeftRecursion left_recursive) 0 (place 16 17) (codes "A")
found = (
  a_is (Maybe z_id no_place) (can_read left_recursive (outs-Maybe z_id no_place) (inl refl)),
  only_a (Maybe z_id no_place) optional_leads,
)

pub not_found : StandsNowhere (LeftRecursion right_recursive)
not_found = none_is z_id (λ name does. puts_leads right_recursive does) reads_some
  where
    reads_some : ¬ MayRead right_recursive z_id 0
    reads_some none = let is = puts_token right_recursive (no_id z_id) none in omega (arith, is)
