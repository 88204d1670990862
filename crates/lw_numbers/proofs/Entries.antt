-- The entries of a grammar's name rules: a look-up, entries that are put in, and the rules one after another.
use Rattle.std.proofs.Common.{◌≡◌, ℕ, Bor, List, [], ◌∷◌, ◌++◌, Option, Some, None, MatchOption, Contains, slice_get, bytes_eq, ◌⊎◌, inl, inr, refl, sym, ap, ◌∙◌, subst, position, length, get_or}
use Rattle.std.proofs.lemmas.List.Quantifiers.{position-Some}
use Rattle.std.proofs.lemmas.Option.{same_Some, slice_get-get_or}
use Rattle.std.proofs.lemmas.Slice.Eq.{bytes_eq-Decides}
use Rattle.std.specs.Map.{lookup}
use Rattle.std.specs.Option.{option_copied}
use Rattle.lw_grammar.specs.declared.grammar.Grammar.{Grammar}
use Rattle.lw_grammar.specs.declared.rule.Rule.{Rule}
use Rattle.lw_grammar.specs.declared.rule.RuleResult.{RuleResult}
use Rattle.lw_grammar.specs.declared.rule.RuleResult.TheVariants.{Own, Returns, Gives, Infers}
use Rattle.lw_grammar.specs.Named.{IsFirst}
use Rattle.lw_grammar.specs.NameRules.{NamesNodesOf, IsNameRule}
use Rattle.lw_grammar.specs.Subtypes.{HasType, ResultNames, IsSubtype, same}
use Rattle.lw_numbers.proofs.StandingSteps.{first_stays, first_new, old_or_new}
use Rattle.lw_base.proofs.Lists.{has_at}
use Rattle.lw_numbers.specs.Kinship.{TypeTable, AreSubtypesOf, StandsBelow, below}
use Rattle.lw_numbers.specs.Kinship as kin
use Rattle.lw_numbers.specs.NameTable.{AreNameRulesOf, NamesBy, IsPut, PutsNames, PutsRule, IsNumberedIn}

-- what is lent from where it is found
module _ {A : Type 0} (none : Type 0) (some : A → Type 0) where
  pub found_at : (found : Option (Bor A)) (there : Option A) → option_copied found ≡ there → MatchOption there none some → MatchOption found none (λ x. some x.now)
  found_at None there is says = subst (λ o. MatchOption o none some) (sym is) says
  found_at (Some x) there is says = subst (λ o. MatchOption o none some) (sym is) says

-- ---- entries that are put in

put_as : (one other : Type 0) (called : List ℕ) (old new : Option (List ℕ)) → (one → other) → (other → one) → IsPut one called old new → IsPut other called old new
put_as one other called None None to from is = λ passes. is (from passes)
put_as one other called None (Some now) to from is = (is.0, to is.1)
put_as one other called (Some was) new to from is = is

put_both : (one other : Type 0) (called : List ℕ) (old mid new : Option (List ℕ)) → IsPut one called old mid → IsPut other called mid new → IsPut (one ⊎ other) called old new
put_both one other called None None None first then = λ passes. elim passes [ inl p ↦ first p | inr q ↦ then q ]
put_both one other called None None (Some now) first then = (then.0, inr then.1)
put_both one other called None (Some x) new first then = subst (λ o. IsPut (one ⊎ other) called None o) (sym then) (first.0, inl first.1)
put_both one other called (Some was) mid new first then = subst (λ o. IsPut other called o new) first then

module _ (called : List ℕ) where
  pub puts_as : (one other : List ℕ → Type 0) (old new : List (List ℕ × List ℕ)) → ((wanted : List ℕ) → one wanted → other wanted) →
      ((wanted : List ℕ) → other wanted → one wanted) → PutsNames one called old new → PutsNames other called old new
  puts_as one other old new to from puts wanted =
      put_as (one wanted) (other wanted) called (lookup (bytes_eq wanted) old) (lookup (bytes_eq wanted) new) (to wanted) (from wanted) (puts wanted)

  -- one after the other
  pub puts_then : (one other : List ℕ → Type 0) (old mid new : List (List ℕ × List ℕ)) → PutsNames one called old mid → PutsNames other called mid new →
      PutsNames (λ wanted. one wanted ⊎ other wanted) called old new
  puts_then one other old mid new first then wanted =
      put_both (one wanted) (other wanted) called (lookup (bytes_eq wanted) old) (lookup (bytes_eq wanted) mid) (lookup (bytes_eq wanted) new) (first wanted) (then wanted)

-- ---- a type and those that it is below

-- what is found by its place stands there
text_at : (texts : List (List ℕ)) (text : List ℕ) (i : ℕ) → position (bytes_eq text) texts ≡ Some i → slice_get texts i ≡ Some text
text_at texts text i is =
    let found = position-Some (bytes_eq text) texts i text is in
    slice_get-get_or texts i text found.0 ∙ ap Some (sym ((bytes_eq-Decides text (get_or texts i text)).0 found.1))

cases_below : (table : TypeTable) {one other : List ℕ} → StandsBelow table one other →
    (one ≡ other)
    ⊎ ((i : ℕ) × (j : ℕ) × (ups : List ℕ) × (slice_get table.names i ≡ Some one) × (slice_get table.names j ≡ Some other) × (slice_get table.above i ≡ Some ups)
    × Contains ups j)
cases_below table kin.same = inl refl
cases_below table (below i j ups here there at has) = inr (i, j, ups, here, there, at, has)

module _ (g : Grammar) (table : TypeTable) (are : AreSubtypesOf g table) (own : List ℕ) where
  -- a type with no number is below none
  pub below_itself : ((i : ℕ) → ¬ (slice_get table.names i ≡ Some own)) → (wanted : List ℕ) → IsSubtype g own wanted → own ≡ wanted
  below_itself none wanted is = elim (cases_below table ((are.exact own wanted).0 is)) [
    | inl itself ↦ itself
    | inr (i, j, ups, here, there, at, has) ↦ absurd (none i here)
  ]

  module _ (number : ℕ) (ups : List ℕ) (at : slice_get table.above number ≡ Some ups) where
    -- one with a number of its own is below those that this number's row tells
    pub itself_or_above : ((i : ℕ) → slice_get table.names i ≡ Some own → i ≡ number) → (wanted : List ℕ) → IsSubtype g own wanted →
        (own ≡ wanted) ⊎ IsNumberedIn table.names ups wanted
    itself_or_above only wanted is = elim (cases_below table ((are.exact own wanted).0 is)) [
      | inl itself ↦ inl itself
      | inr (i, j, others, here, there, found, has) ↦
          let is_ups : others ≡ ups = same_Some others ups (sym found ∙ ap (λ n. slice_get table.above n) (only i here) ∙ at) in
          inr (j, subst (λ ns. Contains ns j) is_ups has, there)
    ]

    pub numbered_above : position (bytes_eq own) table.names ≡ Some number → (wanted : List ℕ) → (own ≡ wanted) ⊎ IsNumberedIn table.names ups wanted →
        IsSubtype g own wanted
    numbered_above numbered wanted (inl is) = subst (IsSubtype g own) is same
    numbered_above numbered wanted (inr (j, has, there)) =
        (are.exact own wanted).1 (below number j ups (text_at table.names own number numbered) there at has)

-- ---- what one rule puts in

one_result : (g : Grammar) (result : RuleResult) (name a b : List ℕ) → ResultNames g result name a → ResultNames g result name b → a ≡ b
one_result g Own name a b is was = is ∙ sym was
one_result g (Returns type_name s) name a b is was = is ∙ sym was
one_result g (Gives primitive) name a b is was = absurd is
one_result g (Infers type_name s) name a b is was = is ∙ sym was

module _ (g : Grammar) (rule : Rule) where
  abbrev HasNone : List ℕ → Type 0
  HasNone wanted = (called : List ℕ) → ¬ NamesNodesOf g wanted called rule

  abbrev IsPutBy : List ℕ → Option (List ℕ) → Option (List ℕ) → Type 0
  IsPutBy wanted old new = MatchOption old (MatchOption new (HasNone wanted) (λ called. NamesNodesOf g wanted called rule)) (λ was. new ≡ Some was)

  stays_by : (wanted : List ℕ) (o : Option (List ℕ)) → HasNone wanted → IsPutBy wanted o o
  stays_by wanted None none = none
  stays_by wanted (Some was) none = refl

  pub puts_untyped : (entries : List (List ℕ × List ℕ)) → ((own : List ℕ) → ¬ HasType g rule own) → PutsRule g rule entries entries
  puts_untyped entries none wanted = stays_by wanted (lookup (bytes_eq wanted) entries) (λ called is. none is.0 is.1)

  pub puts_nameless : (entries : List (List ℕ × List ℕ)) → ((called : List ℕ) → ¬ NamesBy g rule called) → PutsRule g rule entries entries
  puts_nameless entries none wanted = stays_by wanted (lookup (bytes_eq wanted) entries) (λ called is. none called (is.3, is.4, is.5))

  module _ (own called : List ℕ) (typed : HasType g rule own) (names : NamesBy g rule called) where
    by_type : (wanted : List ℕ) (old new : Option (List ℕ)) → IsPut (IsSubtype g own wanted) called old new → IsPutBy wanted old new
    by_type wanted None None not = λ other is. not (subst (λ name. IsSubtype g name wanted) (one_result g rule.result rule.name is.0 own is.1.1 typed.1) is.2)
    by_type wanted None (Some now) (is, below_it) =
        subst (λ name. NamesNodesOf g wanted name rule) (sym is) (own, typed, below_it, names.0, names.1, names.2)
    by_type wanted (Some was) new is = is

    pub puts_named : (old new : List (List ℕ × List ℕ)) → PutsNames (IsSubtype g own) called old new → PutsRule g rule old new
    puts_named old new puts wanted = by_type wanted (lookup (bytes_eq wanted) old) (lookup (bytes_eq wanted) new) (puts wanted)

-- ---- the rules one after another

module _ (g : Grammar) where
  abbrev NamesSome : List ℕ → Rule → Type 0
  NamesSome wanted x = (name : List ℕ) × NamesNodesOf g wanted name x

  -- the entry of a type, by these rules alone
  abbrev pub IsEntry : List Rule → List ℕ → Option (List ℕ) → Type 0
  IsEntry rules wanted entry =
      MatchOption entry ((x : Rule) → Contains rules x → ¬ NamesSome wanted x)
      (λ called. (number : ℕ) × (rule : Rule) × IsFirst (NamesSome wanted) rules number rule × NamesNodesOf g wanted called rule)

  abbrev pub AreNameRulesAmong : List Rule → List (List ℕ × List ℕ) → Type 0
  AreNameRulesAmong rules entries = (wanted : List ℕ) → IsEntry rules wanted (lookup (bytes_eq wanted) entries)

  module _ (rules : List Rule) (x : Rule) where
    one_more : (wanted : List ℕ) (old new : Option (List ℕ)) → IsEntry rules wanted old → IsPutBy g x wanted old new → IsEntry (rules ++ x ∷ []) wanted new
    one_more wanted None None none put = λ y has named. elim (old_or_new rules x y has) [
      | inl was ↦ none y was named
      | inr is ↦ let there : NamesSome wanted x = subst (NamesSome wanted) (sym is) named in put there.0 there.1
    ]
    one_more wanted None (Some called) none put = (length rules, x, first_new {passes = NamesSome wanted} rules x none (called, put), put)
    one_more wanted (Some was) new (number, rule, first, names) put =
        subst (IsEntry (rules ++ x ∷ []) wanted) (sym put) (number, rule, first_stays {passes = NamesSome wanted} rules (x ∷ []) number rule first, names)

    pub among_more : (old new : List (List ℕ × List ℕ)) → AreNameRulesAmong rules old → PutsRule g x old new → AreNameRulesAmong (rules ++ x ∷ []) new
    among_more old new among puts wanted = one_more wanted (lookup (bytes_eq wanted) old) (lookup (bytes_eq wanted) new) (among wanted) (puts wanted)

  among_all : (wanted : List ℕ) (entry : Option (List ℕ)) → IsEntry g.rules wanted entry →
      MatchOption entry ((called : List ℕ) → ¬ IsNameRule g wanted called) (IsNameRule g wanted)
  among_all wanted None none = λ called is. none is.rule (has_at g.rules is.number is.rule is.first.there) (called, is.names)
  among_all wanted (Some called) (number, rule, first, names) = record { number = number; rule = rule; first = first; names = names }

  pub are_name_rules : (entries : List (List ℕ × List ℕ)) → AreNameRulesAmong g.rules entries → AreNameRulesOf g entries
  are_name_rules entries among wanted = among_all wanted (lookup (bytes_eq wanted) entries) (among wanted)
