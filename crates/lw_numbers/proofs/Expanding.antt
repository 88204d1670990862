-- Fragments put in: every list of leaves has an expansion, and what it has is what stands within the rule.
use Rattle.std.proofs.Common.{◌≡◌, ℕ, zero, suc, ◌<◌, ◌≤◌, List, [], ◌∷◌, ◌++◌, length, slice_get, Some, Contains, ◌⊎◌, ◌↔◌, inl, inr, sym, ap, ◌∙◌, subst, arith}
use Rattle.std.proofs.lemmas.Bool.{cases_eq}
use Rattle.std.proofs.lemmas.List.Elements.{Contains-append_left, Contains-append_right, Contains-append_cases}
use Rattle.std.proofs.lemmas.Option.{slice_get_within, same_Some}
use Rattle.lw_grammar.specs.declared.grammar.Grammar.{Grammar}
use Rattle.lw_grammar.specs.declared.rule.Rule.{Rule}
use Rattle.lw_grammar.specs.Leaves.{Leaf, Keyword, Call, Assign, Act, leaves, IsFragmentCall, Expands, HasLeaves}
use Rattle.lw_grammar.specs.Leaves as expand
use Rattle.lw_base.proofs.Lists.{there}
use Rattle.lw_grammar.proofs.FirstLemmas.{first_place, first_item}
use Rattle.lw_numbers.specs.PutIn.{HeldWithin, here, put_in}
use Rattle.lw_numbers.proofs.Deciding.{CallsFragment, cases_fragment}
use Rattle.lw_base.proofs.Lists.{below_has, first_or_later, numbers_below, the_first, without}

module _ (g : Grammar) where
  -- a fragment that is called is a rule of its number
  pub fragment_there : (leaf : Leaf) (f : ℕ) (fragment : Rule) → IsFragmentCall g leaf f fragment → slice_get g.rules f ≡ Some fragment
  fragment_there (Keyword text s) f fragment is = absurd is
  fragment_there (Call name s) f fragment is = is.0.first.there
  fragment_there (Assign p op v s) f fragment is = absurd is
  fragment_there (Act a) f fragment is = absurd is

  -- ---- every list has an expansion

  abbrev HasExpansion : List ℕ → List Leaf → Type 0
  HasExpansion entered ls = (all : List Leaf) × Expands g entered ls all

  cases_entered : (entered : List ℕ) (r : ℕ) → Contains entered r ⊎ (¬ Contains entered r)
  cases_entered [] r = inr (λ has. omega (arith, has.1))
  cases_entered (x ∷ entered) r = by (cases_eq x r) (cases_entered entered r)
    where
      by : (x ≡ r) ⊎ (x ≡ r → ⊥) → Contains entered r ⊎ (¬ Contains entered r) → Contains (x ∷ entered) r ⊎ (¬ Contains (x ∷ entered) r)
      by (inl same) rest = inl (subst (Contains (x ∷ entered)) same (the_first x entered))
      by (inr other) (inl later) = inl (there x entered r later)
      by (inr other) (inr none) = inr (λ has. elim (first_or_later x entered has) [ inl same ↦ other same | inr later ↦ none later ])

  -- where each list has one with one fragment more open
  with_more : (entered : List ℕ) → ((f : ℕ) → f < length g.rules → ¬ Contains entered f → (ls : List Leaf) → HasExpansion (f ∷ entered) ls) →
      (ls : List Leaf) → HasExpansion entered ls
  with_more entered more [] = ([], expand.nothing)
  with_more entered more (leaf ∷ ls) = by (cases_fragment g leaf) (with_more entered more ls)
    where
      by : CallsFragment g leaf → HasExpansion entered ls → HasExpansion entered (leaf ∷ ls)
      by (inr none) (all, is) = (leaf ∷ all, expand.kept none is)
      by (inl (f, fragment, calls)) (all, is) = elim (cases_entered entered f) [
        | inl begun ↦ (all, expand.looped f fragment calls begun is)
        | inr fresh ↦
            let inside = more f (slice_get_within g.rules f fragment (fragment_there leaf f fragment calls)) fresh (leaves fragment.body) in
            (inside.0 ++ all, expand.put_in f fragment calls fresh inside.1 is)
      ]

  -- spare has the numbers of all rules that are not open
  with_spare : (n : ℕ) (entered spare : List ℕ) → length spare ≤ n → ((f : ℕ) → f < length g.rules → Contains entered f ⊎ Contains spare f) →
      (ls : List Leaf) → HasExpansion entered ls
  with_spare zero entered spare few covers = with_more entered (λ f is_rule fresh ls. elim (covers f is_rule) [
    | inl begun ↦ absurd (fresh begun)
    | inr (k, inside, is) ↦ absurd (omega arith)
  ])
  with_spare (suc n) entered spare few covers = with_more entered (λ f is_rule fresh ls. elim (covers f is_rule) [
    | inl begun ↦ absurd (fresh begun)
    | inr has ↦
        let less = without spare f has in
        with_spare n (f ∷ entered) less.0 (omega (arith, less.1)) (λ q is_q. elim (covers q is_q) [
          | inl begun ↦ inl (there f entered q begun)
          | inr still ↦ elim (less.2 q still) [
            | inl same ↦ inl (subst (Contains (f ∷ entered)) (sym same) (the_first f entered))
            | inr left ↦ inr left
          ]
        ]) ls
  ])

  pub has_expansion : (entered : List ℕ) (ls : List Leaf) → (all : List Leaf) × Expands g entered ls all
  has_expansion entered ls =
      with_spare (length (numbers_below (length g.rules))) entered (numbers_below (length g.rules)) (omega arith) (λ f is_rule. inr (below_has (length g.rules) f is_rule)) ls

  pub has_leaves : (rule : Rule) → (all : List Leaf) × HasLeaves g rule all
  has_leaves rule = has_expansion [] (leaves rule.body)

  -- ---- what an expansion has stands within

  abbrev IsKept : Leaf → Type 0
  IsKept leaf = (f : ℕ) (fragment : Rule) → ¬ IsFragmentCall g leaf f fragment

  -- of a list of leaves: the leaf is one of them, or stands within a fragment that one of them calls
  abbrev StandsAmong : List Leaf → Leaf → Type 0
  StandsAmong ls leaf =
      (Contains ls leaf × IsKept leaf)
      ⊎ ((call : Leaf) × (f : ℕ) × (fragment : Rule) × Contains ls call × IsFragmentCall g call f fragment × HeldWithin g fragment leaf)

  to_within : (rule : Rule) (leaf : Leaf) → StandsAmong (leaves rule.body) leaf → HeldWithin g rule leaf
  to_within rule leaf (inl is) = here is.0 is.1
  to_within rule leaf (inr (call, f, fragment, has, calls, inside)) = put_in call f fragment has calls inside

  later_among : (first : Leaf) (ls : List Leaf) (leaf : Leaf) → StandsAmong ls leaf → StandsAmong (first ∷ ls) leaf
  later_among first ls leaf (inl is) = inl (there first ls leaf is.0, is.1)
  later_among first ls leaf (inr (call, f, fragment, has, calls, inside)) = inr (call, f, fragment, there first ls call has, calls, inside)

  from_expansion : {entered : List ℕ} {ls all : List Leaf} (found : Leaf) → Expands g entered ls all → Contains all found → StandsAmong ls found
  from_expansion found expand.nothing has = absurd (omega (arith, has.1))
  from_expansion found (expand.kept {entered} {leaf} {ls} {all} none more) has = elim (first_or_later leaf all has) [
    | inl same ↦ inl (subst (Contains (leaf ∷ ls)) same (the_first leaf ls), subst IsKept same none)
    | inr later ↦ later_among leaf ls found (from_expansion found more later)
  ]
  from_expansion found (expand.put_in {entered} {leaf} {ls} {inside} {all} f fragment calls fresh within more) has = elim (Contains-append_cases inside all found has) [
    | inl in_it ↦ inr (leaf, f, fragment, the_first leaf ls, calls, to_within fragment found (from_expansion found within in_it))
    | inr later ↦ later_among leaf ls found (from_expansion found more later)
  ]
  from_expansion found (expand.looped {entered} {leaf} {ls} {all} f fragment calls begun more) has =
      later_among leaf ls found (from_expansion found more has)

  -- ---- what stands within is in an expansion

  -- in at most so many steps, and none of the fragments on the way is open
  data StandsApart : List ℕ → ℕ → Rule → Leaf → Type 0 where
    at_once : {entered : List ℕ} {n : ℕ} {rule : Rule} {leaf : Leaf} → Contains (leaves rule.body) leaf → IsKept leaf → StandsApart entered n rule leaf
    over : {entered : List ℕ} {n : ℕ} {rule : Rule} {leaf : Leaf} (call : Leaf) (f : ℕ) (fragment : Rule) → Contains (leaves rule.body) call →
        IsFragmentCall g call f fragment → ¬ Contains entered f → StandsApart entered n fragment leaf → StandsApart entered (suc n) rule leaf

  longer : {entered : List ℕ} {n : ℕ} {rule : Rule} {leaf : Leaf} → StandsApart entered n rule leaf → StandsApart entered (suc n) rule leaf
  longer (at_once has kept) = at_once has kept
  longer (over call f fragment has calls fresh inside) = over call f fragment has calls fresh (longer inside)

  all_apart : {rule : Rule} {leaf : Leaf} → HeldWithin g rule leaf → (n : ℕ) × StandsApart [] n rule leaf
  all_apart (here has kept) = (0, at_once has kept)
  all_apart (put_in call f fragment has calls inside) =
      let rest = all_apart inside in (suc rest.0, over call f fragment has calls (λ has. omega (arith, has.1)) rest.1)

  -- behind the last time that the way comes to f, or where it never does, it keeps away from it
  cut_at : (f : ℕ) (fragment : Rule) → slice_get g.rules f ≡ Some fragment → {entered : List ℕ} {n : ℕ} {rule : Rule} {leaf : Leaf} →
      StandsApart entered n rule leaf → StandsApart (f ∷ entered) n rule leaf ⊎ StandsApart (f ∷ entered) n fragment leaf
  cut_at f fragment at (at_once has kept) = inl (at_once has kept)
  cut_at f fragment at {entered} {rule = rule} {leaf = leaf} (over {n = m} call q other has calls fresh inside) = by (cut_at f fragment at inside) (cases_eq f q)
    where
      by : StandsApart (f ∷ entered) m other leaf ⊎ StandsApart (f ∷ entered) m fragment leaf → (f ≡ q) ⊎ (f ≡ q → ⊥) →
          StandsApart (f ∷ entered) (suc m) rule leaf ⊎ StandsApart (f ∷ entered) (suc m) fragment leaf
      by (inr cut) which = inr (longer cut)
      by (inl rest) (inl same) =
          let is : other ≡ fragment = same_Some other fragment (sym (fragment_there call q other calls) ∙ ap (λ n. slice_get g.rules n) (sym same) ∙ at) in
          inr (longer (subst (λ (x : Rule). StandsApart (f ∷ entered) m x leaf) is rest))
      by (inl rest) (inr differs) =
          inl (over call q other has calls (λ begun. elim (first_or_later f entered begun) [ inl same ↦ differs same | inr later ↦ fresh later ]) rest)

  -- no fragment twice on the way, and none that is open
  data StandsOnce : List ℕ → List Leaf → Leaf → Type 0 where
    plain : {entered : List ℕ} {ls : List Leaf} {leaf : Leaf} → Contains ls leaf → IsKept leaf → StandsOnce entered ls leaf
    through : {entered : List ℕ} {ls : List Leaf} {leaf : Leaf} (call : Leaf) (f : ℕ) (fragment : Rule) → Contains ls call → IsFragmentCall g call f fragment →
        ¬ Contains entered f → StandsOnce (f ∷ entered) (leaves fragment.body) leaf → StandsOnce entered ls leaf

  apart_once : (n : ℕ) {m : ℕ} {entered : List ℕ} {rule : Rule} {leaf : Leaf} → m ≤ n → StandsApart entered m rule leaf → StandsOnce entered (leaves rule.body) leaf
  apart_once n few (at_once has kept) = plain has kept
  apart_once zero few (over call f fragment has calls fresh inside) = absurd (omega arith)
  apart_once (suc n) few (over call f fragment has calls fresh inside) = through call f fragment has calls fresh (elim (cut_at f fragment (fragment_there call f fragment calls) inside) [
    | inl rest ↦ apart_once n (omega arith) rest
    | inr rest ↦ apart_once n (omega arith) rest
  ])

  one_fragment : (leaf : Leaf) (f q : ℕ) (fragment other : Rule) → IsFragmentCall g leaf f fragment → IsFragmentCall g leaf q other → (f ≡ q) × (fragment ≡ other)
  one_fragment (Keyword text s) f q fragment other is was = absurd is
  one_fragment (Call name s) f q fragment other is was = (first_place is.0.first was.0.first, first_item is.0.first was.0.first)
  one_fragment (Assign p op v s) f q fragment other is was = absurd is
  one_fragment (Act a) f q fragment other is was = absurd is

  -- past the first of a list
  abbrev Past : List ℕ → Leaf → List Leaf → Leaf → Type 0
  Past entered first ls leaf = StandsOnce entered ls leaf ⊎ ((first ≡ leaf) × IsKept leaf)
      ⊎ ((f : ℕ) × (fragment : Rule) × IsFragmentCall g first f fragment × (¬ Contains entered f) × StandsOnce (f ∷ entered) (leaves fragment.body) leaf)

  cases_once : {entered : List ℕ} {leaf : Leaf} (first : Leaf) (ls : List Leaf) → StandsOnce entered (first ∷ ls) leaf → Past entered first ls leaf
  cases_once first ls (plain has kept) = elim (first_or_later first ls has) [
    | inl same ↦ inr (inl (same, kept))
    | inr later ↦ inl (plain later kept)
  ]
  cases_once {entered} {leaf} first ls (through call f fragment has calls fresh inside) = elim (first_or_later first ls has) [
    | inl same ↦ inr (inr (f, fragment, subst (λ l. IsFragmentCall g l f fragment) (sym same) calls, fresh, inside))
    | inr later ↦ inl (through call f fragment later calls fresh inside)
  ]

  none_once : {entered : List ℕ} {leaf : Leaf} → ¬ StandsOnce entered [] leaf
  none_once (plain has kept) = omega (arith, has.1)
  none_once (through call f fragment has calls fresh inside) = omega (arith, has.1)

  in_expansion : {entered : List ℕ} {ls all : List Leaf} (found : Leaf) → Expands g entered ls all → StandsOnce entered ls found → Contains all found
  in_expansion found expand.nothing once = absurd (none_once once)
  in_expansion found (expand.kept {entered} {leaf} {ls} {all} none more) once = elim (cases_once leaf ls once) [
    | inl later ↦ there leaf all found (in_expansion found more later)
    | inr (inl (same, kept)) ↦ subst (Contains (leaf ∷ all)) same (the_first leaf all)
    | inr (inr (f, fragment, calls, fresh, inside)) ↦ absurd (none f fragment calls)
  ]
  in_expansion found (expand.put_in {entered} {leaf} {ls} {inside} {all} f fragment calls fresh within more) once = elim (cases_once leaf ls once) [
    | inl later ↦ Contains-append_right inside all found (in_expansion found more later)
    | inr (inl (same, kept)) ↦ absurd (kept f fragment (subst (λ l. IsFragmentCall g l f fragment) same calls))
    | inr (inr (q, other, calls', fresh', behind)) ↦
        let is = one_fragment leaf q f other fragment calls' calls in
        let first = subst (λ (x : Rule). StandsOnce (q ∷ entered) (leaves x.body) found) is.1 behind in
        let second = subst (λ n. StandsOnce (n ∷ entered) (leaves fragment.body) found) is.0 first in
        Contains-append_left inside all found (in_expansion found within second)
  ]
  in_expansion found (expand.looped {entered} {leaf} {ls} {all} f fragment calls begun more) once = elim (cases_once leaf ls once) [
    | inl later ↦ in_expansion found more later
    | inr (inl (same, kept)) ↦ absurd (kept f fragment (subst (λ l. IsFragmentCall g l f fragment) same calls))
    | inr (inr (q, other, calls', fresh', behind)) ↦
        absurd (fresh' (subst (Contains entered) (one_fragment leaf f q fragment other calls calls').0 begun))
  ]

  -- a rule's leaves, fragments put in, are those that stand within it
  pub leaves_within : (rule : Rule) (all : List Leaf) → HasLeaves g rule all → (leaf : Leaf) → Contains all leaf ↔ HeldWithin g rule leaf
  leaves_within rule all is leaf = (
    λ has. to_within rule leaf (from_expansion leaf is has),
    λ within. let way = all_apart within in in_expansion leaf is (apart_once way.0 (omega arith) way.1),
  )
