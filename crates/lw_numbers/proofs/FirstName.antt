-- A search for a name that looks into each fragment once finds the first name of the leaves with fragments put in, although these
-- have a fragment's leaves again at each of its calls.
use Rattle.std.proofs.Common.{◌≡◌, ℕ, List, [], ◌∷◌, ◌++◌, Option, Some, None, MatchOption, codes, slice_get, Contains, refl, sym, ap, ◌∙◌, subst, inl, inr, ◌⊎◌, arith, eqb}
use Rattle.std.specs.Set.{is_member}
use Rattle.std.proofs.lemmas.Bool.{cases_Bool, cases_eq}
use Rattle.std.proofs.lemmas.Bool.Decides.{Decides-eqb, not_from_Decides}
use Rattle.std.proofs.lemmas.Map.Made.{is_member-Decides}
use Rattle.std.proofs.lemmas.List.{append-nil}
use Rattle.std.proofs.lemmas.List.Elements.{Contains-append_left, Contains-push, Contains-push_cases}
use Rattle.std.proofs.lemmas.Option.{same_Some}
use Rattle.lw_grammar.specs.declared.grammar.Grammar.{Grammar}
use Rattle.lw_grammar.specs.declared.rule.Op.{Op}
use Rattle.lw_grammar.specs.declared.rule.Op.TheVariants.{One, Add, Flag}
use Rattle.lw_grammar.specs.declared.rule.Rule.{Rule}
use Rattle.lw_grammar.specs.declared.rule.Value0.{Value0, out-Value0}
use Rattle.lw_grammar.specs.declared.rule.Value0.TheOpen as value
use Rattle.lw_grammar.specs.declared.rule.Value0.TheOpen.{Value0-F}
use Rattle.lw_grammar.specs.Leaves.{Leaf, Keyword, Call, Assign, Act, leaves, IsFragmentCall, Expands, HasLeaves, nothing, kept, put_in, looped}
use Rattle.lw_grammar.specs.NameRules.{Names, IsCallOf, FirstNames, here, later}
use Rattle.lw_grammar.proofs.FirstLemmas.{first_place, first_item}
use Rattle.lw_base.proofs.Lists.{there}
use Rattle.lw_grammar.proofs.Every.{Every}
use Rattle.lw_numbers.proofs.Deciding.{cases_text}
use Rattle.lw_base.proofs.Lists.{first_or_later}
use Rattle.lw_numbers.specs.Searching.{NamesNone, FindsName, ends, names, passes, enters, skips}

-- ---- the name that one leaf calls

call_of : (v : Value0-F Value0) → ((called : List ℕ) × IsCallOf v called) ⊎ ((called : List ℕ) → ¬ IsCallOf v called)
call_of (value.Call name s) = inl (name, refl)
call_of (value.Keyword text s) = inr (λ called is. is)
call_of (value.Cross wanted rule s) = inr (λ called is. is)
call_of (value.Choice parts s) = inr (λ called is. is)

one_call : (v : Value0-F Value0) (a b : List ℕ) → IsCallOf v a → IsCallOf v b → a ≡ b
one_call (value.Call name s) a b is was = is ∙ sym was
one_call (value.Keyword text s) a b is was = absurd is
one_call (value.Cross wanted rule s) a b is was = absurd is
one_call (value.Choice parts s) a b is was = absurd is

is_one : (op : Op) → (op ≡ One) ⊎ ¬ (op ≡ One)
is_one One = inl refl
is_one Add = inr (λ same. cc)
is_one Flag = inr (λ same. cc)

is_in : (xs : List ℕ) (x : ℕ) → Contains xs x ⊎ ¬ Contains xs x
is_in xs x =
    let decides = is_member-Decides Decides-eqb xs x in
    elim (cases_Bool (is_member eqb xs x)) [ inl is ↦ inl (decides.0 is) | inr not ↦ inr (not_from_Decides (is_member eqb xs x) decides not) ]

named : (leaf : Leaf) → ((called : List ℕ) × Names leaf called) ⊎ NamesNone leaf
named (Assign p op v s) = elim (cases_text p (codes "name")) [
  | inl is ↦ elim (is_one op) [
    | inl one ↦ elim (call_of (out-Value0 v)) [
      | inl call ↦ inl (call.0, (is, one, call.1))
      | inr none ↦ inr (λ called names. none called names.2)
    ]
    | inr other ↦ inr (λ called names. other names.1)
  ]
  | inr other ↦ inr (λ called names. other names.0)
]
named (Keyword text s) = inr (λ called is. is)
named (Call name s) = inr (λ called is. is)
named (Act a) = inr (λ called is. is)

one_name : (leaf : Leaf) (a b : List ℕ) → Names leaf a → Names leaf b → a ≡ b
one_name (Assign p op v s) a b is was = one_call (out-Value0 v) a b is.2 was.2
one_name (Keyword text s) a b is was = absurd is
one_name (Call name s) a b is was = absurd is
one_name (Act x) a b is was = absurd is

-- ---- the first name of leaves that stand in a row

abbrev pub NoneNamed : List Leaf → Type 0
NoneNamed ls = (called : List ℕ) → ¬ FirstNames ls called

none_behind : {leaf : Leaf} {ls : List Leaf} → NamesNone leaf → NoneNamed ls → NoneNamed (leaf ∷ ls)
none_behind not none called (here is) = not called is
none_behind not none called (later other more) = none called more

none_in_both : (xs ys : List Leaf) → NoneNamed xs → NoneNamed ys → NoneNamed (xs ++ ys)
none_in_both [] ys none nor called is = nor called is
none_in_both (leaf ∷ xs) ys none nor called (here is) = none called (here is)
none_in_both (leaf ∷ xs) ys none nor called (later not more) = none_in_both xs ys (λ c is. none c (later not is)) nor called more

first_left : {xs : List Leaf} (ys : List Leaf) {called : List ℕ} → FirstNames xs called → FirstNames (xs ++ ys) called
first_left ys (here is) = here is
first_left ys (later not more) = later not (first_left ys more)

first_right : (xs : List Leaf) {ys : List Leaf} {called : List ℕ} → NoneNamed xs → FirstNames ys called → FirstNames (xs ++ ys) called
first_right [] none is = is
first_right (leaf ∷ xs) none is =
    let not : NamesNone leaf = λ c names. none c (here names) in later not (first_right xs (λ c more. none c (later not more)) is)

module _ (g : Grammar) where
  one_fragment : (leaf : Leaf) (r q : ℕ) (rule other : Rule) → IsFragmentCall g leaf r rule → IsFragmentCall g leaf q other → (r ≡ q) × (rule ≡ other)
  one_fragment (Call name s) r q rule other is was = (first_place is.0.first was.0.first, first_item is.0.first was.0.first)
  one_fragment (Keyword text s) r q rule other is was = absurd is
  one_fragment (Assign p op v s) r q rule other is was = absurd is
  one_fragment (Act a) r q rule other is was = absurd is

  pub fragment_there : (leaf : Leaf) (r : ℕ) (rule : Rule) → IsFragmentCall g leaf r rule → slice_get g.rules r ≡ Some rule
  fragment_there (Call name s) r rule is = is.0.first.there
  fragment_there (Keyword text s) r rule is = absurd is
  fragment_there (Assign p op v s) r rule is = absurd is
  fragment_there (Act a) r rule is = absurd is

  call_names_none : (leaf : Leaf) (r : ℕ) (rule : Rule) → IsFragmentCall g leaf r rule → NamesNone leaf
  call_names_none (Call name s) r rule is = λ called names. names
  call_names_none (Keyword text s) r rule is = absurd is
  call_names_none (Assign p op v s) r rule is = absurd is
  call_names_none (Act a) r rule is = absurd is

  -- ---- the search

  -- it finds one thing
  finds_once : {seen : List ℕ} {ls : List Leaf} {a b : Option (List ℕ)} → FindsName g seen ls a → FindsName g seen ls b → a ≡ b
  finds_once ends ends = refl
  finds_once (names {leaf} {called} is) (names {called = other} was) = ap Some (one_name leaf called other is was)
  finds_once (names {called} is) (passes none _ _) = absurd (none called is)
  finds_once (names {leaf} {called} is) (enters r rule calls _ _) = absurd (call_names_none leaf r rule calls called is)
  finds_once (names {leaf} {called} is) (skips r rule calls _ _) = absurd (call_names_none leaf r rule calls called is)
  finds_once (passes none _ _) (names {called} is) = absurd (none called is)
  finds_once (passes _ _ more) (passes _ _ others) = finds_once more others
  finds_once (passes _ not _) (enters r rule calls _ _) = absurd (not r rule calls)
  finds_once (passes _ not _) (skips r rule calls _ _) = absurd (not r rule calls)
  finds_once (enters {leaf} r rule calls _ _) (names {called} is) = absurd (call_names_none leaf r rule calls called is)
  finds_once (enters r rule calls _ _) (passes _ not _) = absurd (not r rule calls)
  finds_once (enters {seen} {leaf} {ls} r rule calls fresh more) (enters {found} q other was _ others) =
      let same = one_fragment leaf r q rule other calls was in
      let first = subst (λ n. FindsName g (seen ++ n ∷ []) (leaves other.body ++ ls) found) (sym same.0) others in
      finds_once more (subst (λ (x : Rule). FindsName g (seen ++ r ∷ []) (leaves x.body ++ ls) found) (sym same.1) first)
  finds_once (enters {seen} {leaf} r rule calls fresh _) (skips q other was again _) =
      absurd (fresh (subst (Contains seen) (sym (one_fragment leaf r q rule other calls was).0) again))
  finds_once (skips {leaf} r rule calls _ _) (names {called} is) = absurd (call_names_none leaf r rule calls called is)
  finds_once (skips r rule calls _ _) (passes _ not _) = absurd (not r rule calls)
  finds_once (skips {seen} {leaf} r rule calls again _) (enters q other was fresh _) =
      absurd (fresh (subst (Contains seen) (one_fragment leaf r q rule other calls was).0 again))
  finds_once (skips _ _ _ _ more) (skips _ _ _ _ others) = finds_once more others

  -- ---- what the search has gone past

  -- the leaf has no name, and it is no call of a fragment that was not looked into
  abbrev IsPassed : List ℕ → Leaf → Type 0
  IsPassed seen leaf = NamesNone leaf × ((r : ℕ) (rule : Rule) → IsFragmentCall g leaf r rule → Contains seen r)

  abbrev Within : List ℕ → List ℕ → Type 0
  Within some more = (r : ℕ) → Contains some r → Contains more r

  -- of the fragments that were looked into, those that are not around what is looked at have been gone past
  abbrev AreFinished : List ℕ → List ℕ → Type 0
  AreFinished around seen =
      (r : ℕ) (rule : Rule) → Contains seen r → ¬ Contains around r → slice_get g.rules r ≡ Some rule → Every (IsPassed seen) (leaves rule.body)

  passed_still : (seen after : List ℕ) → Within seen after → (ls : List Leaf) → Every (IsPassed seen) ls → Every (IsPassed after) ls
  passed_still seen after within [] all = tt
  passed_still seen after within (leaf ∷ ls) all =
      ((all.0.0, λ r rule calls. within r (all.0.1 r rule calls)), passed_still seen after within ls all.1)

  -- what was gone past has no name with its fragments put in, as long as none that is around is put in
  passed_names_none : (around seen : List ℕ) → AreFinished around seen → {entered : List ℕ} {ls all : List Leaf} → Expands g entered ls all → Within around entered →
      Every (IsPassed seen) ls → NoneNamed all
  passed_names_none around seen finished nothing within passed = λ called is. elim is [ ]
  passed_names_none around seen finished (kept {all} _ more) within passed =
      none_behind passed.0.0 (passed_names_none around seen finished more within passed.1)
  passed_names_none around seen finished (put_in {entered} {leaf} {inside} {all} r rule calls fresh put more) within passed =
      none_in_both inside all
      (passed_names_none around seen finished put (λ q has. there r entered q (within q has))
      (finished r rule (passed.0.1 r rule calls) (λ has. fresh (within r has)) (fragment_there leaf r rule calls)))
      (passed_names_none around seen finished more within passed.1)
  passed_names_none around seen finished (looped _ _ _ _ more) within passed = passed_names_none around seen finished more within passed.1

  -- ---- the search goes with the expansion

  -- the search went past the leaves ls, and goes on with the rest
  record GoesPast (around seen : List ℕ) (ls rest : List Leaf) : Type 0 where
    after : List ℕ
    grown : Within seen after
    finished : AreFinished around after
    passed : Every (IsPassed after) ls
    goes_on : (found : Option (List ℕ)) → FindsName g after rest found → FindsName g seen (ls ++ rest) found

  -- all are the leaves ls with their fragments put in: it finds their first name, or goes past ls where there is none
  data Goes (around seen : List ℕ) (ls all rest : List Leaf) : Type 0 where
    stops : (called : List ℕ) → FirstNames all called → FindsName g seen (ls ++ rest) (Some called) → Goes around seen ls all rest
    goes : NoneNamed all → GoesPast around seen ls rest → Goes around seen ls all rest

  -- one leaf more, in front
  module _ (around seen begun : List ℕ) (leaf : Leaf) (ls rest : List Leaf) where
    record Leads (front all : List Leaf) : Type 0 where
      begins : Within seen begun
      none : NoneNamed front
      passed : (after : List ℕ) → Within begun after → IsPassed after leaf
      goes_on : (found : Option (List ℕ)) → FindsName g begun (ls ++ rest) found → FindsName g seen (leaf ∷ (ls ++ rest)) found

    leads : (front all : List Leaf) → Leads front all → Goes around begun ls all rest → Goes around seen (leaf ∷ ls) (front ++ all) rest
    leads front all to (stops called first found) = stops called (first_right front to.none first) (to.goes_on (Some called) found)
    leads front all to (goes none past) = goes (none_in_both front all to.none none) record {
      after = past.after;
      grown = λ r has. past.grown r (to.begins r has);
      finished = past.finished;
      passed = (to.passed past.after past.grown, past.passed);
      goes_on = λ found more. to.goes_on found (past.goes_on found more);
    }

  calls_only : (leaf : Leaf) (r : ℕ) (rule : Rule) (after : List ℕ) → IsFragmentCall g leaf r rule → Contains after r →
      (q : ℕ) (other : Rule) → IsFragmentCall g leaf q other → Contains after q
  calls_only leaf r rule after calls has q other was = subst (Contains after) (one_fragment leaf r q rule other calls was).0 has

  within_entered : (around seen : List ℕ) (r : ℕ) → Within around seen → Within (r ∷ around) (seen ++ r ∷ [])
  within_entered around seen r within q has = elim (first_or_later r around has) [
    | inl is ↦ subst (Contains (seen ++ r ∷ [])) is (Contains-push seen r)
    | inr old ↦ Contains-append_left seen (r ∷ []) q (within q old)
  ]

  finished_entered : (around seen : List ℕ) (r : ℕ) → AreFinished around seen → AreFinished (r ∷ around) (seen ++ r ∷ [])
  finished_entered around seen r finished q rule has apart at = elim (Contains-push_cases seen r q has) [
    | inl old ↦ passed_still seen (seen ++ r ∷ []) (λ p had. Contains-append_left seen (r ∷ []) p had) (leaves rule.body)
        (finished q rule old (λ had. apart (there r around q had)) at)
    | inr is ↦ absurd (apart (0, omega arith, is))
  ]

  -- the fragment that was around is finished
  finished_left : (around after : List ℕ) (r : ℕ) (rule : Rule) → slice_get g.rules r ≡ Some rule → Every (IsPassed after) (leaves rule.body) →
      AreFinished (r ∷ around) after → AreFinished around after
  finished_left around after r rule stands passed finished q other has apart at = elim (cases_eq r q) [
    | inl is ↦
        let same : rule ≡ other = same_Some rule other (sym stands ∙ ap (λ n. slice_get g.rules n) is ∙ at) in
        subst (λ (x : Rule). Every (IsPassed after) (leaves x.body)) same passed
    | inr differs ↦ finished q other has (λ had. elim (first_or_later r around had) [ inl is ↦ differs is | inr old ↦ apart old ]) at
  ]

  module _ (around seen : List ℕ) (leaf : Leaf) (ls inside all rest : List Leaf) (r : ℕ) (rule : Rule) (calls : IsFragmentCall g leaf r rule) where
    looks_in : ¬ Contains seen r → ((after : List ℕ) → Within around after → AreFinished around after → Goes around after ls all rest) →
        Within around seen → Goes (r ∷ around) (seen ++ r ∷ []) (leaves rule.body) inside (ls ++ rest) → Goes around seen (leaf ∷ ls) (inside ++ all) rest
    looks_in new onward within (stops called first found) = stops called (first_left all first) (enters r rule calls new found)
    looks_in new onward within (goes none past) =
        let grown : Within seen past.after = λ q has. past.grown q (Contains-append_left seen (r ∷ []) q has) in
        leads around seen past.after leaf ls rest inside all record {
          begins = grown;
          none = none;
          passed = λ after more. (call_names_none leaf r rule calls, calls_only leaf r rule after calls (more r (past.grown r (Contains-push seen r))));
          goes_on = λ found more. enters r rule calls new (past.goes_on found more);
        } (onward past.after (λ q has. grown q (within q has))
        (finished_left around past.after r rule (fragment_there leaf r rule calls) past.passed past.finished))

  searches : {around : List ℕ} {ls all : List Leaf} → Expands g around ls all → (seen : List ℕ) (rest : List Leaf) → Within around seen → AreFinished around seen →
      Goes around seen ls all rest
  searches {around} nothing seen rest within finished = goes (λ called is. elim is [ ]) record {
    after = seen;
    grown = λ r has. has;
    finished = finished;
    passed = tt;
    goes_on = λ found more. more;
  }
  searches {around} (kept {leaf} {ls} {all} not more) seen rest within finished = elim (named leaf) [
    | inl is ↦ stops is.0 (here is.1) (names is.1)
    | inr none ↦ leads around seen seen leaf ls rest (leaf ∷ []) all record {
      begins = λ r has. has;
      none = none_behind none (λ called is. elim is [ ]);
      passed = λ after grown. (none, λ r rule calls. absurd (not r rule calls));
      goes_on = λ found goes. passes none not goes;
    } (searches more seen rest within finished)
  ]
  searches {around} (looped {leaf} {ls} {all} r rule calls begun more) seen rest within finished =
      leads around seen seen leaf ls rest [] all record {
        begins = λ q has. has;
        none = λ called is. elim is [ ];
        passed = λ after grown. (call_names_none leaf r rule calls, calls_only leaf r rule after calls (grown r (within r begun)));
        goes_on = λ found goes. skips r rule calls (within r begun) goes;
      } (searches more seen rest within finished)
  searches {around} (put_in {leaf} {ls} {inside} {all} r rule calls fresh put more) seen rest within finished = elim (is_in seen r) [
    | inl again ↦ leads around seen seen leaf ls rest inside all record {
      begins = λ q has. has;
      none = passed_names_none around seen finished put (λ q has. there r around q has) (finished r rule again fresh (fragment_there leaf r rule calls));
      passed = λ after grown. (call_names_none leaf r rule calls, calls_only leaf r rule after calls (grown r again));
      goes_on = λ found goes. skips r rule calls again goes;
    } (searches more seen rest within finished)
    | inr new ↦ looks_in around seen leaf ls inside all rest r rule calls new (λ after begun done. searches more after rest begun done) within
        (searches put (seen ++ r ∷ []) (ls ++ rest) (within_entered around seen r within) (finished_entered around seen r finished))
  ]

  -- so what it finds is the first name of the rule's leaves
  pub finds_first : (rule : Rule) (all : List Leaf) (found : Option (List ℕ)) → HasLeaves g rule all → FindsName g [] (leaves rule.body) found →
      MatchOption found (NoneNamed all) (FirstNames all)
  finds_first rule all found has is = by (searches has [] [] (λ r none. none) (λ r x none. absurd (in_none r none)))
    where
      in_none : (r : ℕ) → ¬ Contains [] r
      in_none r (k, inside, is) = omega arith

      same : (other : Option (List ℕ)) → FindsName g [] (leaves rule.body ++ []) other → other ≡ found
      same other was = finds_once (subst (λ ls. FindsName g [] ls other) (append-nil (leaves rule.body)) was) is

      by : Goes [] [] (leaves rule.body) all [] → MatchOption found (NoneNamed all) (FirstNames all)
      by (stops called first was) = subst (λ o. MatchOption o (NoneNamed all) (FirstNames all)) (same (Some called) was) first
      by (goes none past) = subst (λ o. MatchOption o (NoneNamed all) (FirstNames all)) (same None (past.goes_on None ends)) none
