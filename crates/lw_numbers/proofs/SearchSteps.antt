-- The search, a step at a time: what a leaf means for what is found, and how much is left to look at.
use Rattle.std.proofs.Common.{◌≡◌, ℕ, zero, suc, ◌+◌, ◌≤◌, List, [], ◌∷◌, ◌++◌, Bool, true, false, ◌||◌, if◌then◌else◌, nat_eq, not, Option, Some, length, map, reverse, slice_get, Contains, refl, sym, ap, ◌∙◌, subst, arith}
use Rattle.std.specs.List.{list_any}
use Rattle.std.proofs.lemmas.Bool.Decides.{Decides-eqb, not_from_Decides}
use Rattle.std.proofs.lemmas.List.{length-map, length-reverse, reverse-append}
use Rattle.std.proofs.lemmas.List.Folds.{list_any-append}
use Rattle.std.proofs.lemmas.List.Elements.{Contains-push}
use Rattle.std.proofs.lemmas.Map.Made.{is_member-Decides}
use Rattle.std.proofs.lemmas.Option.{none-some, same_Some}
use Rattle.indexmap.specs.IndexSet.{insert_key}
use Rattle.lw_base.specs.declared.token.Span.{Span}
use Rattle.lw_grammar.specs.declared.grammar.Grammar.{Grammar}
use Rattle.lw_grammar.specs.declared.rule.Rule.{Rule}
use Rattle.lw_grammar.specs.declared.terminal.Terminal.{Terminal}
use Rattle.lw_grammar.specs.Leaves.{Leaf, Call, leaves, IsFragmentCall}
use Rattle.lw_grammar.specs.Named.{IsTerminal, declared_rule, declared_terminal}
use Rattle.lw_numbers.specs.Numbering.{IsNumbered, rule_}
use Rattle.lw_grammar.proofs.Meaning.{one_of_two}
use Rattle.lw_numbers.specs.Searching.{CallsNoFragment, FindsName, enters, skips, ahead, unseen_leaves}
use Rattle.lw_numbers.specs.declared.name_rules.first_name.Search.{Search}
use Rattle.lw_numbers.specs.declared.leaves.body.BodyLeaf.{BodyLeaf}
use Rattle.lw_numbers.specs.Parts.{leaf_of}

-- ---- what is ahead

-- the test says that a number was put in, or that it was there
pub is_new : (b there : Bool) → b ≡ not there → b ≡ true → there ≡ false
is_new b true is put = sym put ∙ is
is_new b false is put = refl

pub is_there : (b there : Bool) → b ≡ not there → b ≡ false → there ≡ true
is_there b true is left = refl
is_there b false is left = sym left ∙ is

pub length-ahead : (search : Search) → length (ahead search) ≡ length search.waiting.items
length-ahead search = simp (length-map, length-reverse)

-- the last that waits is the next
pub next_leaf : (waiting rest : List BodyLeaf) (leaf : BodyLeaf) → waiting ≡ rest ++ leaf ∷ [] → map leaf_of (reverse waiting) ≡ leaf_of leaf ∷ map leaf_of (reverse rest)
next_leaf waiting rest leaf is = ap (λ leaves. map leaf_of (reverse leaves)) is ∙ ap (map leaf_of) (reverse-append rest (leaf ∷ []))

-- ---- what a call means

module _ (g : Grammar) (name : List ℕ) (s : Span) where
  pub nothing_called : ((n : ℕ) → ¬ IsNumbered g name n) → CallsNoFragment g (Call name s)
  nothing_called none r rule is = none r (rule_ r rule is.0)

  -- what a terminal is called by calls no rule
  pub a_terminal : (t : ℕ) (terminal : Terminal) → IsTerminal g name t terminal → CallsNoFragment g (Call name s)
  a_terminal t terminal means q other is =
      one_of_two declared_rule declared_terminal name g.rules g.terminals q t other terminal is.0 means

-- ---- how many leaves were not looked into

fewer : (a b : Bool) (n : ℕ) → (if a || b then 0 else n) ≤ (if a then 0 else n)
fewer true b n = omega arith
fewer false true n = omega arith
fewer false false n = omega arith

-- one more number that was seen
module _ (seen : List ℕ) (r : ℕ) where
  seen_more : (i : ℕ) → list_any (nat_eq i) (seen ++ r ∷ []) ≡ (list_any (nat_eq i) seen || list_any (nat_eq i) (r ∷ []))
  seen_more i = list_any-append (nat_eq i) seen (r ∷ [])

  one_more : (i n : ℕ) → (if list_any (nat_eq i) (seen ++ r ∷ []) then 0 else n) ≤ (if list_any (nat_eq i) seen then 0 else n)
  one_more i n = rw (seen_more i) (fewer (list_any (nat_eq i) seen) (list_any (nat_eq i) (r ∷ [])) n)

  no_more_unseen : (i : ℕ) (rules : List Rule) → unseen_leaves i (seen ++ r ∷ []) rules ≤ unseen_leaves i seen rules
  no_more_unseen i [] = omega arith
  no_more_unseen i (rule ∷ rules) = omega (arith, one_more i (length (leaves rule.body)), no_more_unseen (i + 1) rules)

  now_seen : (i n : ℕ) → r ≡ i → list_any (nat_eq i) seen ≡ false → (if list_any (nat_eq i) (seen ++ r ∷ []) then 0 else n) + n ≤ (if list_any (nat_eq i) seen then 0 else n)
  now_seen i n is new =
      let again : list_any (nat_eq i) (seen ++ r ∷ []) ≡ true =
      (is_member-Decides Decides-eqb (seen ++ r ∷ []) i).1 (subst (Contains (seen ++ r ∷ [])) is (Contains-push seen r)) in
      rw (again, new) (omega arith)

  fewer_from : (i k : ℕ) (rules : List Rule) (rule : Rule) → r ≡ i + k → slice_get rules k ≡ Some rule → list_any (nat_eq r) seen ≡ false →
      unseen_leaves i (seen ++ r ∷ []) rules + length (leaves rule.body) ≤ unseen_leaves i seen rules
  fewer_from i k [] rule is at new = absurd (none-some rule at)
  fewer_from i zero (first ∷ rules) rule is at new =
      let here : r ≡ i = omega arith in
      let same : first ≡ rule = same_Some first rule at in
      let gone = now_seen i (length (leaves first.body)) here (subst (λ n. list_any (nat_eq n) seen ≡ false) here new) in
      omega (arith, gone, ap (λ (x : Rule). length (leaves x.body)) same, no_more_unseen (i + 1) rules)
  fewer_from i (suc k) (first ∷ rules) rule is at new =
      let next : r ≡ (i + 1) + k = omega arith in
      omega (arith, one_more i (length (leaves first.body)), fewer_from (i + 1) k rules rule next at new)

-- ---- the fragments that were looked into

module _ (seen after : List ℕ) (r : ℕ) (put : after ≡ insert_key nat_eq seen r) where
  was_new : list_any (nat_eq r) seen ≡ false → after ≡ seen ++ r ∷ []
  was_new new = put ∙ ap (λ b. if b then seen else seen ++ r ∷ []) new

  was_there : list_any (nat_eq r) seen ≡ true → after ≡ seen
  was_there again = put ∙ ap (λ b. if b then seen else seen ++ r ∷ []) again

  module _ (g : Grammar) (leaf : Leaf) (rule : Rule) (calls : IsFragmentCall g leaf r rule) (ls : List Leaf) (found : Option (List ℕ)) where
    pub finds_inside : list_any (nat_eq r) seen ≡ false → FindsName g after (leaves rule.body ++ ls) found → FindsName g seen (leaf ∷ ls) found
    finds_inside new more =
        enters r rule calls (not_from_Decides (list_any (nat_eq r) seen) (is_member-Decides Decides-eqb seen r) new)
        (subst (λ keys. FindsName g keys (leaves rule.body ++ ls) found) (was_new new) more)

    pub finds_behind : list_any (nat_eq r) seen ≡ true → FindsName g after ls found → FindsName g seen (leaf ∷ ls) found
    finds_behind again more =
        skips r rule calls ((is_member-Decides Decides-eqb seen r).0 again) (subst (λ keys. FindsName g keys ls found) (was_there again) more)

  pub fewer_unseen : (rules : List Rule) (rule : Rule) → slice_get rules r ≡ Some rule → list_any (nat_eq r) seen ≡ false →
      unseen_leaves 0 after rules + length (leaves rule.body) ≤ unseen_leaves 0 seen rules
  fewer_unseen rules rule at new =
      let first : r ≡ 0 + r = omega arith in rw (was_new new) (fewer_from seen r 0 r rules rule first at new)
