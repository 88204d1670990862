-- What a keyword or a call may begin with, where it is known what it reads.
use Rattle.std.proofs.Common.{◌≡◌, ℕ, ◌≤◌, List, [], ◌∷◌, ◌++◌, Option, Some, None, inl, inr, ◌↔◌, length, take, slice_get, sym, ◌∙◌, subst}
use Rattle.std.proofs.lemmas.List.{take-append-le}
use Rattle.std.proofs.lemmas.Option.{same_Some, none-some}
use Rattle.lw_grammar.specs.declared.grammar.Grammar.{Grammar}
use Rattle.lw_grammar.specs.declared.rule.Rule.{Rule}
use Rattle.lw_grammar.specs.Kinds.{Kinds, AreKinds, IsKeywordKind, IsTerminalKind}
use Rattle.lw_grammar.specs.Named.{IsRule}
use Rattle.lw_grammar.proofs.FirstLemmas.{first_place, one_terminal_kind}
use Rattle.lw_kinds.proofs.OneName.{one_reads}
use Rattle.lw_look.proofs.Apart.{are_apart, no_terminal_is_rule}
use Rattle.lw_first.specs.declared.heads.head.Head.{Head}
use Rattle.lw_first.specs.Sets.{IsAmongHeads}
use Rattle.lw_kinds.specs.Crossing.{IsReadBy}
use Rattle.lw_first.specs.Forms.{HeadBefore, FollowedBefore, RuleBefore, KeywordBefore, CallBefore, CrossBefore}

-- a head that has no room is the same before each head
pub full_before : (k : ℕ) (front after_kinds : List ℕ) (after : List Head) → k ≤ length front → IsAmongHeads after after_kinds → (h : List ℕ) → (h ≡ take k (front ++ after_kinds)) ↔ HeadBefore k front after h
full_before k front a after full among h = (λ is. (a, among, is), λ (b, _, is). is ∙ take-append-le k front b full ∙ sym (take-append-le k front a full))

-- ---- keywords

module _ (g : Grammar) (kinds : Kinds) (are : AreKinds g kinds) (k : ℕ) (text : List ℕ) (after : List Head) where
  pub keyword_before : (n : ℕ) → IsKeywordKind kinds text n → (h : List ℕ) → HeadBefore k (n ∷ []) after h ↔ KeywordBefore kinds k text after h
  keyword_before n is h =
      (λ before. (n, is, before), λ (m, was, before). subst (λ n. HeadBefore k (n ∷ []) after h) ((are_apart g kinds are).keywords text m n was is) before)

-- ---- rules

module _ (k : ℕ) (sets : List (List Head)) (r : ℕ) (after : List Head) where
  pub rule_before : (heads : List Head) → slice_get sets r ≡ Some heads → (h : List ℕ) → FollowedBefore k heads after h ↔ RuleBefore k sets r after h
  rule_before heads at h = (
    λ (front, among, before). (front, (heads, at, among), before),
    λ (front, (others, is, among), before). (front, subst (λ xs. IsAmongHeads xs front) (same_Some others heads (sym is ∙ at)) among, before),
  )

  pub no_rule_before : slice_get sets r ≡ None → (h : List ℕ) → ¬ RuleBefore k sets r after h
  no_rule_before none h (front, (heads, is, among), before) = none-some heads (sym none ∙ is)

-- ---- calls

module _ (g : Grammar) (kinds : Kinds) (k : ℕ) (sets : List (List Head)) (name : List ℕ) (after : List Head) where
  pub token_before : (n : ℕ) → IsTerminalKind g kinds name n → (h : List ℕ) → HeadBefore k (n ∷ []) after h ↔ CallBefore g kinds k sets name after h
  token_before n is h = (λ before. inl (n, is, before), from)
    where
      from : CallBefore g kinds k sets name after h → HeadBefore k (n ∷ []) after h
      from (inl (m, was, before)) = subst (λ n. HeadBefore k (n ∷ []) after h) (one_terminal_kind g kinds name m n was is) before
      from (inr (r, rule, was, before)) = absurd (no_terminal_is_rule g kinds name n r rule is was)

  pub called_before : (r : ℕ) (rule : Rule) → IsRule g name r rule → (h : List ℕ) → RuleBefore k sets r after h ↔ CallBefore g kinds k sets name after h
  called_before r rule is h = (λ before. inr (r, rule, is, before), from)
    where
      from : CallBefore g kinds k sets name after h → RuleBefore k sets r after h
      from (inl (n, was, before)) = absurd (no_terminal_is_rule g kinds name n r rule was is)
      from (inr (q, other, was, before)) = subst (λ r. RuleBefore k sets r after h) (first_place was.first is.first) before

  pub nothing_before : ((n : ℕ) → ¬ IsTerminalKind g kinds name n) → ((r : ℕ) (rule : Rule) → ¬ IsRule g name r rule) → (h : List ℕ) → ¬ CallBefore g kinds k sets name after h
  nothing_before no_token no_rule h (inl (n, is, before)) = no_token n is
  nothing_before no_token no_rule h (inr (r, rule, is, before)) = no_rule r rule is

  pub cross_before : (wanted : List ℕ) (written : Option (List ℕ)) → IsReadBy g wanted written name → (h : List ℕ) →
      CallBefore g kinds k sets name after h ↔ CrossBefore g kinds k sets wanted written after h
  cross_before wanted written is h =
      (λ before. (name, is, before), λ (other, was, before). subst (λ name. CallBefore g kinds k sets name after h) (one_reads g wanted written other name was is) before)
