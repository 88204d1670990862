-- What the heads of one kind tell of rules.
use Rattle.std.proofs.Common.{◌≡◌, ℕ, ◌+◌, List, [], ◌∷◌, Bool, true, false, Some, take, zero, suc, length, slice_get, ◌⊎◌, ◌↔◌, refl, sym, ap, ◌∙◌, subst, append-nil, arith, inl, inr}
use Rattle.std.proofs.lemmas.List.{length-map}
use Rattle.std.proofs.lemmas.Option.{same_Some}
use Rattle.lw_grammar.specs.declared.grammar.Grammar.{Grammar}
use Rattle.lw_grammar.specs.declared.rule.Rule.{Rule}
use Rattle.lw_grammar.specs.Kinds.{Kinds, AreKinds, kind_count}
use Rattle.lw_grammar.specs.Nodes.{MakesNodes}
use Rattle.lw_grammar.proofs.KindLemmas.{one_kinds}
use Rattle.lw_grammar.specs.Marks.{Mark, kinds_of}
use Rattle.lw_grammar.specs.Marks as mark
use Rattle.lw_grammar.specs.Yields.{Yields, RuleGives}
use Rattle.lw_grammar.specs.Yields as y
use Rattle.lw_look.specs.Heads.{Can, AreClosedHeads, AreTrueHeads}
use Rattle.lw_look.specs.Looks as look
use Rattle.lw_look.specs.Sites.{Body}
use Rattle.lw_look.specs.Supplied.{NodesAreTold}
use Rattle.lw_look.proofs.Covering.{before_last}
use Rattle.lw_look.proofs.HeadsCover.{part_can}
use Rattle.lw_first.specs.declared.heads.head.Head.{Head}
use Rattle.lw_first.specs.Sets.{IsAmongHeads, IsInSet}
use Rattle.lw_kinds.specs.Rows.{KindRow, AreKindRowOf}
use Rattle.lw_numbers.specs.Kinship.{AreNodeRules}
use Rattle.lw_viable.specs.BeginsWith.{MeetsKind}
use Rattle.lw_viable.specs.EmptyBy.{IsFlagged}
use Rattle.lw_viable.specs.Gives.{MayMeet}
use Rattle.lw_viable.proofs.NoToken.{RuleNone}

-- a head of one kind at most
none_taken : (ks : List ℕ) → [] ≡ take 1 ks → ks ≡ []
none_taken [] is = refl
none_taken (x ∷ ks) is = absurd (cc)

one_taken : (k : ℕ) (ks : List ℕ) → k ∷ [] ≡ take 1 ks → (ls : List ℕ) × (ks ≡ k ∷ ls)
one_taken k [] is = absurd (cc)
one_taken k (x ∷ ks) is = (ks, ap (λ x. x ∷ ks) (sym (same_first is)))
  where
    same_first : {a b : ℕ} → a ∷ [] ≡ b ∷ [] → a ≡ b
    same_first same = cc

module _ (g : Grammar) (kinds : Kinds) (sets : List (List Head)) (closed : AreClosedHeads g kinds 1 (IsInSet sets)) (no_others : AreTrueHeads g kinds 1 (IsInSet sets))
    (r : ℕ) (rule : Rule) (there : slice_get g.rules r ≡ Some rule) (heads : List Head) (at : slice_get sets r ≡ Some heads) where
  body_held : (m : List Mark) → Yields g kinds rule.body m → IsInSet sets r (take 1 (kinds_of m))
  body_held m p =
      closed r rule (take 1 (kinds_of m)) there
      (subst (λ ks. Can g kinds 1 (IsInSet sets) (Body rule.body) [] (take 1 ks)) (append-nil (kinds_of m)) (part_can g kinds 1 (IsInSet sets) closed (look.element p) []))

  call_held : {m : List Mark} → RuleGives g kinds r rule m → IsInSet sets r (take 1 (kinds_of m))
  call_held (y.fragment {m} is p) = body_held m p
  call_held (y.data_type {m} is none p) = body_held m p
  call_held (y.node {m} is makes p) = subst (λ ks. IsInSet sets r (take 1 ks)) (before_last m mark.Shut refl) (body_held m p)

  held : (m : List Mark) → RuleGives g kinds r rule m → IsAmongHeads heads (take 1 (kinds_of m))
  held m p = let (others, same, among) = call_held p in subst (λ heads. IsAmongHeads heads (take 1 (kinds_of m))) (same_Some others heads (sym same ∙ at)) among

  pub none_is_read : RuleNone g kinds r rule ↔ IsAmongHeads heads []
  none_is_read = (
    λ (m, p, none). subst (λ ks. IsAmongHeads heads (take 1 ks)) none (held m p),
    λ among. let (m, p, are) = no_others r rule [] there (heads, at, among) in (m, p, none_taken (kinds_of m) are),
  )

  pub kind_is_met : (k : ℕ) → MayMeet g kinds r rule k ↔ MeetsKind heads k
  kind_is_met k = (λ (m, p, begins). to m p begins, fro)
    where
      to : (m : List Mark) → RuleGives g kinds r rule m → (kinds_of m ≡ []) ⊎ ((ls : List ℕ) × (kinds_of m ≡ k ∷ ls)) → MeetsKind heads k
      to m p (inl none) = inl (subst (λ ks. IsAmongHeads heads (take 1 ks)) none (held m p))
      to m p (inr (ls, begins)) = inr (subst (λ ks. IsAmongHeads heads (take 1 ks)) begins (held m p))

      fro : MeetsKind heads k → MayMeet g kinds r rule k
      fro (inl among) = let (m, p, are) = no_others r rule [] there (heads, at, among) in (m, p, inl (none_taken (kinds_of m) are))
      fro (inr among) = let (m, p, are) = no_others r rule (k ∷ []) there (heads, at, among) in (m, p, inr (one_taken k (kinds_of m) are))

-- the kinds are as many as the row has
pub counted : (g : Grammar) (kinds : Kinds) (row : KindRow) → AreKindRowOf g row → AreKinds g kinds → length row.keywords + length row.terminals ≡ kind_count kinds
counted g kinds row are is =
    let same = ap kind_count (one_kinds g are.kinds kinds are.are is) in
    let words = sym (length-map row.keywords (λ word. word.0)) ∙ ap length are.texts in
    let terminals = sym (length-map row.terminals (slice_get g.terminals)) ∙ ap length are.terminals ∙ length-map are.kinds.terminals Some in
    omega arith

-- flags by which rules make nodes tell it of each
pub nodes_are_told : (g : Grammar) (flags : List Bool) → AreNodeRules g flags → NodesAreTold g
nodes_are_told g flags are r rule there = by (is_so flags r)
  where
    is_so : (flags : List Bool) (r : ℕ) → IsFlagged flags r ⊎ ¬ IsFlagged flags r
    is_so [] r = inr (λ is. cc)
    is_so (true ∷ flags) zero = inl refl
    is_so (false ∷ flags) zero = inr (λ is. cc)
    is_so (flag ∷ flags) (suc r) = is_so flags r

    by : IsFlagged flags r ⊎ ¬ IsFlagged flags r → MakesNodes g rule ⊎ ¬ MakesNodes g rule
    by (inl set) = inl ((are.exact r rule there).1 set)
    by (inr unset) = inr (λ makes. unset ((are.exact r rule there).0 makes))
