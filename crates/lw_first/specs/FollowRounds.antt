-- How the sets of what follows rules grow, and what is known of them on the way.
use Rattle.std.specs.Prelude.{ℕ, ◌≡◌, ◌<◌, ◌≤◌, ◌-◌, ◌⊎◌, ◌↔◌, List, [], Bool, true, false, Some, length, slice_get}
use Rattle.std.specs.List.{sum_by}
use Rattle.lw_grammar.specs.declared.grammar.Grammar.{Grammar}
use Rattle.lw_grammar.specs.declared.rule.Rule.{Rule}
use Rattle.lw_grammar.specs.Kinds.{Kinds}
use Rattle.lw_grammar.specs.Named.{IsEntry}
use Rattle.lw_look.specs.Sites.{Body}
use Rattle.lw_look.specs.Heads.{AreTrueAfters}
use Rattle.lw_first.specs.declared.heads.head.Head.{Head}
use Rattle.lw_first.specs.Sets.{IsInSet, most_heads}
use Rattle.lw_first.specs.Calls.{BehindCalls}

-- exactly the heads that are so were put into the sets of rules, each of which stayed as it was or grew
pub record AddsAfters (is_so : ℕ → List ℕ → Type 0) (old new : List (List Head)) : Type 0 where
  pub exact : (r : ℕ) (h : List ℕ) → IsInSet new r h ↔ (IsInSet old r h ⊎ is_so r h)
  pub grown : (r : ℕ) (now : List Head) → slice_get new r ≡ Some now →
      (was : List Head) × (slice_get old r ≡ Some was) × ((now ≡ was) ⊎ (length was < length now))

-- the entry rule is followed by the end, and nothing else is known to follow
abbrev pub AreFirstAfters : Grammar → List (List Head) → Type 0
AreFirstAfters g sets = (r : ℕ) (h : List ℕ) → IsInSet sets r h ↔ ((rule : Rule) × IsEntry g r rule × (h ≡ []))

-- How many heads rules may still get since they were last gone through. `walked` has for each rule how many heads there were then.
abbrev pub heads_left : List ℕ → ℕ
heads_left = sum_by (λ n. most_heads - n)

-- the rule has no more heads than when it was last gone through
abbrev pub IsWalked : ℕ → List ℕ → List (List Head) → Type 0
IsWalked r walked sets = (n : ℕ) (set : List Head) → slice_get walked r ≡ Some n → slice_get sets r ≡ Some set → length set ≤ n

-- and so it is of each rule in front of this one
abbrev pub AreWalked : ℕ → List ℕ → List (List Head) → Type 0
AreWalked rules walked sets = (r : ℕ) → r < rules → IsWalked r walked sets

-- a rule was gone through, or none was, since nothing was left to do
abbrev pub WentOn : (List ℕ → List (List Head) → Type 0) → List ℕ → List (List Head) → List ℕ → List (List Head) → Bool → Type 0
WentOn IsDone old_walked old walked new true = heads_left walked < heads_left old_walked
WentOn IsDone old_walked old walked new false = (walked ≡ old_walked) × (new ≡ old) × IsDone old_walked old

module _ (g : Grammar) (kinds : Kinds) (k : ℕ) (heads : List (List Head)) where
  -- What is known between two rules: what stands behind the calls in a rule that has no more heads than when it was last gone through is
  -- in the sets.
  pub record IsUnderWay (walked : List ℕ) (sets : List (List Head)) : Type 0 where
    pub entry : (r : ℕ) (rule : Rule) → IsEntry g r rule → IsInSet sets r []
    pub no_others : AreTrueAfters g kinds k (IsInSet heads) (IsInSet sets)
    pub within : (r n : ℕ) (set : List Head) → slice_get walked r ≡ Some n → slice_get sets r ≡ Some set → n ≤ length set
    pub done : (r n : ℕ) (set : List Head) (rule : Rule) → slice_get walked r ≡ Some n → slice_get sets r ≡ Some set → length set ≤ n →
        slice_get g.rules r ≡ Some rule → (q : ℕ) (h : List ℕ) → BehindCalls g kinds k heads (Body rule.body) set q h → IsInSet sets q h
