-- What the search for a rule's name does, which is the code's own: it looks into each fragment once, while the leaves with fragments
-- put in have a fragment's leaves again at each of its calls. Both have the same first name.
use Rattle.std.specs.Prelude.{ℕ, ◌+◌, List, [], ◌∷◌, ◌++◌, Option, Some, None, Contains, length, map, reverse, nat_eq, if◌then◌else◌}
use Rattle.std.specs.List.{list_any}
use Rattle.lw_grammar.specs.declared.grammar.Grammar.{Grammar}
use Rattle.lw_grammar.specs.declared.rule.Rule.{Rule}
use Rattle.lw_grammar.specs.Leaves.{Leaf, leaves, IsFragmentCall}
use Rattle.lw_grammar.specs.NameRules.{Names}
use Rattle.lw_numbers.specs.Parts.{leaf_of}
use Rattle.lw_numbers.specs.declared.name_rules.first_name.Search.{Search}

-- the leaf gives no name
abbrev pub NamesNone : Leaf → Type 0
NamesNone leaf = (called : List ℕ) → ¬ Names leaf called

module _ (g : Grammar) where
  abbrev pub CallsNoFragment : Leaf → Type 0
  CallsNoFragment leaf = (r : ℕ) (rule : Rule) → ¬ IsFragmentCall g leaf r rule

  -- what a search finds that has looked into the fragments of these numbers, and has these leaves ahead
  pub data FindsName : List ℕ → List Leaf → Option (List ℕ) → Type 0 where
    ends : {seen : List ℕ} → FindsName seen [] None
    names : {seen : List ℕ} {leaf : Leaf} {ls : List Leaf} {called : List ℕ} → Names leaf called → FindsName seen (leaf ∷ ls) (Some called)
    passes : {seen : List ℕ} {leaf : Leaf} {ls : List Leaf} {found : Option (List ℕ)} → NamesNone leaf → CallsNoFragment leaf → FindsName seen ls found →
        FindsName seen (leaf ∷ ls) found
    enters : {seen : List ℕ} {leaf : Leaf} {ls : List Leaf} {found : Option (List ℕ)} (r : ℕ) (rule : Rule) → IsFragmentCall g leaf r rule →
        ¬ Contains seen r → FindsName (seen ++ r ∷ []) (leaves rule.body ++ ls) found → FindsName seen (leaf ∷ ls) found
    skips : {seen : List ℕ} {leaf : Leaf} {ls : List Leaf} {found : Option (List ℕ)} (r : ℕ) (rule : Rule) → IsFragmentCall g leaf r rule →
        Contains seen r → FindsName seen ls found → FindsName seen (leaf ∷ ls) found

-- the leaves that a search has ahead, the next one first
abbrev pub ahead : Search → List Leaf
ahead search = map leaf_of (reverse search.waiting.items)

-- how many leaves these rules have, numbered from i, but for those that were looked into
abbrev pub unseen_leaves : ℕ → List ℕ → List Rule → ℕ
unseen_leaves i seen [] = 0
unseen_leaves i seen (rule ∷ rules) = (if list_any (nat_eq i) seen then 0 else length (leaves rule.body)) + unseen_leaves (i + 1) seen rules

-- how many leaves it looks at, at most
abbrev pub work_left : Grammar → Search → ℕ
work_left g search = unseen_leaves 0 search.seen.keys g.rules + length search.waiting.items
