-- The rule that a cross-reference `[Type]` reads its text by, where it writes none: the one called in the first `name=` of
-- the first rule whose type is the wanted one or below it and whose body, fragments put in, assigns `name` by a call.
-- Held against the Langium documentation, "Grammar language: cross-references".
use Rattle.std.specs.Prelude.{ℕ, ◌≡◌, List, ◌∷◌, codes}
use Rattle.lw_grammar.specs.declared.grammar.Grammar.{Grammar}
use Rattle.lw_grammar.specs.declared.rule.Op.TheVariants.{One}
use Rattle.lw_grammar.specs.declared.rule.Value0.{Value0, out-Value0}
use Rattle.lw_grammar.specs.declared.rule.Value0.TheOpen as value
use Rattle.lw_grammar.specs.declared.rule.Value0.TheOpen.{Value0-F}
use Rattle.lw_grammar.specs.declared.rule.Rule.{Rule}
use Rattle.lw_grammar.specs.Named.{IsFirst}
use Rattle.lw_grammar.specs.Leaves.{Leaf, Assign, HasLeaves}
use Rattle.lw_grammar.specs.Subtypes.{HasType, IsSubtype}

-- the value is a call of this name
abbrev pub IsCallOf : Value0-F Value0 → List ℕ → Type 0
IsCallOf (value.Call name s) called = called ≡ name
IsCallOf _ called = ⊥

-- the leaf is `name=` and a call of this name; other assignments of `name` are passed over
abbrev pub Names : Leaf → List ℕ → Type 0
Names (Assign p op v s) called = (p ≡ codes "name") × (op ≡ One) × IsCallOf (out-Value0 v) called
Names _ called = ⊥

pub data FirstNames : List Leaf → List ℕ → Type 0 where
  here : {leaf : Leaf} {ls : List Leaf} {called : List ℕ} → Names leaf called → FirstNames (leaf ∷ ls) called
  later : {leaf : Leaf} {ls : List Leaf} {called : List ℕ} → ((other : List ℕ) → ¬ Names leaf other) → FirstNames ls called → FirstNames (leaf ∷ ls) called

module _ (g : Grammar) where
  -- the rule's type is the wanted one or below it, and its first `name=` calls this name
  abbrev pub NamesNodesOf : List ℕ → List ℕ → Rule → Type 0
  NamesNodesOf wanted called rule = (own : List ℕ) × HasType g rule own × IsSubtype g own wanted × (all : List Leaf) × HasLeaves g rule all × FirstNames all called

  pub record IsNameRule (wanted called : List ℕ) : Type 0 where
    pub number : ℕ
    pub rule : Rule
    pub first : IsFirst (λ x. (name : List ℕ) × NamesNodesOf wanted name x) g.rules number rule
    pub names : NamesNodesOf wanted called rule
