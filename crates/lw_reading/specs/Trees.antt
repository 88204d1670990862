-- The tree of marks, and the tree opened by marks that only begin a sentence.
use Rattle.std.specs.Prelude.{ℕ, ◌+◌, Option, None, List, [], ◌∷◌, ◌++◌}
use Rattle.lw_base.specs.declared.token.Span.{Span}
use Rattle.lw_base.specs.declared.token.Token.{Token}
use Rattle.lw_base.specs.declared.numbers.NodeId.{NodeId}
use Rattle.lw_base.specs.declared.numbers.PropId.{PropId}
use Rattle.lw_grammar.specs.declared.grammar.Grammar.{Grammar}
use Rattle.lw_grammar.specs.Marks.{Mark}
use Rattle.lw_tree.specs.declared.node.Reference.{Reference}
use Rattle.lw_tree.specs.declared.node.Value.{Value}
use Rattle.lw_tree.specs.declared.node.Value.TheVariants.{Child, Refers}
use Rattle.lw_tree.specs.Parts.{Parts, SameTables}
use Rattle.lw_reading.specs.Grown.{Plain, as_value, Grown, Grow, Held, Nothing, Puts, Takes, Points, size_of, nodes}
use Rattle.lw_reading.specs.Numbers.{IsNamingProperty}
use Rattle.lw_reading.specs.Brackets.{Bracket, Root}
use Rattle.lw_reading.specs.Follows.{FollowsMarks, Closes}

-- how many references
abbrev mutual
  pub points : Grown → ℕ
  points (Grow t s held) = points_of held

  pub points_of : Held → ℕ
  points_of Nothing = 0
  points_of (Puts held p v) = points_of held
  points_of (Points held p want name s) = points_of held + 1
  points_of (Takes held p x) = points_of held + points x

-- the references in text order, inside nodes that are counted from n
abbrev mutual
  pub refs : ℕ → Grown → List Reference
  refs n (Grow t s held) = refs_of n (n + 1) held

  pub refs_of : ℕ → ℕ → Held → List Reference
  refs_of number n Nothing = []
  refs_of number n (Puts held p v) = refs_of number n held
  refs_of number n (Points held p want name s) =
      refs_of number n held ++ record { owner = record { 0 = number }; prop = record { 0 = p }; want = record { 0 = want }; name = name; span = s } ∷ []
  refs_of number n (Takes held p x) = refs_of number n held ++ refs (n + size_of held) x

-- what the node `number` holds itself, where what stands in it is counted from n and its references from r
abbrev pub own : ℕ → ℕ → ℕ → Held → List (NodeId × PropId × Value)
own number n r Nothing = []
own number n r (Puts held p v) = own number n r held ++ (record { 0 = number }, record { 0 = p }, as_value v) ∷ []
own number n r (Points held p want name s) =
    own number n r held ++ (record { 0 = number }, record { 0 = p }, Refers (record { 0 = r + points_of held })) ∷ []
own number n r (Takes held p x) = own number n r held ++ (record { 0 = number }, record { 0 = p }, Child (record { 0 = n + size_of held })) ∷ []

-- the values of all nodes, a container's before those of what stands in it
abbrev mutual
  pub values : ℕ → ℕ → Grown → List (NodeId × PropId × Value)
  values n r (Grow t s held) = own n (n + 1) r held ++ values_of (n + 1) r held

  pub values_of : ℕ → ℕ → Held → List (NodeId × PropId × Value)
  values_of n r Nothing = []
  values_of n r (Puts held p v) = values_of n r held
  values_of n r (Points held p want name s) = values_of n r held
  values_of n r (Takes held p x) = values_of n r held ++ values (n + size_of held) (r + points_of held) x

-- the parts of a tree that has grown so
abbrev pub parts_of_tree : Grown → List Token → Option PropId → Parts
parts_of_tree x tokens name = record { nodes = nodes None None 0 x; values = values 0 0 x; refs = refs 0 x; tokens = tokens; name = name }

-- `visible` are those of `tokens` that the marks were read with, and these are all tokens of the text
module _ (g : Grammar) (text : List ℕ) where
  -- the tree of a sentence's marks
  pub record IsTree (m : List Mark) (visible tokens : List Token) (tree : Parts) : Type 0 where
    pub grown : Grown
    pub follows : FollowsMarks g text m visible (Root grown ∷ [])
    pub named : IsNamingProperty g tree.name
    pub parts : SameTables tree (parts_of_tree grown tokens tree.name)

  -- the tree of marks that a sentence begins with: what is still open is closed, and a reference that is not finished is left out
  pub record IsOpenedTree (m : List Mark) (visible tokens : List Token) (tree : Parts) : Type 0 where
    pub brackets : List Bracket
    pub grown : Grown
    pub follows : FollowsMarks g text m visible brackets
    pub closes : Closes g text visible brackets grown
    pub named : IsNamingProperty g tree.name
    pub parts : SameTables tree (parts_of_tree grown tokens tree.name)
