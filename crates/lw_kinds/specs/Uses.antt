-- Where keywords are used: each keyword that a rule writes, with its file and its place there, in the order of the leaves and of the
-- parts of values.
use Rattle.std.specs.Prelude.{ℕ, ◌≡◌, List, [], ◌∷◌}
use Rattle.std.specs.List.{flat_map}
use Rattle.lw_grammar.specs.declared.grammar.Grammar.{Grammar}
use Rattle.lw_grammar.specs.declared.rule.Rule.{Rule}
use Rattle.lw_grammar.specs.Kept.{KeepsPassing}
use Rattle.lw_grammar.specs.Leaves.{Leaf, Keyword, Assign, leaves, ValueLeaf, Literal, value_leaves}
use Rattle.lw_grammar.specs.Named.{IsFirst}
use Rattle.lw_grammar.specs.Reached.{IsReached}
use Rattle.lw_kinds.specs.declared.kind_table.FirstUse.{FirstUse}

-- the text of a keyword, and where it stands
abbrev pub Use : Type 0
Use = List ℕ × FirstUse

abbrev pub part_keyword_uses : ℕ → ValueLeaf → List Use
part_keyword_uses file (Literal text s) = (text, record { file = file; span = s }) ∷ []
part_keyword_uses file _ = []

abbrev pub leaf_keyword_uses : ℕ → Leaf → List Use
leaf_keyword_uses file (Keyword text s) = (text, record { file = file; span = s }) ∷ []
leaf_keyword_uses file (Assign p op v s) = flat_map (part_keyword_uses file) (value_leaves v)
leaf_keyword_uses file _ = []

abbrev pub rule_keyword_uses : Rule → List Use
rule_keyword_uses rule = flat_map (leaf_keyword_uses rule.file) (leaves rule.body)

-- the first use of its text in the rules that can be reached, which are gone through in load order
pub record IsFirstUse (g : Grammar) (word : Use) : Type 0 where
  pub rules : List Rule
  pub reached : KeepsPassing (IsReached g) g.rules rules
  pub place : ℕ
  pub first : IsFirst (λ other. other.0 ≡ word.0) (flat_map rule_keyword_uses rules) place word
