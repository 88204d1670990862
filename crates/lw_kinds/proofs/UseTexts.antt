-- The texts of the uses of keywords are the keywords.
use Rattle.std.proofs.Common.{◌≡◌, ℕ, List, [], ◌∷◌, ◌++◌, refl, ap₂, ◌∙◌}
use Rattle.std.specs.List.{flat_map}
use Rattle.std.proofs.lemmas.List.{map-append}
use Rattle.lw_grammar.specs.declared.rule.Rule.{Rule}
use Rattle.lw_grammar.specs.Leaves.{Leaf, Keyword, Call, Assign, Act, leaves, keywords_of, keywords_in, ValueLeaf, Literal, Calls, Cross, value_leaves, literals_of}
use Rattle.lw_kinds.specs.Uses.{Use, part_keyword_uses, leaf_keyword_uses, rule_keyword_uses}
use Rattle.lw_kinds.proofs.FirstTexts.{texts_of}

module _ {X : Type 0} (uses : X → List Use) (texts : X → List (List ℕ)) (are : (x : X) → texts_of (uses x) ≡ texts x) where
  each_in : (xs : List X) → texts_of (flat_map uses xs) ≡ flat_map texts xs
  each_in [] = refl
  each_in (x ∷ xs) = map-append (λ (word : Use). word.0) (uses x) (flat_map uses xs) ∙ ap₂ (λ a b. a ++ b) (are x) (each_in xs)

literal_texts : (file : ℕ) (part : ValueLeaf) → texts_of (part_keyword_uses file part) ≡ literals_of part
literal_texts file (Literal text s) = refl
literal_texts file (Calls name s) = refl
literal_texts file (Cross wanted rule s) = refl

leaf_texts : (file : ℕ) (leaf : Leaf) → texts_of (leaf_keyword_uses file leaf) ≡ keywords_of leaf
leaf_texts file (Keyword text s) = refl
leaf_texts file (Call name s) = refl
leaf_texts file (Assign p op v s) = each_in (part_keyword_uses file) literals_of (literal_texts file) (value_leaves v)
leaf_texts file (Act a) = refl

rule_texts : (rule : Rule) → texts_of (rule_keyword_uses rule) ≡ keywords_in rule.body
rule_texts rule = each_in (leaf_keyword_uses rule.file) keywords_of (leaf_texts rule.file) (leaves rule.body)

pub texts-rules : (rules : List Rule) → texts_of (flat_map rule_keyword_uses rules) ≡ flat_map (λ rule. keywords_in rule.body) rules
texts-rules rules = each_in rule_keyword_uses (λ rule. keywords_in rule.body) rule_texts rules
