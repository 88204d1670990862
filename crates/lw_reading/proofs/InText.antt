-- What a tree holds stands in its text, and its references stand in its nodes.
use Rattle.std.proofs.Common.{ℕ, ◌<◌, List, Option, IfSome, All, length, sym, subst}
use Rattle.lw_base.specs.declared.token.Token.{Token}
use Rattle.lw_base.specs.declared.numbers.PropId.{PropId}
use Rattle.lw_grammar.specs.declared.grammar.Grammar.{Grammar}
use Rattle.lw_grammar.specs.Marks.{Mark}
use Rattle.lw_tree.specs.Parts.{Parts, SameTables}
use Rattle.lw_reading.specs.Grown.{Grown}
use Rattle.lw_reading.specs.Brackets.{Bracket}
use Rattle.lw_reading.specs.Follows.{FollowsMarks}
use Rattle.lw_reading.specs.Trees.{IsTree, IsOpenedTree, parts_of_tree, refs}
use Rattle.lw_reading.specs.Within.{StandInRow, IsInText, StandsInText, value_place}
use Rattle.lw_reading.proofs.InRow.{front_row, spans_in}
use Rattle.lw_reading.proofs.Spanned.{EachSpan, EachOpen, close_spans, follow_spans}
use Rattle.lw_reading.proofs.Tabled.{nodes_spans, refs_spans, values_spans}
use Rattle.lw_reading.proofs.Owned.{refs_owned}

-- the tables of what has grown are those of the tree
tables_in : (text : List ℕ) (x : Grown) (tokens : List Token) (name : Option PropId) (tree : Parts) → SameTables tree (parts_of_tree x tokens name) →
    EachSpan (IsInText text) x → StandsInText text tree
tables_in text x tokens name tree same each = record {
  nodes = subst (All (λ node. IsInText text node.span)) (sym same.nodes) (nodes_spans (IsInText text) _ _ 0 x each);
  values = λ n p. subst (All (λ v. IfSome (value_place v) (IsInText text))) (sym (same.values n p)) (values_spans (IsInText text) n p x each);
  refs = subst (All (λ r. IsInText text r.span)) (sym same.refs) (refs_spans (IsInText text) 0 x each);
}

module _ (g : Grammar) (text : List ℕ) where
  open_in : {m : List Mark} {seen : List Token} {bs : List Bracket} → FollowsMarks g text m seen bs → StandInRow text 0 seen → EachOpen (IsInText text) bs
  open_in follows row = follow_spans (IsInText text) g text {Q = StandInRow text 0} (front_row text) (λ ts. spans_in text) follows row

  pub tree_in : (m : List Mark) (seen tokens : List Token) (tree : Parts) → StandInRow text 0 seen → IsTree g text m seen tokens tree → StandsInText text tree
  tree_in m seen tokens tree row is = tables_in text is.grown tokens tree.name tree is.parts (open_in is.follows row).0

  pub opened_tree_in : (m : List Mark) (seen tokens : List Token) (tree : Parts) → StandInRow text 0 seen → IsOpenedTree g text m seen tokens tree → StandsInText text tree
  opened_tree_in m seen tokens tree row is =
      tables_in text is.grown tokens tree.name tree is.parts (close_spans (IsInText text) g text (spans_in text row) is.closes (open_in is.follows row))

-- the references of a tree stand in its nodes
pub tree_owns : (x : Grown) (tokens : List Token) (name : Option PropId) (tree : Parts) → SameTables tree (parts_of_tree x tokens name) →
    All (λ r. r.owner.0 < length tree.nodes) tree.refs
tree_owns x tokens name tree same =
    subst (λ rs. All (λ r. r.owner.0 < length tree.nodes) rs) (sym same.refs)
    (subst (λ ns. All (λ r. r.owner.0 < length ns) (refs 0 x)) (sym same.nodes) (refs_owned x))
