-- In the tree of a text that a grammar without faults reads whole each value and each reference begins at a place of its own.
use Rattle.std.proofs.Common.{ℕ, ◌<◌, List, AllPairs, length, subst, sym}
use Rattle.lw_base.specs.declared.token.Token.{Token}
use Rattle.lw_grammar.specs.declared.fault.GrammarFault.{GrammarFault}
use Rattle.lw_grammar.specs.declared.grammar.Grammar.{Grammar}
use Rattle.lw_faults.specs.Faults.{IsCheckFault, IsTypeFault}
use Rattle.lw_reading.specs.Grown.{Grown}
use Rattle.lw_reading.specs.Trees.{parts_of_tree}
use Rattle.lw_reading.specs.Reading.{Reads}
use Rattle.lw_reading.specs.Reading as reading
use Rattle.lw_reading.specs.declared.parsed.Parsed.TheVariants.{Whole}
use Rattle.lw_reading.proofs.Rootable.{is_rootable}
use Rattle.lw_tree.specs.declared.node.Reference.{Reference}
use Rattle.lw_tree.specs.declared.node.Value.{Value}
use Rattle.lw_tree.specs.Parts.{Parts, SameTables}
use Rattle.lw_link_rules.specs.Apart.{StandApart}
use Rattle.lw_link_rules.proofs.CutRows.{seen_in_row}
use Rattle.lw_link_rules.proofs.Grows.{Begin, root_begins}
use Rattle.lw_link_rules.proofs.Sentences.{sentence_filled}
use Rattle.lw_link_rules.proofs.Tabled.{refs_in_order, values_apart}
use Rattle.std.proofs.Common.{Contains}

-- the tables of what has grown are those of the tree
tables_apart : (low high : ℕ) (x : Grown) (tokens : List Token) (tree : Parts) → SameTables tree (parts_of_tree x tokens tree.name) →
    Begin low high x → StandApart tree
tables_apart low high x tokens tree same begin = record {
  values = λ n p m q v w s r has also.
      values_apart low high x begin n p m q v w s r (subst (λ (vs : List Value). Contains vs v) (same.values n p) has)
      (subst (λ (vs : List Value). Contains vs w) (same.values m q) also);
  refs = subst (AllPairs (λ (r other : Reference). r.span.start < other.span.start)) (sym same.refs) (refs_in_order low high x begin);
}

module _ (g : Grammar) (no_type_fault : (f : GrammarFault) → ¬ IsTypeFault g f) (no_check_fault : (f : GrammarFault) → ¬ IsCheckFault g f)
    (text : List ℕ) where
  pub stands_apart : (tree : Parts) → Reads g text (Whole tree) → StandApart tree
  stands_apart tree (reading.read of lexicon short are is (reading.whole tokens m cut sentence kinds tree_is)) =
      let begins = root_begins g text (length text) tree_is.follows (seen_in_row lexicon text tokens cut)
      (sentence_filled g (is_rootable g no_type_fault no_check_fault) no_check_fault of m sentence) in
      tables_apart begins.0 (length text) tree_is.grown tokens tree tree_is.parts begins.1
