-- The trees of what is read before a reference that comes next, and of that with the reference left blank.
use Rattle.std.proofs.Common.{◌≡◌, ℕ, List, [], ◌∷◌, ◌++◌, Option, Some, length, slice_get, sym, subst, ◌∙◌}
use Rattle.std.proofs.lemmas.List.{append_assoc}
use Rattle.lw_base.specs.declared.numbers.PropId.{PropId}
use Rattle.lw_base.specs.declared.token.Token.{Token}
use Rattle.lw_faults.specs.Faults.{IsCheckFault, IsTypeFault}
use Rattle.lw_grammar.specs.declared.fault.GrammarFault.{GrammarFault}
use Rattle.lw_grammar.specs.declared.grammar.Grammar.{Grammar}
use Rattle.lw_grammar.specs.Kinds.{Kinds}
use Rattle.lw_reading.specs.Numbers.{IsNamingProperty}
use Rattle.lw_reading.specs.Trees.{IsOpenedTree}
use Rattle.lw_places.specs.Starting.{ComesNext, ReferenceNext, marks_with, token_marks}
use Rattle.lw_reading.specs.Growing.{GrowsOpen}
use Rattle.lw_reading.proofs.Rootable.{is_rootable}
use Rattle.lw_grammar.specs.Marks.{Mark, Put, End}
use Rattle.lw_tokens.specs.Cut.{visible}
use Rattle.lw_tree.specs.declared.node.Reference.{Reference}
use Rattle.lw_tree.specs.Parts.{Parts}
use Rattle.lw_substitution.proofs.Blank.{begun_blank}
use Rattle.lw_complete.proofs.FrontCounts.{stands_behind}
use Rattle.lw_complete.proofs.FrontPlain.{ReadPlainly, sentence_plainly}

module _ (g : Grammar) (of : Kinds) (no_type_fault : (f : GrammarFault) → ¬ IsTypeFault g f) (no_check_fault : (f : GrammarFault) → ¬ IsCheckFault g f)
    (next : ReferenceNext) (tokens : List Token) (comes : ComesNext g of tokens next) where
  abbrev Behind : List Mark
  Behind = token_marks comes.some_kinds ++ (End ∷ [] ++ comes.after)

  read_plainly : ReadPlainly (next.before ++ Put next.prop next.op next.value ∷ Behind)
  read_plainly =
      let put : List Mark = Put next.prop next.op next.value ∷ token_marks comes.some_kinds in
      subst ReadPlainly (append_assoc (next.before ++ put) (End ∷ []) comes.after ∙ append_assoc next.before put (End ∷ [] ++ comes.after))
      (sentence_plainly g no_check_fault of comes.sentence)

  module _ (text : List ℕ) where
    pub reference_behind : {tree behind : Parts} → IsOpenedTree g text next.before (visible tokens) tokens tree →
        IsOpenedTree g text (marks_with next []) (visible tokens) tokens behind → (r : Reference) × (slice_get behind.refs (length tree.refs) ≡ Some r)
    reference_behind is was = stands_behind g text next comes.makes Behind read_plainly (visible tokens) is was

    pub both_grow : (name : Option PropId) → IsNamingProperty g name →
        GrowsOpen g text next.before (visible tokens) × GrowsOpen g text (marks_with next []) (visible tokens)
    both_grow name named =
        let (before, behind, is, was) =
        begun_blank g of text (is_rootable g no_type_fault no_check_fault) next comes.some_kinds comes.after (visible tokens) comes.makes comes.sentence
        (sym comes.kinds_are) tokens name named in
        ((is.brackets, is.grown, is.follows, is.closes), (was.brackets, was.grown, was.follows, was.closes))
