-- What exact flags say of elements.
use Rattle.std.proofs.Common.{List, Bool, false, refl, subst}
use Rattle.lw_grammar.specs.declared.grammar.Grammar.{Grammar}
use Rattle.lw_grammar.specs.declared.rule.Element.{Element}
use Rattle.lw_faults.specs.Reads.{MayRead}
use Rattle.lw_kinds.specs.Passing.{Passes}
use Rattle.lw_kinds.specs.Rounds.{AreExact}
use Rattle.lw_kinds.proofs.PassingReads.{element_reads}
use Rattle.lw_kinds.proofs.ReadingPasses.{element_passes}
use Rattle.lw_kinds.proofs.RoundLemmas.{exact_passes}

module _ (g : Grammar) (flags : List Bool) (are : AreExact g false flags) (e : Element) where
  pub reads_nothing_if : Passes g false flags e → MayRead g e 0
  reads_nothing_if does =
      let may = element_reads g false flags (λ r rule at. (are r rule at).0) does in subst (MayRead g e) may.1 may.2

  pub passes_if : MayRead g e 0 → Passes g false flags e
  passes_if may = element_passes g false flags (exact_passes g false flags are) may refl
