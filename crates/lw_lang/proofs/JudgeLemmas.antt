-- Faults of a grammar have places in the texts of its files, so they can be told.
use Rattle.std.proofs.Common.{ℕ, suc, ◌<◌, List, [], ◌∷◌, Option, Err, All, length, Contains, refl, arith}
use Rattle.std.proofs.lemmas.List.Elements.{All-cons}
use Rattle.lw_grammar.specs.declared.fault.GrammarFault.{GrammarFault}
use Rattle.lw_grammar.specs.declared.grammar.Grammar.{Grammar}
use Rattle.lw_gramcheck.specs.Judging.{AreFirstFaults}
use Rattle.lw_gramcheck.specs.Judging as judging
use Rattle.lw_load.specs.Standing.{Stands}
use Rattle.lw_lang.specs.Placed.{HasPlace}
use Rattle.lw_lang.proofs.Places.{type_fault_placed, check_fault_placed}
use Rattle.lw_lang.specs.Judged.{IsJudged}
use Rattle.lw_lang.specs.Compiled.{GrammarCauses, CountsPatterns, KeepsPatterns}
use Rattle.lw_lang.specs.declared.fault.CompileFault.{CompileFault}
use Rattle.lw_lang.specs.declared.fault.CompileFault.TheVariants as fault

-- what holds of each item of a list
all_of : {X : Type 0} (P : X → Type 0) (xs : List X) → ((x : X) → Contains xs x → P x) → All P xs
all_of P [] each = λ i d inside. absurd (omega (arith, inside))
all_of P (x ∷ xs) each = All-cons P x xs (each x (0, omega arith, refl)) (all_of P xs (λ y (k, inside, is). each y (suc k, omega (arith, inside), is)))

module _ (texts : List (List ℕ)) (g : Grammar) (stands : Stands texts g) (root : 0 < length g.files) where
  each_placed : (faults : List GrammarFault) → AreFirstFaults g faults → (f : GrammarFault) → Contains faults f → HasPlace texts f
  each_placed faults (judging.of_types are some) f has = type_fault_placed texts g stands f ((are.all f).0 has)
  each_placed faults (judging.of_checks none are some) f has = check_fault_placed texts g stands root f ((are.all f).0 has)

  pub all_placed : (faults : List GrammarFault) → AreFirstFaults g faults → All (HasPlace texts) faults
  all_placed faults are = all_of (HasPlace texts) faults (each_placed faults are)

-- ---- a fault that judging a grammar gives

module _ (g : Grammar) (texts : List (List ℕ)) where
  -- is one by the grammar
  pub judged_causes : (k : ℕ) (refused : Option (List ℕ)) (f : CompileFault) → IsJudged g texts f → GrammarCauses g texts k refused f
  judged_causes k refused (fault.Faults told) is = is
  judged_causes k refused fault.NoMemory is = tt
  judged_causes k refused (fault.Load found) is = absurd is
  judged_causes k refused (fault.Term found) is = absurd is
  judged_causes k refused (fault.Look found) is = absurd is

  -- and leaves the patterns as they are
  pub judged_counts : (T : Type 0) (n : ℕ) (f : CompileFault) → IsJudged g texts f → CountsPatterns {T = T} n n (Err f)
  judged_counts T n (fault.Faults told) is = refl
  judged_counts T n fault.NoMemory is = refl
  judged_counts T n (fault.Load found) is = absurd is
  judged_counts T n (fault.Term found) is = absurd is
  judged_counts T n (fault.Look found) is = absurd is

  pub judged_keeps : (T : Type 0) (last : Option (List ℕ)) (f : CompileFault) → IsJudged g texts f → KeepsPatterns {T = T} last last (Err f)
  judged_keeps T last (fault.Faults told) is = refl
  judged_keeps T last fault.NoMemory is = refl
  judged_keeps T last (fault.Load found) is = absurd is
  judged_keeps T last (fault.Term found) is = absurd is
  judged_keeps T last (fault.Look found) is = absurd is
