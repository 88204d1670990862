use Rattle.std.proofs.Common.{◌⊎◌}
use Rattle.std.proofs.lemmas.Result.{on_ok_weaker}
use Rattle.lw_faults.specs.Derivations.{LeftRecursion, ReadsNothing, RepeatsNothing, NeverEnds}
use Rattle.lw_faults.specs.Finding.{IsFaultOf}
use Rattle.lw_kinds.proofs.FindsLemmas.{Finds-then}
use Rattle.lw_kinds.proofs.derivations.finding.find_derivation_faults.Goals as goal

pub returns : goal.returns
returns c =
    let g = c.args.g.now in
    let left = c.find_left_recursion.new.found in
    let nothing = c.find_reading_nothing.new.found in
    let repeats = c.find_repeating_nothing.new.found in
    let new = c.find_never_ending.new.found in
    on_ok_weaker c.find_never_ending.result
    (λ ends.
    Finds-then (IsFaultOf 7 (LeftRecursion g)) (λ f. IsFaultOf 8 (ReadsNothing g) f ⊎ IsFaultOf 9 (RepeatsNothing g) f ⊎ IsFaultOf 10 (NeverEnds g) f) _ (λ f. (λ is. is, λ is. is))
    c.args.found.now left new c.in_ok-find_left_recursion.ensures
    (Finds-then (IsFaultOf 8 (ReadsNothing g)) (λ f. IsFaultOf 9 (RepeatsNothing g) f ⊎ IsFaultOf 10 (NeverEnds g) f) _ (λ f. (λ is. is, λ is. is)) left nothing new
    c.in_ok-find_reading_nothing.ensures
    (Finds-then (IsFaultOf 9 (RepeatsNothing g)) (IsFaultOf 10 (NeverEnds g)) _ (λ f. (λ is. is, λ is. is)) nothing repeats new c.in_ok-find_repeating_nothing.ensures ends)))
    c.find_never_ending.ensures
