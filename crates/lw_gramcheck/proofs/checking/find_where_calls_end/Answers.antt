use Rattle.std.proofs.Common.{true≢false, sym, ◌∙◌}
use Rattle.std.proofs.lemmas.Result.{on_ok_weaker}
use Rattle.lw_faults.proofs.Joining.{Finds-iff, Finds-nothing}
use Rattle.lw_gramcheck.proofs.checking.find_where_calls_end.Goals as goal

pub returns-then-not-has_no_circle : goal.returns-then-not-has_no_circle
returns-then-not-has_no_circle c = Finds-nothing (λ f so. true≢false (sym so.0 ∙ c.if-not-has_no_circle.true))

pub returns : goal.returns
returns c = on_ok_weaker c.find_reading_faults.result (λ found. Finds-iff (λ f. (λ is. (c.if-not-has_no_circle.false, is), λ so. so.1)) found) c.find_reading_faults.ensures
