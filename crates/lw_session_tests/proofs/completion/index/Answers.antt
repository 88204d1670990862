use Rattle.std.proofs.Common.{◌≡◌, Some, sym, subst, ◌∙◌}
use Rattle.std.proofs.lemmas.Option.{none-some}
use Rattle.std.specs.FinMap.{get, get-empty}
use Rattle.std.specs.Ordering.{nat_cmp}
use Rattle.lw_session_tests.proofs.completion.index.Goals as goal

-- no document has the address yet
pub set-requires : goal.set-requires
set-requires g c other document at same = absurd (none-some document (sym (get-empty nat_cmp other) ∙ subst (λ index. get index other ≡ Some document) c.new-index.ensures at))
