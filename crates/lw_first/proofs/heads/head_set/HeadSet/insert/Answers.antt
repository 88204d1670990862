use Rattle.std.proofs.Common.{◌≡◌, sym, subst}
use Rattle.std.specs.List.{AllByRecursion}
use Rattle.lw_first.specs.Heads.{kinds_in}
use Rattle.lw_first.specs.Sets.{AddsHeads, HasSmallKinds}
use Rattle.lw_first.proofs.Distinct.{adds_inserted, distinct_heads, small_inserted}
use Rattle.lw_first.proofs.heads.head_set.HeadSet.insert.Goals as goal

pub invariant_of-self-2 : goal.invariant_of-self-2
invariant_of-self-2 c =
    let old = c.self.inside.heads.keys in
    let new = c.insert.new.self.keys in (
      distinct_heads new c.in_ok-insert.ensures.unique,
      subst (AllByRecursion HasSmallKinds) (sym c.in_ok-insert.ensures.keys) (small_inserted old c.args.head c.self.invariant.1 c.has_small_kinds.ensures),
    )

pub returns-clause-adds : goal.returns-clause-adds
returns-clause-adds c =
    let head = c.args.head in
    subst (λ old. AddsHeads (λ h. h ≡ kinds_in head) old c.insert.new.self.keys) c.self.view_is
    (subst (AddsHeads (λ h. h ≡ kinds_in head) c.self.inside.heads.keys) (sym c.in_ok-insert.ensures.keys) (adds_inserted c.self.inside.heads.keys head))
