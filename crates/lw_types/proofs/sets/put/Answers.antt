use Rattle.std.proofs.Common.{◌≡◌, slice_set, length, refl, sym, subst}
use Rattle.std.specs.FinSet.{FinSet}
use Rattle.std.specs.Ordering.{nat_cmp}
use Rattle.std.proofs.lemmas.Option.{slice_get_read}
use Rattle.std.proofs.lemmas.Result.{on_ok_weaker}
use Rattle.lw_types.specs.Sets.{WidensSets}
use Rattle.lw_types.proofs.SetLemmas.{widened}
use Rattle.lw_types.proofs.sets.put.Goals as goal

pub returns : goal.returns
returns c =
    let sets = c.args.sets.now.items in
    let there = slice_get_read sets (length sets) c.args.high c.index_mut.result.now refl c.requires c.index_mut.ensures.value in
    let P : FinSet nat_cmp → Type 0 = λ s. WidensSets (λ h. h ≡ c.args.high) c.args.low sets (slice_set sets c.args.high s) in
    on_ok_weaker c.add.result (λ is. subst P (sym is) (widened sets c.args.high c.args.low c.index_mut.result.now there)) c.add.ensures.ok
