use Rattle.std.proofs.Common.{Some, length, sym, ap, ◌∙◌, subst}
use Rattle.std.proofs.lemmas.Option.{slice_get-get_or}
use Rattle.lw_types.specs.Sets.{AreSetsOf}
use Rattle.lw_types.proofs.SetLemmas.{numbers_below}
use Rattle.lw_types.proofs.types.Types.subs.Goals as goal

pub returns : goal.returns
returns c = λ g high are at.
    let sets = c.args.self.now.types.below.items in
    let table = c.args.self.now.types.subtypes in
    let there = slice_get-get_or sets c.args.t.0 c.index.result.now c.requires ∙ ap Some (sym c.index.ensures) in
    let of = subst (λ n. AreSetsOf table n n sets) (ap length are.rules.numbers.types) are.types.below in
    numbers_below g table sets are.types.subtypes of c.args.t.0 high c.index.result.now at there
