use Rattle.std.proofs.Common.{◌≡◌, Some, slice_get, ap, sym, ◌∙◌}
use Rattle.std.proofs.lemmas.Option.{slice_get-get_or}
use Rattle.lw_symbols.proofs.RunLemmas.{next_there, none_there}
use Rattle.lw_symbols.proofs.runs.next_run.Goals as goal
use Rattle.lw_symbols.proofs.runs.next_run.Goals.{else-s-container-via-then-s-container+else-s-hash, else-s-container-via-else-s-container}

pub returns-then-s-hash : goal.returns-then-s-hash
returns-then-s-hash c =
    let look = c.in-Some.ensures.lookup.3 in
    let there : slice_get c.args.symbols.now c.first_from-place.result ≡ Some c.in-Some.s.now =
    slice_get-get_or c.args.symbols.now c.first_from-place.result c.in-Some.s.now look.0 ∙ ap Some (sym (look.1 c.in-Some.s.now)) in
    next_there c.args.container c.args.hash c.args.low c.args.symbols.now c.requires.sorted c.first_from-place.result c.first_from-place.ensures.before
    c.first_from-place.ensures.behind c.in-Some.s.now there (c.if-s-container.true, c.if-s-hash.true)

pub returns-else-s-container : goal.returns-else-s-container
returns-else-s-container c =
    let look = c.in-Some.ensures.lookup.3 in
    let there : slice_get c.args.symbols.now c.first_from-place.result ≡ Some c.in-Some.s.now =
    slice_get-get_or c.args.symbols.now c.first_from-place.result c.in-Some.s.now look.0 ∙ ap Some (sym (look.1 c.in-Some.s.now)) in
    none_there c.args.container c.args.hash c.args.low c.args.symbols.now c.requires.sorted c.first_from-place.result c.first_from-place.ensures.before
    c.first_from-place.ensures.behind c.in-Some.s.now there
    (λ group. elim c.else-s-container.branch [
      | else-s-container-via-then-s-container+else-s-hash w ↦ w.if-s-hash.false group.1
      | else-s-container-via-else-s-container w ↦ w.if-s-container.false group.0
    ])
