use Rattle.std.proofs.Common.{◌≡◌, [], List, Some, replicate, slice_get, slice_set, get_or, sym, ap, ◌∙◌, subst, arith}
use Rattle.std.proofs.lemmas.List.{get_or-replicate, length-replicate}
use Rattle.std.proofs.lemmas.Option.{slice_get_read, slice_get_within}
use Rattle.lw_first.specs.declared.heads.head.Head.{Head}
use Rattle.lw_first.specs.Sets.{AddsHeads}
use Rattle.lw_first.specs.FollowRounds.{AreFirstAfters}
use Rattle.lw_first.proofs.Beginning.{one_first}
use Rattle.lw_first.proofs.follow.rounds.first_sets.Goals as goal

pub returns-clause-first : goal.returns-clause-first
returns-clause-first c =
    let g = c.args.g.now in
    let rule = c.in-Some.rule in
    let entry = c.in-Some.ensures in
    let count = c.len.result in
    let set = c.insert.new.self in
    let old = c.index_mut.result.now in
    let empty = c.in_ok-sets.ensures in
    let inside = slice_get_within g.rules rule entry.0 entry.1.there in
    let old_is : old ≡ [] = c.index_mut.ensures.value ∙ ap (λ (sets : List (List Head)). get_or sets rule old) empty ∙ get_or-replicate count rule [] old (omega (arith, inside, c.len.ensures)) in
    let at : slice_get (replicate {A = List Head} count []) rule ≡ Some [] =
    slice_get_read (replicate {A = List Head} count []) count rule [] (sym (length-replicate count [])) (omega (arith, inside, c.len.ensures))
    (sym (get_or-replicate count rule [] [] (omega (arith, inside, c.len.ensures)))) in
    subst (λ (sets : List (List Head)). AreFirstAfters g (slice_set sets rule set)) (sym empty)
    (one_first g count rule entry set at (subst (λ (heads : List Head). AddsHeads (λ h. h ≡ []) heads set) old_is c.in_ok-insert.ensures.adds))
