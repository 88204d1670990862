use Rattle.std.proofs.Common.{ℕ, ◌<◌, ◌∷◌, ◌++◌, [], length, map, take, IsSome, sym, ap, ap₂, ◌∙◌, subst, arith}
use Rattle.std.proofs.lemmas.Bool.{false≢true}
use Rattle.std.proofs.lemmas.List.{map-append, take_more}
use Rattle.std.proofs.lemmas.Option.{get_or_from_slice_get, slice_get_within}
use Rattle.lw_types.specs.Gathered.{info_of}
use Rattle.lw_types.specs.declared.property_table.gathering.Met.{Met}
use Rattle.lw_types.proofs.property_table.gathering.met_infos.Goals as goal
use Rattle.lw_types.proofs.property_table.gathering.met_infos.Goals.{in-Some+in_ok-info+in_ok-push, in_default}

pub loop-at-preserved : goal.loop-at-preserved
loop-at-preserved c =
    let entries = c.args.props.now.entries in
    let i = c.loop-at.at in
    elim c.match-get_index.branch [
      | in-Some+in_ok-info+in_ok-push w ↦
          let e : ℕ × Met = (w.in-Some.prop.now, w.in-Some.met.now) in
          let there = sym w.in-Some.ensures.entry in
          let longer = take_more entries i e (slice_get_within entries i e there) ∙ ap (λ x. take i entries ++ x ∷ []) (get_or_from_slice_get entries i e e there) in
          ap (λ v. v.items) w.infos-is ∙ w.in_ok-push.ensures.items
          ∙ ap₂ (λ xs x. xs ++ x ∷ []) c.loop-at.invariant w.in_ok-info.ensures ∙ sym (map-append info_of (take i entries) (e ∷ [])) ∙ ap (map info_of) (sym longer)
      | in_default w ↦
          let inside : i < length entries = omega (arith, c.loop-at-test.true, c.len-at-end.ensures.len) in
          absurd (false≢true (subst IsSome w.in_default.is (c.get_index.ensures.found.1 inside)))
    ]
