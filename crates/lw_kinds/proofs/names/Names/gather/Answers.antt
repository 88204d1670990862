use Rattle.std.proofs.Common.{◌≡◌, ◌+◌, Some, false, true≢false, slice_get, length, refl, sym, ap, ◌∙◌, subst}
use Rattle.std.specs.Prelude.{replicate}
use Rattle.std.proofs.lemmas.Option.{slice_get_read}
use Rattle.lw_kinds.specs.Gathering.{IsGatheredBelow}
use Rattle.lw_kinds.proofs.RowLemmas.{gathered_none, gathered_more, gathered_same}
use Rattle.lw_kinds.proofs.names.Names.gather.Goals as goal
use Rattle.lw_kinds.proofs.names.Names.gather.Goals.{then-is_reached+in_ok-add_element, else-is_reached}

pub loop-number-init : goal.loop-number-init
loop-number-init c =
    let g = c.args.self.now.g.now in
    gathered_none g c.in_ok-gathered.gathered c.in_ok-gathered.ensures.keywords (c.in_ok-gathered.ensures.called ∙ ap (λ n. replicate n false) c.len.ensures)

pub loop-number-preserved : goal.loop-number-preserved
loop-number-preserved c =
    let g = c.args.self.now.g.now in
    let i = c.loop-number.number in
    let rule = c.rule-item.result in
    let rules = c.as_slice-rule-items.result.now in
    let there =
    subst (λ xs. slice_get xs i ≡ Some rule) c.as_slice-rule-items.ensures (slice_get_read rules (length rules) i rule refl c.loop-number-test.true c.rule-item.is) in
    let old = c.loop-number.gathered in
    let reached = c.is_reached.ensures.reached g c.requires.read in
    elim c.if-is_reached.branch [
      | then-is_reached+in_ok-add_element w ↦
          subst (IsGatheredBelow g (i + 1)) (sym w.gathered-is)
          (gathered_more g i rule there old w.add_element.new.gathered c.loop-number.invariant (reached.0 w.if-is_reached.true) w.in_ok-add_element.ensures)
      | else-is_reached w ↦
          gathered_same g i rule there old c.if-is_reached.gathered c.loop-number.invariant (λ is. true≢false (sym (reached.1 is) ∙ w.if-is_reached.false)) w.gathered-is
    ]
