use Rattle.std.proofs.Common.{◌≡◌, ◌+◌, ◌-◌, false, Some, length, vec_len, drop, slice_get, set, subst, sym, ap, ◌∙◌, inl, inr, arith}
use Rattle.std.specs.Vec.{with_items}
use Rattle.std.proofs.lemmas.Bool.{cases_eq}
use Rattle.std.proofs.lemmas.List.{with_items_is}
use Rattle.lw_matching.specs.Rows.{IsRow, end_from}
use Rattle.lw_matching.proofs.LengthLemmas.{set_there, set_elsewhere}
use Rattle.lw_matching.proofs.lengths.lengths.start_lengths.Goals as goal

pub loop-step-preserved : goal.loop-step-preserved
loop-step-preserved c =
    let inv = c.loop-step.invariant in
    let nfa = c.args.nfa.now in
    let text = c.args.text.now in
    let at = length text - c.loop-step.step in
    let lengths = c.loop-step.lengths.items in
    let found : c.start_length.result ≡ end_from nfa (drop at text) nfa.start 0 = c.start_length.ensures.length in
    let row_is : c.swap.new.x.items ≡ c.fill_row.new.row =
    ap (λ v. v.items) c.swap.ensures.x_after
    ∙ with_items_is (with_items c.loop-step.row c.start_length.new.row) c.fill_row.new.row (c.fill_row.ensures.count ∙ sym inv.row) in
    let is_row : IsRow nfa text at false c.fill_row.new.row = c.fill_row.ensures.row in
    record {
      row = ap (λ v. vec_len v) c.swap.ensures.y_after ∙ inv.behind;
      behind = ap (λ v. vec_len v) c.swap.ensures.x_after ∙ inv.row;
      is_row = λ a here below. let same : at ≡ a + 1 = omega (arith, here, below) in
          subst (λ n. IsRow nfa text n false c.swap.new.x.items) same (subst (IsRow nfa text at false) (sym row_is) is_row);
      count = inv.count;
      each = λ a past within. elim (cases_eq a at) [
        | inl same ↦ subst (λ n. slice_get (set lengths at c.start_length.result) n ≡ Some (end_from nfa (drop n text) nfa.start 0)) (sym same)
            (set_there lengths at c.start_length.result (omega (arith, inv.count)) ∙ ap Some found)
        | inr other ↦ set_elsewhere lengths at c.start_length.result a other (omega (arith, inv.count, within))
            ∙ inv.each a (omega (arith, past, within, other, c.loop-step-test.true)) within
      ];
    }
