use Rattle.std.proofs.Common.{ap, ◌∙◌}
use Rattle.std.proofs.lemmas.List.{drop_more}
use Rattle.lw_terminals.proofs.UnescapingLemmas.{second_of_pair, first_of_pair, no_pair}
use Rattle.lw_terminals.proofs.patterns.unescaping.unescaped_bytes.Goals as goal
use Rattle.lw_terminals.proofs.patterns.unescaping.unescaped_bytes.Goals.{then-after_backslash+in_ok-push_pair, else-after_backslash+then-byte-eq92, else-after_backslash+else-byte-eq92+in_ok-push}

pub loop-byte-preserved : goal.loop-byte-preserved
loop-byte-preserved c =
    let here = drop_more c.args.pattern.now c.loop-byte.byte-index 0 c.loop-byte-test.true in
    elim c.if-after_backslash.branch [
      | then-after_backslash+in_ok-push_pair w ↦
          second_of_pair c.args.pattern.now c.loop-byte.byte-index _ here c.loop-byte.bytes.items _ _ _ c.loop-byte.invariant w.if-after_backslash.true
          w.after_backslash-is (ap (λ v. v.items) w.bytes-is ∙ w.in_ok-push_pair.ensures)
      | else-after_backslash+then-byte-eq92 w ↦
          first_of_pair c.args.pattern.now c.loop-byte.byte-index _ here c.loop-byte.bytes.items _ _ _ c.loop-byte.invariant w.if-after_backslash.false
          w.if-byte-eq92.true w.after_backslash-is (ap (λ v. v.items) w.bytes-is)
      | else-after_backslash+else-byte-eq92+in_ok-push w ↦
          no_pair c.args.pattern.now c.loop-byte.byte-index _ here c.loop-byte.bytes.items _ _ _ c.loop-byte.invariant w.if-after_backslash.false
          w.if-byte-eq92.false w.after_backslash-is (ap (λ v. v.items) w.bytes-is ∙ w.in_ok-push.ensures.items)
    ]
