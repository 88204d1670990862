use Rattle.std.proofs.Common.{◌≡◌, ◌≤◌, length, ap, ◌∙◌, subst, arith, chars, true, false, string_bytes}
use Rattle.std.proofs.lemmas.Iterator.{YieldsList-from_chars}
use Rattle.std.proofs.lemmas.Iterator.Consumers.{YieldsList-turn, YieldsList-end}
use Rattle.std.proofs.lemmas.List.{length_push}
use Rattle.std.proofs.lemmas.Result.{IfOk-weaker}
use Rattle.lw_gramlex.specs.Values.{with_escapes_read}
use Rattle.lw_gramlex.proofs.ValueLemmas.{IsReadTo, none_read, pair_read, plain_read, backslash_read, all_read, all_read_but_one}
use Rattle.lw_gramlex.proofs.values.read_escapes.Goals as goal
use Rattle.lw_gramlex.proofs.values.read_escapes.Goals.{then-escaped-2+in_ok-push-3, else-escaped-2}

pub reading-init : goal.reading-init
reading-init c = rw c.new-value.ensures.bytes (none_read c.args.text.now c.utf8.text)

pub reading-preserved-then-escaped : goal.reading-preserved-then-escaped
reading-preserved-then-escaped c =
    let turn = YieldsList-turn (YieldsList-from_chars c.args.text.now c.utf8.text cc) c.reading.yielded _ c.reading.yielded_by _ _ c.in-Some.c c.in-Some.is c.next.ensures.steps in
    let before : IsReadTo c.args.text.now (string_bytes c.reading.value) (length c.reading.yielded) true = subst (IsReadTo c.args.text.now (string_bytes c.reading.value) (length c.reading.yielded)) c.if-escaped.true c.reading.invariant in
    rw (length_push, c.in_ok-push.ensures.bytes, c.escape_char.ensures) (pair_read c.args.text.now (string_bytes c.reading.value) (length c.reading.yielded) c.in-Some.c turn before)

pub reading-preserved-then-c-eq92 : goal.reading-preserved-then-c-eq92
reading-preserved-then-c-eq92 c =
    let turn = YieldsList-turn (YieldsList-from_chars c.args.text.now c.utf8.text cc) c.reading.yielded _ c.reading.yielded_by _ _ c.in-Some.c c.in-Some.is c.next.ensures.steps in
    let before : IsReadTo c.args.text.now (string_bytes c.reading.value) (length c.reading.yielded) false = subst (IsReadTo c.args.text.now (string_bytes c.reading.value) (length c.reading.yielded)) c.if-escaped.false c.reading.invariant in
    rw length_push (backslash_read c.args.text.now (string_bytes c.reading.value) (length c.reading.yielded) c.in-Some.c turn c.if-c-eq92.true before)

pub reading-preserved : goal.reading-preserved
reading-preserved c =
    let turn = YieldsList-turn (YieldsList-from_chars c.args.text.now c.utf8.text cc) c.reading.yielded _ c.reading.yielded_by _ _ c.in-Some.c c.in-Some.is c.next.ensures.steps in
    let before : IsReadTo c.args.text.now (string_bytes c.reading.value) (length c.reading.yielded) false = subst (IsReadTo c.args.text.now (string_bytes c.reading.value) (length c.reading.yielded)) c.if-escaped.false c.reading.invariant in
    rw (length_push, c.in_ok-push-2.ensures.bytes, c.if-escaped.false) (plain_read c.args.text.now (string_bytes c.reading.value) (length c.reading.yielded) c.in-Some.c turn c.if-c-eq92.false before)

pub returns : goal.returns
returns c =
    let end = YieldsList-end (YieldsList-from_chars c.args.text.now c.utf8.text cc) c.reading.yielded _ c.reading.yielded_by _ _ c.in-None.is c.next.ensures.steps in
    let n = length c.reading.yielded in
    let at_end : length (chars c.args.text.now) ≤ n = omega (arith, end.1) in
    let bytes = string_bytes c.reading.value in
    let own : string_bytes c.if-escaped-2.value ≡ with_escapes_read c.args.text.now = elim c.if-escaped-2.branch [
      | then-escaped-2+in_ok-push-3 w ↦ ap string_bytes w.value-is ∙ w.in_ok-push-3.ensures.bytes ∙ all_read_but_one c.args.text.now bytes n at_end (subst (IsReadTo c.args.text.now bytes n) w.if-escaped-2.true c.reading.invariant)
      | else-escaped-2 w ↦ ap string_bytes w.value-is ∙ all_read c.args.text.now bytes n at_end (subst (IsReadTo c.args.text.now bytes n) w.if-escaped-2.false c.reading.invariant)
    ] in
    IfOk-weaker c.from_text.result (λ name. name ≡ c.as_str.result.now) (λ name. name ≡ with_escapes_read c.args.text.now) (λ name is. is ∙ c.as_str.ensures.value ∙ own) c.from_text.ensures
