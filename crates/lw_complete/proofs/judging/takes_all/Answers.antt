use Rattle.std.proofs.Common.{◌↔◌, ◌≡◌, ◌∙◌, ◌-◌, IfOk, IsTrue, List, Some, length, slice_get, sym, ap, subst, arith}
use Rattle.lw_base.specs.declared.token.Token.{Token}
use Rattle.lw_lexer.specs.Recut.{added}
use Rattle.lw_tokens.specs.Cut.{visible}
use Rattle.lw_complete.specs.Starts.{TakesAll}
use Rattle.lw_complete.proofs.WrittenThere.{takes_name, takes_never}
use Rattle.lw_complete.proofs.judging.takes_all.Goals as goal
use Rattle.lw_complete.proofs.judging.takes_all.Goals.{in_default, in_default-2}

pub returns-in-Some-Some : goal.returns-in-Some-Some
returns-in-Some-Some c of lexicon typing is =
    let written = c.args.written.now in
    let tokens = c.in_ok-tokens.tokens.items in
    let first = c.in-Some-Some.first.now in
    let last = c.in-Some-Some.last.now in
    let starts : slice_get tokens 0 ≡ Some first =
    ap (λ (ts : List Token). slice_get ts 0) (sym c.deref.ensures.value) ∙ sym c.in-Some-Some.ensures.value in
    let ends : slice_get tokens (length tokens - 1) ≡ Some last =
    ap (λ (ts : List Token). slice_get ts (length ts - 1)) (sym c.deref-2.ensures.value) ∙ sym c.in-Some-Some.ensures'.value in
    let takes = takes_name of lexicon typing written is tokens (c.in_ok-tokens.ensures ∙ ap visible c.added.ensures) first last starts ends in
    let told = rw (c.bytes-end.ensures.bytes, c.bytes.ensures.bytes) at c.stand_between.ensures in
    (λ yes. takes.0 (told.0 yes), λ so. told.1 (takes.1 so))

pub returns : goal.returns
returns c of lexicon typing is =
    let written = c.args.written.now in
    let shown : c.in_ok-tokens.tokens.items ≡ visible (added written.recut.now) =
    c.in_ok-tokens.ensures ∙ ap visible c.added.ensures in
    elim c.match-first.branch [
      | in_default w ↦ subst (λ r. IfOk r (λ takes. IsTrue takes ↔ TakesAll typing written)) (sym w.result-is)
          (takes_never of lexicon typing written is c.deref-2.result.now (c.deref-2.ensures.value ∙ shown) (length c.deref-2.result.now - 1) (omega arith)
          w.in_default.ensures'.value)
      | in_default-2 w ↦ subst (λ r. IfOk r (λ takes. IsTrue takes ↔ TakesAll typing written)) (sym w.result-is)
          (takes_never of lexicon typing written is c.deref.result.now (c.deref.ensures.value ∙ shown) 0 (omega arith) w.in_default.ensures.value)
    ]
