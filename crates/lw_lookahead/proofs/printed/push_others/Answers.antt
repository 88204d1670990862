use Rattle.std.proofs.Common.{◌≡◌, ◌++◌, sym, subst, append-nil}
use Rattle.std.specs.Prelude.{string_bytes}
use Rattle.std.proofs.lemmas.List.{take_all}
use Rattle.lw_grammar.specs.KindTexts.{texts_of}
use Rattle.lw_first.specs.Heads.{seen_in}
use Rattle.lw_lookahead.specs.Printed.{spaced}
use Rattle.lw_lookahead.proofs.PrintSteps.{pushes_more}
use Rattle.lw_lookahead.proofs.printed.push_others.Goals as goal

pub loop-seen-init : goal.loop-seen-init
loop-seen-init c kinds of = sym (append-nil (string_bytes c.args.text.now))

pub loop-seen-preserved : goal.loop-seen-preserved
loop-seen-preserved c kinds of =
    pushes_more (texts_of kinds) (string_bytes c.args.text.now) (string_bytes c.loop-seen.text) (string_bytes c.push_str.new.self) (string_bytes c.push_seen.new.text)
    c.args.others.now c.loop-seen.seen-index _ c.loop-seen-test.true (c.loop-seen.invariant kinds of) c.in_ok-push_str.ensures.bytes (c.in_ok-push_seen.ensures kinds of)

pub returns : goal.returns
returns c kinds of =
    subst (λ others. string_bytes c.loop-seen.text ≡ string_bytes c.args.text.now ++ spaced (texts_of kinds) (seen_in others))
    (take_all c.loop-seen.seen-index c.args.others.now c.loop-seen-test.false) (c.loop-seen.invariant kinds of)
