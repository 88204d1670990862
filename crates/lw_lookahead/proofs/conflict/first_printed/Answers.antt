use Rattle.std.proofs.Common.{get_or, sym, ap, ◌∙◌, subst, arith, rules, true≢false}
use Rattle.std.proofs.lemmas.List.{take_all}
use Rattle.lw_grammar.specs.KindTexts.{texts_of}
use Rattle.lw_first.specs.declared.heads.head.Head.TheVariants.{Nothing}
use Rattle.lw_first.specs.Heads.{seen_in}
use Rattle.lw_lookahead.specs.Printed.{window_text}
use Rattle.lw_lookahead.specs.Shared.{IsFirstPrintedOf}
use Rattle.lw_lookahead.proofs.FirstPrinted.{IsOne, kept_next, passed_next}
use Rattle.lw_lookahead.proofs.conflict.first_printed.Goals as goal

pub loop-head-init : goal.loop-head-init
loop-head-init c kinds of head one = absurd (omega (arith, one.0.1))

pub loop-head-preserved-then-not-is_first_way : goal.loop-head-preserved-then-not-is_first_way
loop-head-preserved-then-not-is_first_way c kinds of =
    passed_next (texts_of kinds) c.args.k c.args.ways.now.entries c.args.way c.args.heads.now c.loop-head.head-index Nothing c.loop-head-test.true
    (λ has. true≢false (sym ((c.is_first_way.ensures c.args.k c.requires.entries).1 has) ∙ search rules)) c.loop-head.least (c.loop-head.invariant kinds of)

pub window-requires-clause-few : goal.window-requires-clause-few
window-requires-clause-few c =
    c.requires.entries.short (get_or c.args.heads.now c.loop-head.head-index Nothing) c.args.way ((c.is_first_way.ensures c.args.k c.requires.entries).0 (search rules))

pub loop-head-preserved : goal.loop-head-preserved
loop-head-preserved c kinds of =
    kept_next (texts_of kinds) c.args.k c.args.ways.now.entries c.args.way c.args.heads.now c.loop-head.head-index Nothing c.loop-head-test.true
    ((c.is_first_way.ensures c.args.k c.requires.entries).0 (search rules)) c.in_ok-text.text
    (c.in_ok-text.ensures kinds of ∙ ap (window_text (texts_of kinds)) (ap seen_in c.as_slice.ensures.value ∙ c.window.ensures)) c.loop-head.least (c.loop-head.invariant kinds of) c.keep_first.new.least c.keep_first.ensures

pub returns : goal.returns
returns c kinds of =
    subst (λ heads. IsFirstPrintedOf (texts_of kinds) c.args.k (IsOne (texts_of kinds) c.args.k c.args.ways.now.entries c.args.way heads) c.loop-head.least)
    (take_all c.loop-head.head-index c.args.heads.now c.loop-head-test.false) (c.loop-head.invariant kinds of)
