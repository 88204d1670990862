use Rattle.std.proofs.Common.{◌≡◌, ◌++◌, take}
use Rattle.std.specs.Prelude.{string_bytes}
use Rattle.lw_grammar.specs.Kinds.{AreKinds, Kinds}
use Rattle.lw_grammar.specs.KindTexts.{texts_of}
use Rattle.lw_first.specs.Heads.{seen_in}
use Rattle.lw_lookahead.specs.Printed.{spaced}
use Rattle.lw_lookahead.proofs.printed.push_others.Given as goal

abbrev pub invariant-loop-seen : goal.invariant-loop-seen
invariant-loop-seen l =
    (kinds : Kinds) → AreKinds l.lexicon.g.now kinds →
    string_bytes l.text ≡ string_bytes l.fn.text ++ spaced (texts_of kinds) (seen_in (take l.seen-index l.others))
