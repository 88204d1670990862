use Rattle.std.proofs.Common.{◌≡◌, ◌-◌, take, drop, subst}
use Rattle.std.specs.Prelude.{IfOk, chars, encode_utf8_all, string_bytes}
use Rattle.std.proofs.lemmas.Iterator.{text_from_collect, YieldsList-from_chars, YieldsList-from_take}
use Rattle.std.proofs.lemmas.Iterator.Adapters.{YieldsList-from_skip}
use Rattle.lw_builder.proofs.contents.characters_within.Goals as goal

pub returns : goal.returns
returns c =
    let h = text_from_collect _ c.collect.ensures.ran (YieldsList-from_take (c.args.count - 2) (YieldsList-from_skip 1 (YieldsList-from_chars c.args.text.now c.utf8.text cc) cc) cc) in
    let k = subst (λ r. IfOk r (λ w. string_bytes w ≡ encode_utf8_all (take (c.args.count - 2) (drop 1 (chars c.args.text.now))))) c.in_ok-inner.was h in
    k
