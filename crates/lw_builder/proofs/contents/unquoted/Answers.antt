use Rattle.std.proofs.Common.{◌∙◌, ◌-◌, ap, sym, take, drop}
use Rattle.std.specs.Prelude.{chars, encode_utf8_all}
use Rattle.lw_builder.proofs.Texts.{kept_text, inner_said}
use Rattle.lw_builder.proofs.contents.unquoted.Goals as goal

pub returns-then-count-lt2 : goal.returns-then-count-lt2
returns-then-count-lt2 c = kept_text c.args.text _ c.character_count-count.result c.text-2.ensures.text c.character_count-count.ensures c.if-count-lt2.true

pub returns : goal.returns
returns c =
    inner_said c.read_escapes.result c.args.text _ c.as_str.result.now c.character_count-count.result c.text-2.ensures.text c.character_count-count.ensures
    c.if-count-lt2.false
    (c.as_str.ensures.value ∙ c.in_ok-inner.ensures
    ∙ ap (λ l. encode_utf8_all (take (c.character_count-count.result - 2) (drop 1 (chars l)))) (c.text-3.ensures.text ∙ sym c.text-2.ensures.text))
    c.read_escapes.ensures
