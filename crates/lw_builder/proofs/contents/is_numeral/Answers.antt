use Rattle.std.proofs.Common.{ap, ◌∙◌}
use Rattle.std.specs.Str.Parse.{without_leading_sign}
use Rattle.lw_builder.proofs.Numerals.{numeral_told}
use Rattle.lw_builder.proofs.contents.is_numeral.Goals as goal

pub returns-then-not-is_empty : goal.returns-then-not-is_empty
returns-then-not-is_empty c =
    numeral_told c.are_digits.result c.without_sign-digits.result.now _ (c.without_sign-digits.ensures ∙ ap (λ l. without_leading_sign l) c.as_bytes.ensures.value)
    c.if-not-is_empty.true c.is_empty.ensures c.are_digits.ensures.0 c.are_digits.ensures.1
