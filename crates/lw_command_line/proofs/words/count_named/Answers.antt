use Rattle.std.proofs.Common.{◌≡◌, false, subst, true≢false, sym, lit<}
use Rattle.std.proofs.lemmas.Str.Parse.{without_leading_plus_none}
use Rattle.std.proofs.lemmas.Str.Pattern.{starts_char}
use Rattle.std.specs.Str.Parse.{IsNumeral, digits_value, without_leading_plus}
use Rattle.lw_command_line.proofs.WordLemmas.{count_is}
use Rattle.lw_command_line.proofs.words.count_named.Goals as goal

pub returns-in-Ok : goal.returns-in-Ok
returns-in-Ok c =
    let word = c.args.word.now in
    let parsed = c.in-Ok.ensures.value.0 in
    let plain = without_leading_plus_none word (λ plus. true≢false (sym ((starts_char 43 word false c.if-starts_with.ensures.cases (lit< tt) (lit< tt)).1 plus))) in
    count_is word c.in-Ok.count (subst (IsNumeral 10) plain parsed.0.0) (subst (λ w. c.in-Ok.count ≡ digits_value 10 w) plain parsed.1) c.if-word-gt4.false c.if-count-gt0.true
