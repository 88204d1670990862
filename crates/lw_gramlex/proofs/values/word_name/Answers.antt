use Rattle.std.proofs.Common.{◌≡◌, ◌∷◌, ap, sym, arith, Some, None}
use Rattle.std.proofs.lemmas.Str.Pattern.{strip_prefix_char}
use Rattle.lw_gramlex.specs.Values.{word_name}
use Rattle.lw_gramlex.proofs.ValueLemmas.{word_name_unmarked}
use Rattle.lw_gramlex.proofs.values.word_name.Goals as goal

pub returns-in-Some : goal.returns-in-Some
returns-in-Some c =
    let marked : c.args.token.now ≡ 94 ∷ c.in-Some.name.now = strip_prefix_char 94 c.args.token.now (Some c.in-Some.name) c.in-Some.ensures.cases (omega arith) in
    sym (ap word_name marked)

pub returns-in-None : goal.returns-in-None
returns-in-None c = word_name_unmarked c.args.token.now (strip_prefix_char 94 c.args.token.now None c.in-None.ensures.cases (omega arith))
