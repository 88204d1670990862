use Rattle.std.proofs.Common.{◌≡◌, ◌∷◌, sym, ◌∙◌, ap}
use Rattle.lw_gramlex.specs.FileTokens.IsWord.{plain, marked}
use Rattle.lw_gramlex.proofs.Answers.{answer_weaker}
use Rattle.lw_gramlex.proofs.WordLemmas.{word_none_marked, word_none_plain}
use Rattle.lw_gramlex.proofs.word.word_length.Goals as goal

pub returns-in_err-plain_word_length : goal.returns-in_err-plain_word_length
returns-in_err-plain_word_length c =
    let begins : c.args.rest.now ≡ 94 ∷ c.in_ok-first.after.now = sym c.as_bytes-bytes.ensures.value ∙ c.in_ok-first.ensures.cases.0 ∙ ap (λ b. b ∷ c.in_ok-first.after.now) c.if-first-eq94.true in
    rw c.from_residual-in_err-plain_word_length.ensures (word_none_marked c.args.rest.now c.in_ok-first.after.now begins c.in_err-plain_word_length.ensures)

pub returns-in_ok-plain_word_length : goal.returns-in_ok-plain_word_length
returns-in_ok-plain_word_length c =
    let begins : c.args.rest.now ≡ 94 ∷ c.in_ok-first.after.now = sym c.as_bytes-bytes.ensures.value ∙ c.in_ok-first.ensures.cases.0 ∙ ap (λ b. b ∷ c.in_ok-first.after.now) c.if-first-eq94.true in
    marked c.in_ok-first.after.now begins c.in_ok-plain_word_length.ensures

pub returns-else-first-eq94 : goal.returns-else-first-eq94
returns-else-first-eq94 c =
    let begins : c.args.rest.now ≡ c.in_ok-first.first.now ∷ c.in_ok-first.after.now = sym c.as_bytes-bytes.ensures.value ∙ c.in_ok-first.ensures.cases.0 in
    answer_weaker _ (rw c.as_bytes-bytes.ensures.value at c.plain_word_length-else-first-eq94.ensures) (word_none_plain c.args.rest.now c.in_ok-first.after.now c.in_ok-first.first.now begins c.if-first-eq94.false) (λ n p. plain p)
