-- One byte more of the word, and where there is none.
use Rattle.std.proofs.Common.{◌≡◌, ◌-◌, true, false, All, slice_index_or, sym, ap, ◌∙◌, subst, arith}
use Rattle.std.proofs.lemmas.List.Elements.{All-cons}
use Rattle.lw_gramlex.specs.FileTokens.{is_word_part}
use Rattle.lw_complete.proofs.TypedWords.{is_ascii, one_more, typed_at}
use Rattle.lw_complete.proofs.words.word_start.Goals as goal

pub word-preserved : goal.word-preserved
word-preserved c =
    let text = c.args.text.now in
    let start = c.word.start in
    let is : is_word_part (slice_index_or text (start - 1) 0) ≡ true =
    ap (λ bytes. is_word_part (slice_index_or bytes (start - 1) 0)) (sym c.as_bytes-bytes.ensures.value) ∙ sym c.is_word_part.ensures ∙ c.if-is_word_part.true in
    record {
      within = omega (arith, c.word.invariant.within);
      are =
          subst (All (λ b. is_word_part b ≡ true)) (sym (one_more text start c.args.off c.word-test.true c.word.invariant.within c.requires.0))
          (All-cons (λ b. is_word_part b ≡ true) (slice_index_or text (start - 1) 0) _ is c.word.invariant.are);
      boundary = (
        omega (arith, c.word.invariant.within, c.requires.0),
        λ inside high. absurd (omega (arith, high, is_ascii (slice_index_or text (start - 1) 0) is)),
      );
    }

pub returns-else-is_word_part-clause-typed : goal.returns-else-is_word_part-clause-typed
returns-else-is_word_part-clause-typed c =
    let text = c.args.text.now in
    let start = c.word.start in
    let is : is_word_part (slice_index_or text (start - 1) 0) ≡ false =
    ap (λ bytes. is_word_part (slice_index_or bytes (start - 1) 0)) (sym c.as_bytes-bytes.ensures.value) ∙ sym c.is_word_part.ensures ∙ c.if-is_word_part.false in
    typed_at text start c.args.off c.word.invariant.within c.requires.0 c.word.invariant.are (λ some. is)
