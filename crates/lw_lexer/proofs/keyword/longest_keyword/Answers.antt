use Rattle.std.proofs.Common.{◌≡◌, ◌<◌, List, length, get_or, slice_get, Some, refl, sym, ap, ◌∙◌, arith}
use Rattle.std.proofs.lemmas.Option.{slice_get_read, slice_get-get_or}
use Rattle.lw_lexer.proofs.KeywordLemmas.{best-longer_of, best_of_all, none_at_end}
use Rattle.lw_lexer.proofs.keyword.longest_keyword.Goals as goal

pub returns-in_err-first-clause-longest : goal.returns-in_err-first-clause-longest
returns-in_err-first-clause-longest c =
    rw c.from_residual.ensures
    (none_at_end c.args.set.now.lexicon.keywords c.keywords-keywords.ensures.kinds.keywords.not_empty c.args.text.now
    (ap (λ (bytes : List _). slice_get bytes 0) (sym c.as_bytes.ensures.value) ∙ sym c.in_err-first.ensures.value))

pub loop-place-preserved : goal.loop-place-preserved
loop-place-preserved c =
    let places = c.keywords_starting-place-items.result.now in
    let held = c.keywords-keywords.result.now in
    let i = c.loop-place.place-index in
    let place = get_or places i 0 in
    let keyword = c.index-keywords-place.result in
    let below : i < length places = omega (arith, c.loop-place-test.true) in
    let within : place < length held = rw c.keywords-keywords.ensures.keywords (c.keywords_starting-place-items.ensures.within i 0 below) in
    let there : slice_get held place ≡ Some keyword = slice_get_read held (length held) place keyword refl within c.index-keywords-place.is in
    record {
      best = rw c.longer-best.ensures.longer
          (best-longer_of i places c.args.set.now.lexicon.keywords c.args.text.now place keyword (slice_get-get_or places i 0 below)
          (rw c.keywords-keywords.ensures.keywords at there) c.loop-place.best c.loop-place.invariant.best);
      boundary = c.longer-best.ensures.boundary c.loop-place.invariant.boundary;
    }

pub returns-clause-longest : goal.returns-clause-longest
returns-clause-longest c =
    best_of_all c.args.set.now.lexicon.keywords c.keywords-keywords.ensures.kinds.keywords.not_empty c.args.text.now c.in_ok-first.first.now
    c.keywords_starting-place-items.result.now c.loop-place.place-index c.loop-place.best
    (ap (λ (bytes : List _). slice_get bytes 0) (sym c.as_bytes.ensures.value) ∙ sym c.in_ok-first.ensures.value)
    c.keywords_starting-place-items.ensures.starting (omega (arith, c.loop-place-test.false)) c.loop-place.invariant.best
