use Rattle.std.proofs.Common.{◌≡◌, ◌+◌, ◌∷◌, length, take_while, ap, sym, refl, ◌∙◌, arith}
use Rattle.std.specs.Char.{is_ascii_lowercase}
use Rattle.std.proofs.lemmas.Slice.{between_to_end}
use Rattle.lw_gramlex.proofs.RegexLemmas.{regex_none_open, regex_none_bare, regex_none_star, regex_some}
use Rattle.lw_gramlex.proofs.regex.regex_length.Goals as goal
use Rattle.lw_gramlex.proofs.regex.regex_length.Goals.{then-count-eq0-via-then-count-eq0, then-count-eq0-via-else-count-eq0+then-body-eq42}

pub returns-in_err-count : goal.returns-in_err-count
returns-in_err-count c =
    let begins : c.args.rest.now ≡ c.in_ok-first.first.now ∷ c.in_ok-first.body.now = sym c.as_bytes.ensures.value ∙ c.in_ok-first.ensures.cases.0 in
    rw c.from_residual-in_err-count.ensures (regex_none_open c.args.rest.now c.in_ok-first.body.now c.in_ok-first.first.now begins c.in_err-count.ensures)

pub returns-then-count-eq0 : goal.returns-then-count-eq0
returns-then-count-eq0 c =
    let begins : c.args.rest.now ≡ c.in_ok-first.first.now ∷ c.in_ok-first.body.now = sym c.as_bytes.ensures.value ∙ c.in_ok-first.ensures.cases.0 in
    elim c.then-count-eq0.branch [
      | then-count-eq0-via-then-count-eq0 w ↦ regex_none_bare c.args.rest.now c.in_ok-first.body.now c.in_ok-first.first.now c.in_ok-count.count begins c.in_ok-count.ensures w.if-count-eq0.true
      | then-count-eq0-via-else-count-eq0+then-body-eq42 w ↦ regex_none_star c.args.rest.now c.in_ok-first.body.now c.in_ok-first.first.now begins w.if-body-eq42.true
    ]

pub returns : goal.returns
returns c =
    let begins : c.args.rest.now ≡ c.in_ok-first.first.now ∷ c.in_ok-first.body.now = sym c.as_bytes.ensures.value ∙ c.in_ok-first.ensures.cases.0 in
    regex_some c.args.rest.now c.in_ok-first.body.now c.in_ok-first.first.now c.in_ok-count.count begins c.if-first-ne47.false c.in_ok-count.ensures c.if-count-eq0.false c.if-body-eq42.false _ _
    (c.flag_count-flags.ensures ∙ ap (λ x. length (take_while is_ascii_lowercase x)) (between_to_end c.in_ok-first.body.now (c.in_ok-count.count + 1) (length c.in_ok-first.body.now) (omega arith))) refl
