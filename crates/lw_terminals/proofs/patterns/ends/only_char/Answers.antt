use Rattle.std.proofs.Common.{◌≡◌, ◌++◌, ℕ, List, None, encode_utf8, slice_get, sym, subst, ◌∙◌}
use Rattle.std.specs.Str.{chars}
use Rattle.lw_terminals.proofs.EndLemmas.{not_none, not_two, just_one}
use Rattle.lw_terminals.proofs.patterns.ends.only_char.Goals as goal

pub returns-in_err-first : goal.returns-in_err-first
returns-in_err-first c =
    let text : c.chars-chars.result.rest.now ≡ c.args.text.now = c.chars-chars.ensures.rest ∙ c.text.ensures.text in
    let P : List ℕ → Type 0 = λ bytes. None ≡ slice_get (chars bytes) 0 in
    let none : None ≡ slice_get (chars c.args.text.now) 0 = subst P text c.in_err-first.ensures.steps.2 in
    rw c.from_residual.ensures (λ d. not_none (chars c.args.text.now) d none)

pub returns-in-Some : goal.returns-in-Some
returns-in-Some c = λ d.
    let text : c.chars-chars.result.rest.now ≡ c.args.text.now = c.chars-chars.ensures.rest ∙ c.text.ensures.text in
    let begins : c.args.text.now ≡ encode_utf8 c.in_ok-first.first ++ c.next.new.self.rest.now = sym text ∙ c.in_ok-first.ensures.steps.0 in
    not_two c.args.text.now c.next.new.self.rest.now c.in_ok-first.first c.in-Some.field-0 d c.text.ensures.utf8 begins c.in-Some.ensures.steps.2

pub returns-in-None : goal.returns-in-None
returns-in-None c =
    let text : c.chars-chars.result.rest.now ≡ c.args.text.now = c.chars-chars.ensures.rest ∙ c.text.ensures.text in
    let begins : c.args.text.now ≡ encode_utf8 c.in_ok-first.first ++ c.next.new.self.rest.now = sym text ∙ c.in_ok-first.ensures.steps.0 in
    just_one c.args.text.now c.next.new.self.rest.now c.in_ok-first.first c.text.ensures.utf8 begins c.in-None.ensures.steps.2
