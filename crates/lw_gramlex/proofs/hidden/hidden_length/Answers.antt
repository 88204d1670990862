use Rattle.std.proofs.Common.{◌≡◌, ℕ, ◌≤◌, List, [], ◌∷◌, length, drop, refl, sym, ap, ◌∙◌, subst, arith}
use Rattle.lw_gramlex.specs.FileTokens.{BeginsWith, IsHidden}
use Rattle.lw_gramlex.proofs.HiddenLemmas.{begins_from, hidden_none_empty, hidden_white, hidden_none, hidden_block, opened_same}
use Rattle.lw_gramlex.proofs.hidden.hidden_length.Goals as goal

empty_from_length : (t : List ℕ) → length t ≡ 0 → t ≡ []
empty_from_length [] e = refl
empty_from_length (x ∷ xs) e = absurd (omega arith)

pub returns-in_err-first : goal.returns-in_err-first
returns-in_err-first c =
    let empty : c.args.rest.now ≡ [] = empty_from_length c.args.rest.now (omega (arith, ap length c.chars.ensures.rest, c.in_err-first.ensures.steps.0)) in
    rw (c.from_residual.ensures, empty) hidden_none_empty

pub returns-then-is_whitespace : goal.returns-then-is_whitespace
returns-then-is_whitespace c =
    let begun : BeginsWith c.args.rest.now c.in_ok-first.first = begins_from c.args.rest.now c.next.new.self.rest.now c.in_ok-first.first c.utf8.rest (sym c.chars.ensures.rest ∙ c.in_ok-first.ensures.steps.0) in
    rw c.len_utf8.ensures.value (hidden_white c.args.rest.now c.in_ok-first.first begun (sym c.if-is_whitespace.ensures))

pub returns-in-Some : goal.returns-in-Some
returns-in-Some c =
    let s = c.in-Some.ensures.cases in
    rw (c.line_length.ensures, c.as_bytes.ensures.value) (IsHidden.line_comment c.in-Some.after.now (s.1.1 ∙ ap (λ x. 47 ∷ 47 ∷ x) (sym s.2)))

pub returns-in_err-after : goal.returns-in_err-after
returns-in_err-after c =
    let begun : BeginsWith c.args.rest.now c.in_ok-first.first = begins_from c.args.rest.now c.next.new.self.rest.now c.in_ok-first.first c.utf8.rest (sym c.chars.ensures.rest ∙ c.in_ok-first.ensures.steps.0) in
    rw c.from_residual-in_err-after.ensures
    (hidden_none c.args.rest.now c.in_ok-first.first begun (sym c.if-is_whitespace.ensures) c.in_default.ensures.cases (λ rest e i le r q. c.in_err-after.ensures.cases rest e))

pub returns-in_err-find : goal.returns-in_err-find
returns-in_err-find c =
    let begun : BeginsWith c.args.rest.now c.in_ok-first.first = begins_from c.args.rest.now c.next.new.self.rest.now c.in_ok-first.first c.utf8.rest (sym c.chars.ensures.rest ∙ c.in_ok-first.ensures.steps.0) in
    let s = c.in_ok-after.ensures.cases in
    let opened : c.args.rest.now ≡ 47 ∷ 42 ∷ c.in_ok-after.after.now = s.1.1 ∙ ap (λ x. 47 ∷ 42 ∷ x) (sym s.2) in
    rw c.from_residual-in_err-find.ensures
    (hidden_none c.args.rest.now c.in_ok-first.first begun (sym c.if-is_whitespace.ensures) c.in_default.ensures.cases
    (λ rest e i le r q. let same : rest ≡ c.in_ok-after.after.now = opened_same c.args.rest.now rest c.in_ok-after.after.now e opened in
    c.in_err-find.ensures.cases i (subst (λ x. i ≤ length x) same le) r (ap (drop i) (sym same) ∙ q)))

pub returns : goal.returns
returns c =
    let s = c.in_ok-after.ensures.cases in
    let f = c.in_ok-find.ensures.cases in
    hidden_block c.args.rest.now c.in_ok-after.after.now (drop f.0 c.in_ok-after.after.now) c.in_ok-find.field-0 (s.1.1 ∙ ap (λ x. 47 ∷ 42 ∷ x) (sym s.2)) f.3.0 f.1.1.split f.1.0
