use Rattle.std.proofs.Common.{◌≡◌, ◌∙◌, ◌<◌, ◌≤◌, ◌-◌, ◌≢◌, ◌++◌, ◌∷◌, [], ℕ, List, drop, take, length, sym, ap, subst, refl, arith, append_assoc, false, Some, None}
use Rattle.std.proofs.lemmas.Slice.Eq.{strip_suffix_is}
use Rattle.std.proofs.lemmas.Bool.Decides.{Decides-eqb, nat_tests}
use Rattle.lw_frame.specs.Lines.{line_end, joined, is_empty}
use Rattle.lw_frame.specs.Stage.{IsAt}
use Rattle.lw_frame.proofs.Growth.{to_end}
use Rattle.lw_frame.proofs.Cuts.{open_current, ended_current}
use Rattle.lw_frame.proofs.Stages.{at_within, at_behind, at_after}
use Rattle.lw_frame.proofs.stage.stage_of.Goals as goal

empty_is : (bytes : List ℕ) → length bytes < 1 → bytes ≡ []
empty_is [] h = refl
empty_is (b ∷ bytes) h = absurd (omega arith)

filled_is : (bytes : List ℕ) → 1 ≤ length bytes → is_empty bytes ≡ false
filled_is bytes h = grind (arith, nat_tests)

pub returns-in-None : goal.returns-in-None
returns-in-None c =
    let header = c.args.header.now in
    let current = drop c.args.line header in
    let none : (before : List ℕ) → current ≢ before ++ line_end =
    λ before e. strip_suffix_is Decides-eqb (take (length header - c.args.line) current) line_end None c.in-None.ensures.cases before (to_end c.args.line header ∙ e) in
    subst (λ s. IsAt s c.args.start header []) (sym c.in_header.ensures)
    (at_within c.args.start c.args.line header c.args.given c.requires.header.before current c.requires.header.good c.requires.header.bytes c.requires.header.line_is (open_current current c.requires.grown none) c.requires.limit)

pub returns-in-Some-empty : goal.returns-in-Some-empty
returns-in-Some-empty c =
    let header = c.args.header.now in
    let current = drop c.args.line header in
    let text = c.in-Some-empty.field-0 in
    let ended : current ≡ line_end =
    sym (to_end c.args.line header) ∙ strip_suffix_is Decides-eqb (take (length header - c.args.line) current) line_end (Some text) c.in-Some-empty.ensures.cases ∙ ap (λ bs. bs ++ line_end) (empty_is text.now c.in-Some-empty.len_below) in
    subst (λ s. IsAt s c.args.start header []) (sym c.after_header.ensures)
    (at_behind c.args.start header c.args.given c.requires.header.before c.requires.header.good (c.requires.header.bytes ∙ ap (λ bs. joined c.requires.header.before ++ bs) ended) c.requires.limit)

pub returns-in-Some : goal.returns-in-Some
returns-in-Some c =
    let header = c.args.header.now in
    let current = drop c.args.line header in
    let text = c.in-Some.text in
    let ended : current ≡ text.now ++ line_end =
    sym (to_end c.args.line header) ∙ strip_suffix_is Decides-eqb (take (length header - c.args.line) current) line_end (Some text) c.in-Some.ensures.cases in
    let bytes_are : header ≡ joined c.requires.header.before ++ text.now ++ line_end = c.requires.header.bytes ∙ ap (λ bs. joined c.requires.header.before ++ bs) ended ∙ sym (append_assoc (joined c.requires.header.before) text.now line_end) in
    subst (λ s. IsAt s c.args.start header []) (sym c.after_line.ensures)
    (at_after c.args.start c.args.line header c.args.given c.requires.header.before text.now c.requires.header.good bytes_are c.requires.header.line_is (ended_current current text.now c.requires.grown ended) (filled_is text.now c.in-Some.len_at_least) c.requires.limit)
