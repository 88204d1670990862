use Rattle.std.proofs.Common.{◌≡◌, ◌∙◌, ◌++◌, codes, ap, subst, sym, List, ℕ, None, MatchOption}
use Rattle.std.proofs.lemmas.Slice.Eq.{bytes_eq-Decides}
use Rattle.lw_command_line.specs.Said.{IsDepth, SaysDepth}
use Rattle.lw_command_line.proofs.SaidLemmas.{apart_says, joined_says, neither_says, differs}
use Rattle.lw_command_line.proofs.said.depth_in.Goals as goal

pub returns-then-eq-clause-depth : goal.returns-then-eq-clause-depth
returns-then-eq-clause-depth c =
    let named : c.in_ok-option.option.now ≡ codes "--lookahead" = sym c.text.ensures.text ∙ (bytes_eq-Decides c.text.result.now (codes "--lookahead")).0 (sym c.if-eq.ensures) in
    apart_says c.args.words.now c.in_ok-option.behind.now c.in_ok-word.others.now c.in_ok-option.option.now c.in_ok-word.word.now _ c.in_ok-option.ensures.cases.0 named c.in_ok-word.ensures.cases.0
    (subst (λ w. IsDepth w c.in_ok-depth_named.field-0) c.text-then-eq.ensures.text c.in_ok-depth_named.ensures)

pub returns-in_err-word-2-clause-depth : goal.returns-in_err-word-2-clause-depth
returns-in_err-word-2-clause-depth c =
    subst (λ found. MatchOption found ((k : ℕ) (others : List (List ℕ)) → ¬ SaysDepth c.args.words.now k others) (λ found. SaysDepth c.args.words.now found.0 found.1.now))
    (sym c.from_residual-in_err-word-2.ensures)
    (neither_says c.args.words.now c.in_ok-option.behind.now c.in_ok-option.option.now c.in_ok-option.ensures.cases.0
    (λ same. differs c.text.result.now (codes "--lookahead") (sym c.if-eq.ensures) (c.text.ensures.text ∙ same))
    (λ word same. c.in_err-word-2.ensures.cases word (c.text-2.ensures.text ∙ same)))

pub returns-clause-depth : goal.returns-clause-depth
returns-clause-depth c =
    let cut = c.in_ok-word-2.ensures.cases in
    let named : c.in_ok-option.option.now ≡ codes "--lookahead=" ++ c.in_ok-word-2.word.now =
    sym c.text-2.ensures.text ∙ cut.1.1 ∙ ap (λ w. codes "--lookahead=" ++ w) (sym cut.2) in
    joined_says c.args.words.now c.in_ok-option.behind.now c.in_ok-option.option.now c.in_ok-word-2.word.now _ c.in_ok-option.ensures.cases.0 named c.in_ok-depth_named-2.ensures
