use Rattle.std.proofs.Common.{◌≡◌, ◌∙◌, [], List, map, length, ap, subst, sym, arith, true≢false, MatchOption, ℕ}
use Rattle.std.proofs.lemmas.List.{length-map}
use Rattle.lw_command_line.specs.Words.{AreFiles, IsCommand, IsNoCommand}
use Rattle.lw_command_line.proofs.WordLemmas.{no_check, no_serve, no_make}
use Rattle.lw_command_line.proofs.words.command_over.Goals as goal

pub returns-in-check : goal.returns-in-check
returns-in-check c =
    let items = c.args.others.items in
    λ words says. no_check says c.in-check.is (λ none. let empty : length items ≡ 0 = sym (length-map items (λ word. word.now)) ∙ ap length none in grind (arith, c.args.others.ok.0, c.if-is_empty.ensures, empty))

pub returns-in-serve : goal.returns-in-serve
returns-in-serve c =
    λ words says. no_serve says c.in-serve.is
    (λ are. true≢false (sym (c.are_files.ensures.1 (subst (λ items. AreFiles (map (λ word. word.now) items)) (sym c.deref.ensures.value) are)) ∙ c.if-are_files.false))

pub returns-in_err-count_in-in-make : goal.returns-in_err-count_in-in-make
returns-in_err-count_in-in-make c =
    λ words says. subst (λ found. MatchOption found (IsNoCommand words) (IsCommand words)) (sym c.from_residual.ensures)
    (no_make says c.in-make.is (λ word count same. c.in_err-count_in-in-make.ensures word count (ap (map (λ word. word.now)) c.deref-in-make.ensures.value ∙ same)))
