use Rattle.std.proofs.Common.{◌≡◌, ℕ, ◌+◌, ◌-◌, List, ap, ◌∙◌, subst, take, drop, length, arith}
use Rattle.std.proofs.lemmas.List.{take_all, length-drop}
use Rattle.std.proofs.lemmas.Result.{on_ok_weaker}
use Rattle.lw_grammar.specs.declared.rule.Rule.{Rule}
use Rattle.lw_faults.specs.Finding.{Finds, OfSome}
use Rattle.lw_gramcheck.specs.Parts.{MarkedAgain}
use Rattle.lw_gramcheck.proofs.EntryLemmas.{found_second}
use Rattle.lw_gramcheck.proofs.parts.entries.find_second_entries.Goals as goal

-- a slice up to the end
rest_of : (xs ys : List Rule) (n : ℕ) → xs ≡ ys → take (length xs - n) (drop n xs) ≡ drop n ys
rest_of xs ys n is = take_all (length xs - n) (drop n xs) (omega (arith, length-drop n xs)) ∙ ap (drop n) is

pub returns-in-Some : goal.returns-in-Some
returns-in-Some c =
    let P : List Rule → Type 0 = λ rules. Finds (OfSome MarkedAgain rules) c.args.found.now c.find_marked.new.found in
    on_ok_weaker c.find_marked.result
    (λ finds. found_second c.args.g.now c.in-Some.first c.in-Some.field-0-1.now c.in-Some.ensures
    (subst P (rest_of c.as_slice.result.now c.args.g.now.rules (c.in-Some.first + 1) c.as_slice.ensures) finds)) c.find_marked.ensures
