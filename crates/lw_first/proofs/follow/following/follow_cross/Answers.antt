use Rattle.std.proofs.Common.{◌≡◌, ℕ, List, Option, Some, None, sym, ◌∙◌, subst}
use Rattle.std.proofs.lemmas.Result.{on_ok_weaker}
use Rattle.lw_grammar.specs.declared.grammar.Grammar.{Grammar}
use Rattle.lw_kinds.proofs.OneName.{one_reads}
use Rattle.lw_kinds.specs.Crossing.{IsReadBy}
use Rattle.lw_first.specs.Calls.{BehindName}
use Rattle.lw_first.proofs.Putting.{puts_as}
use Rattle.lw_first.proofs.follow.following.follow_cross.Goals as goal

one_name : (g : Grammar) (wanted : List ℕ) (written : Option (List ℕ)) (a b : List ℕ) → IsReadBy g wanted written a → IsReadBy g wanted written b → a ≡ b
one_name g wanted None a b is was = one_reads g wanted None a b is was
one_name g wanted (Some name) a b is was = sym is ∙ was

pub returns-in-Some : goal.returns-in-Some
returns-in-Some c =
    let g = c.args.first.now.lexicon.g.now in
    let wanted = c.args.wanted.now in
    let written = c.args.written.now in
    let after = c.args.after.now in
    let name = c.in-Some.name.now in
    on_ok_weaker c.follow_name.result
    (puts_as (BehindName g name after) (λ r h. (x : List ℕ) × IsReadBy g wanted written x × BehindName g x after r h)
    (λ r h. (
      λ behind. (name, c.in-Some.ensures, behind),
      λ (other, was, behind). subst (λ x. BehindName g x after r h) (one_name g wanted written other name was c.in-Some.ensures) behind,
    )) c.args.sets.now c.follow_name.new.sets)
    c.follow_name.ensures
