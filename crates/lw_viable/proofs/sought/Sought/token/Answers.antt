-- It is this token, or another.
use Rattle.std.proofs.Common.{[], ◌∷◌, Some, sym, ◌∙◌, true≢false}
use Rattle.std.proofs.lemmas.Result.{on_ok_weaker}
use Rattle.lw_program.specs.declared.recipes.mark.TreeMark.TheVariants as mark
use Rattle.lw_viable.specs.Turning as turn
use Rattle.lw_viable.proofs.Made.{grows_none}
use Rattle.lw_viable.proofs.Putting.{put_none}
use Rattle.lw_viable.proofs.sought.Sought.token.Goals as goal

pub returns-then-not-seeks-clause-put : goal.returns-then-not-seeks-clause-put
returns-then-not-seeks-clause-put c =
    ([], turn.other (λ is. true≢false (sym (c.seeks.ensures.1 is) ∙ c.if-not-seeks.true)), put_none (grows_none c.args.lists.now) c.args.front c.args.found.now.items)

pub returns-clause-put : goal.returns-clause-put
returns-clause-put c =
    on_ok_weaker c.put.result (λ put. ((Some (mark.Token c.args.kind), []) ∷ [], turn.it (c.seeks.ensures.0 c.if-not-seeks.false), put)) c.put.ensures.put
