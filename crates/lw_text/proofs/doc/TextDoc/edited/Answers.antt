use Rattle.std.proofs.Common.{List, ℕ, subst, sym, unwrap_or}
use Rattle.lw_text.specs.Changes.{AreMade, made}
use Rattle.lw_text.proofs.doc.TextDoc.edited.Goals as goal

pub returns-in-Some-clause-edited : goal.returns-in-Some-clause-edited
returns-in-Some-clause-edited c =
    made (subst (λ doc. AreMade c.args.enc c.args.self.now c.args.changes.now (unwrap_or doc c.args.self.now)) c.in-Some.is c.in_ok-doc.ensures.made)

pub returns-in_ok-copy-in-None-clause-edited : goal.returns-in_ok-copy-in-None-clause-edited
returns-in_ok-copy-in-None-clause-edited c =
    let text = c.args.self.now in
    let unchanged : AreMade c.args.enc text c.args.changes.now text = subst (λ doc. AreMade c.args.enc text c.args.changes.now (unwrap_or doc text)) c.in-None.is c.in_ok-doc.ensures.made in
    made (subst (λ (copy : List ℕ). AreMade c.args.enc text c.args.changes.now copy) (sym c.in_ok-copy-in-None.ensures) unchanged)
