use Rattle.std.proofs.Common.{subst, unwrap_or}
use Rattle.lw_text.specs.Changes.{AreMade, made}
use Rattle.lw_text.proofs.doc.TextDoc.apply.Goals as goal

pub returns-in-Some-clause-changed : goal.returns-in-Some-clause-changed
returns-in-Some-clause-changed c =
    made (subst (λ doc. AreMade c.args.enc c.args.self.now c.args.changes.now (unwrap_or doc c.args.self.now)) c.in-Some.is c.in_ok-doc.ensures.made)

pub returns-in_default-clause-changed : goal.returns-in_default-clause-changed
returns-in_default-clause-changed c =
    made (subst (λ doc. AreMade c.args.enc c.args.self.now c.args.changes.now (unwrap_or doc c.args.self.now)) c.in_default.is c.in_ok-doc.ensures.made)
