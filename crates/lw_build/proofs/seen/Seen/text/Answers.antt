use Rattle.std.proofs.Common.{sym, subst}
use Rattle.lw_docs.specs.Documents.{IsAt}
use Rattle.lw_build.specs.Seen.{IsTextSeen, SeenView}
use Rattle.lw_build.proofs.Lending.{text_seen}
use Rattle.lw_build.proofs.seen.Seen.text.Goals as goal

pub returns : goal.returns
returns c =
    let doc = c.in_ok-found.found.now in
    subst (λ (v : SeenView). IsTextSeen v c.args.doc.0 doc.text) c.self.view_is
    (text_seen c.self.inside.docs.now c.self.inside.readings.now c.self.invariant c.self.inside.refs.now c.args.doc doc
    (subst (λ (v : SeenView). IsAt v.kept c.args.doc doc) (sym c.self.view_is) c.in_ok-found.ensures))
