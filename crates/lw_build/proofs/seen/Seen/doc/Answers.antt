use Rattle.std.proofs.Common.{◌≡◌, None, MatchBool, subst}
use Rattle.lw_docs.specs.Documents.{IsAt}
use Rattle.lw_build.specs.Readings.{HasReading, reading_at}
use Rattle.lw_build.specs.Seen.{SeenView, StandsSeen}
use Rattle.lw_build.proofs.Lending.{held_seen, nowhere_seen}
use Rattle.lw_build.proofs.seen.Seen.doc.Goals as goal

pub doc-requires : goal.doc-requires
doc-requires c =
    held_seen c.self.inside.docs.now c.self.inside.readings.now c.self.invariant c.args.doc
    (subst (λ b. MatchBool b (HasReading c.self.inside.readings.now c.args.doc.0) (reading_at c.self.inside.readings.now c.args.doc.0 ≡ None)) c.if-has.true c.has.ensures)

pub returns-then-has : goal.returns-then-has
returns-then-has c = subst (λ (v : SeenView). IsAt v.kept c.args.doc c.doc.result.now) c.self.view_is c.doc.ensures

pub returns-else-has : goal.returns-else-has
returns-else-has c address =
    subst (λ (v : SeenView). ¬ StandsSeen v c.args.doc.0 address) c.self.view_is
    (nowhere_seen c.self.inside.docs.now c.self.inside.readings.now c.self.invariant c.args.doc.0
    (subst (λ b. MatchBool b (HasReading c.self.inside.readings.now c.args.doc.0) (reading_at c.self.inside.readings.now c.args.doc.0 ≡ None)) c.if-has.false c.has.ensures) address)
