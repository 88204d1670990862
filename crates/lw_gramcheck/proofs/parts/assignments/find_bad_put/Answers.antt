use Rattle.std.proofs.Common.{sym, subst}
use Rattle.std.proofs.lemmas.Bool.{false≢true}
use Rattle.lw_faults.specs.Faults.{fault}
use Rattle.lw_faults.specs.Finding.{Finds}
use Rattle.lw_faults.proofs.Joining.{Finds-where, Finds-unless}
use Rattle.lw_gramcheck.specs.declared.parts.sites.Manner.{Manner}
use Rattle.lw_gramcheck.specs.Sites.{how_of}
use Rattle.lw_gramcheck.specs.BadSites.{PutsBadly, BadPutBy}
use Rattle.lw_gramcheck.proofs.parts.assignments.find_bad_put.Goals as goal

pub returns : goal.returns
returns c =
    let g = c.args.checker.now.g.now in
    let rule = c.args.rule.now in
    let name = c.args.site.now.name.now in
    let P : Manner → Type 0 = λ manner. Finds (BadPutBy g rule name (how_of manner)) c.args.found.now c.add.new.self in
    let bad = c.puts_badly.ensures.0 c.if-not-puts_badly.false in
    let put = fault 22 rule.file c.in-Assigned.span c.in-Assigned.property.now in
    subst P (sym c.in-Assigned.is) (Finds-where (PutsBadly g c.in-Assigned.op name) put bad c.in_ok-add.ensures)

pub returns-then-not-puts_badly : goal.returns-then-not-puts_badly
returns-then-not-puts_badly c =
    let g = c.args.checker.now.g.now in
    let rule = c.args.rule.now in
    let name = c.args.site.now.name.now in
    let P : Manner → Type 0 = λ manner. Finds (BadPutBy g rule name (how_of manner)) c.args.found.now c.args.found.now in
    let put = fault 22 rule.file c.in-Assigned.span c.in-Assigned.property.now in
    subst P (sym c.in-Assigned.is) (Finds-unless (PutsBadly g c.in-Assigned.op name) put (λ bad. false≢true (c.if-not-puts_badly.ensures.1 bad)))
