-- The list has one fault more, as what was pushed tells it.
use Rattle.std.proofs.Common.{◌≡◌, List, map, subst, ℕ}
use Rattle.lw_grammar.specs.declared.fault.GrammarFault.{GrammarFault}
use Rattle.lw_faults.specs.Faults.{fault}
use Rattle.lw_faults.specs.Finding.{Finds}
use Rattle.lw_faults.specs.Kinds.{number_of}
use Rattle.lw_faults.specs.Telling.{told_fault}
use Rattle.lw_faults.proofs.Joining.{Finds-pushed}
use Rattle.lw_faults.proofs.findings.findings.Findings.add.Goals as goal

pub returns : goal.returns
returns c =
    let new : List GrammarFault = map told_fault c.push.new.self.items in
    let P : GrammarFault → Type 0 = λ one. Finds (λ f. f ≡ one) (map told_fault c.self.inside.found.items) new in
    let Q : List GrammarFault → Type 0 = λ old. Finds (λ f. f ≡ fault (number_of c.args.kind) c.args.file c.args.span c.args.name.now) old new in
    let R : ℕ → Type 0 = λ n. Finds (λ f. f ≡ fault n c.args.file c.args.span c.args.name.now) (map told_fault c.self.inside.found.items) new in
    let pushed = Finds-pushed told_fault c.self.inside.found.items c.push.new.self.items c.in_ok-told.told c.in_ok-push.ensures.items in
    subst Q c.self.view_is (subst R c.number.ensures (subst P c.in_ok-told.ensures pushed))
