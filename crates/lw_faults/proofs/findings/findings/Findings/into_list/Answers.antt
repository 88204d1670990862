-- What is listed is what was sorted, each once.
use Rattle.std.proofs.Common.{◌≡◌, List, map, subst, sym, ap, Contains, Ok, Err, IfOk, Result}
use Rattle.std.specs.List.{dedup}
use Rattle.std.proofs.lemmas.List.Filters.{dedup_is}
use Rattle.lw_base.specs.declared.memory.NoMemory.{NoMemory}
use Rattle.lw_grammar.specs.declared.fault.GrammarFault.{GrammarFault}
use Rattle.lw_faults.specs.Faults.{AreFaults}
use Rattle.lw_faults.specs.Telling.{told_fault}
use Rattle.lw_faults.proofs.Listing.{AreFaults-listed, told_eq}
use Rattle.lw_faults.proofs.findings.findings.Findings.into_list.Goals as goal

as_listed : (P : List GrammarFault → Type 0) (list : List GrammarFault) (r : Result (List GrammarFault) NoMemory) → IfOk r (λ it. it ≡ list) → P list → IfOk r P
as_listed P list (Ok it) is so = subst P (sym is) so
as_listed P list (Err e) is so = is

pub returns : goal.returns
returns c =
    let found = c.self.inside.found.items in
    let sorted = c.sort_unstable.new.self.items in
    let kept : c.dedup.new.self.items ≡ dedup told_eq sorted = dedup_is told_eq _ _ c.dedup.ensures.filtered in
    let listed = AreFaults-listed found sorted c.sort_unstable.ensures.permutation c.sort_unstable.ensures.sorted in
    let P : List GrammarFault → Type 0 = AreFaults (Contains (map told_fault found)) in
    let Q : List GrammarFault → Type 0 = λ view. IfOk c.listed.result (AreFaults (Contains view)) in
    subst Q c.self.view_is (as_listed P (map told_fault c.dedup.new.self.items) c.listed.result c.listed.ensures (subst P (ap (map told_fault) (sym kept)) listed))
