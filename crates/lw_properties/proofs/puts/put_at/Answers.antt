use Rattle.std.proofs.Common.{OnOk, map, sym, subst}
use Rattle.lw_faults.specs.Properties.{is_list}
use Rattle.lw_faults.specs.Finding.{Finds, OfSome}
use Rattle.lw_grammar.specs.Leaves.{Assign}
use Rattle.lw_numbers.specs.Parts.{leaf_of}
use Rattle.lw_properties.specs.Mixing.{putting_of, PutHere, PutsIn}
use Rattle.lw_properties.proofs.Found.{found_as}
use Rattle.lw_properties.proofs.Putting.{puts_current}
use Rattle.lw_properties.proofs.puts.put_at.Goals as goal

pub returns-in-Assign : goal.returns-in-Assign
returns-in-Assign c =
    let g = c.args.known.now.g.now in
    let place = c.args.place.now in
    let olds = map putting_of c.args.puts.now.items in
    let news = map putting_of c.put_into_all.new.puts.items in
    let l = c.in-Assign in
    let file = place.rule.now.file in
    let r = c.put_into_all.result in
    let types = place.before.now.current.items in
    let by_list = subst (λ b. OnOk r (Finds (OfSome (PutsIn g l.property.now b file l.span) c.as_slice.result.now) olds news)) c.is_list.ensures c.put_into_all.ensures in
    let by_types = subst (λ ns. OnOk r (Finds (OfSome (PutsIn g l.property.now (is_list l.op) file l.span) ns) olds news)) c.as_slice.ensures.value by_list in
    subst (λ x. OnOk r (Finds (PutHere g place.rule.now place.before.now (leaf_of x)) olds news)) (sym l.is)
    (found_as (OfSome (PutsIn g l.property.now (is_list l.op) file l.span) types) (PutHere g place.rule.now place.before.now (Assign l.property.now l.op l.field-2.now l.span)) olds news r
    (puts_current g l.property.now (is_list l.op) file l.span types) by_types)
