use Rattle.std.proofs.Common.{map, sym, ap, ◌∙◌, subst}
use Rattle.std.proofs.lemmas.List.{map-append}
use Rattle.lw_faults.specs.Finding.{Finds}
use Rattle.lw_properties.specs.Mixing.{putting_of, PutsIn}
use Rattle.lw_properties.proofs.Asking.{ruled_out}
use Rattle.lw_properties.proofs.Putting.{puts_one, puts_none}
use Rattle.lw_properties.proofs.puts.put_into.Goals as goal

pub returns-in_ok-push-in-Some : goal.returns-in_ok-push-in-Some
returns-in_ok-push-in-Some c =
    let g = c.args.known.now.g.now in
    let into = c.args.into.now in
    let name = c.in-Some.type_name.now in
    let named = c.in-Some.ensures g c.requires.known.numbers in
    subst (Finds (PutsIn g into.property.now into.list into.file into.span c.args.number) (map putting_of c.args.puts.now.items))
    (sym (ap (map putting_of) c.in_ok-push-in-Some.ensures.items ∙ map-append putting_of c.args.puts.now.items _))
    (puts_one g into.property.now into.list into.file into.span c.args.number name named (c.is_free.ensures.0 c.if-is_free.true))

pub returns-else-is_free : goal.returns-else-is_free
returns-else-is_free c =
    let g = c.args.known.now.g.now in
    let into = c.args.into.now in
    let named = c.in-Some.ensures g c.requires.known.numbers in
    puts_none g into.property.now into.list into.file into.span c.args.number c.in-Some.type_name.now named
    (ruled_out c.is_free.result c.is_free.ensures.0 c.is_free.ensures.1 c.if-is_free.false)
