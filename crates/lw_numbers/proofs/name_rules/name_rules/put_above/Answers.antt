use Rattle.std.proofs.Common.{◌≡◌, ◌⊎◌, sym, ◌∙◌, subst}
use Rattle.std.proofs.lemmas.Option.{none-some, same_Some}
use Rattle.lw_grammar.specs.Subtypes.{IsSubtype, same}
use Rattle.lw_numbers.specs.NameTable.{IsNumberedIn}
use Rattle.lw_numbers.proofs.Entries.{puts_as, puts_then, below_itself, itself_or_above, numbered_above}
use Rattle.lw_numbers.proofs.name_rules.name_rules.put_above.Goals as goal

pub returns-in_default : goal.returns-in_default
returns-in_default c g are =
    let own = c.args.own.now in
    puts_as c.args.name.now (λ wanted. own ≡ wanted) (IsSubtype g own) c.args.called.now.entries c.put.new.called.entries (λ wanted is. subst (IsSubtype g own) is same)
    (below_itself g c.args.subtypes.now are own (λ i here. none-some i (sym c.in_default.is ∙ c.number.ensures.only i here))) c.in_ok-put.ensures

pub returns : goal.returns
returns c g are =
    let own = c.args.own.now in
    let table = c.args.subtypes.now in
    let name = c.args.name.now in
    let number = c.in-Some.number in
    let ups = c.above.result.now in
    let at = c.above.ensures g are in
    puts_as name (λ wanted. (own ≡ wanted) ⊎ IsNumberedIn table.names ups wanted) (IsSubtype g own) c.args.called.now.entries c.put_each.new.called.entries
    (numbered_above g table are own number ups at (sym c.number.ensures.first ∙ c.in-Some.is))
    (itself_or_above g table are own number ups at (λ i here. same_Some i number (sym (c.number.ensures.only i here) ∙ c.in-Some.is)))
    (puts_then name (λ wanted. own ≡ wanted) (IsNumberedIn table.names ups) c.args.called.now.entries c.put.new.called.entries c.put_each.new.called.entries
    c.in_ok-put.ensures c.in_ok-put_each.ensures)
