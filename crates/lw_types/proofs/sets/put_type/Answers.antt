use Rattle.std.proofs.lemmas.Option.{none-some}
use Rattle.std.proofs.lemmas.Result.{on_ok_weaker}
use Rattle.lw_types.proofs.SetLemmas.{name_at, puts_type}
use Rattle.lw_types.proofs.sets.put_type.Goals as goal

pub returns-in-Some-clause-exact : goal.returns-in-Some-clause-exact
returns-in-Some-clause-exact c = λ g numbered related.
    let table = c.args.subtypes.now in
    let name = c.type_name.result.now in
    let at = name_at g table related c.args.t.0 name (c.type_name.ensures g numbered) in
    on_ok_weaker c.put_low.result
    (puts_type table c.args.t.0 c.in-Some.place name c.above.result.now c.args.sets.now.items c.put_low.new.sets.items at c.in-Some.ensures.only (c.above.ensures g related))
    c.put_low.ensures

pub returns-in-None-clause-exact : goal.returns-in-None-clause-exact
returns-in-None-clause-exact c = λ g numbered related.
    absurd (none-some c.args.t.0 (c.in-None.ensures.only c.args.t.0 (name_at g c.args.subtypes.now related c.args.t.0 c.type_name.result.now (c.type_name.ensures g numbered))))
