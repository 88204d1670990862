use Rattle.std.proofs.Common.{◌≡◌, ◌↔◌, not, subst, refl, true}
use Rattle.std.proofs.lemmas.Bool.{false≢true}
use Rattle.lw_properties.specs.Mixing.{putting_of, IsAheadOf, LentKey}
use Rattle.lw_properties.proofs.FirstPuts.{mixed_none, mixed_some}
use Rattle.lw_properties.proofs.firsts.is_mixed.Goals as goal

pub returns-in-Some : goal.returns-in-Some
returns-in-Some c puts are =
    let put = putting_of c.args.put.now in
    let key : LentKey = (c.args.put.now.type_name, c.args.put.now.property, not c.args.put.now.list) in
    let mixed = mixed_some puts c.args.firsts.now.entries put are key refl c.in-Some.first.now c.in-Some.ensures.value in
    let told = subst (λ at. (c.is_ahead.result ≡ true) ↔ IsAheadOf c.in-Some.first.now at) c.at_of.ensures c.is_ahead.ensures in
    (λ so. mixed.0 (told.0 so), λ is. told.1 (mixed.1 is))

pub returns-in-None : goal.returns-in-None
returns-in-None c puts are =
    let put = putting_of c.args.put.now in
    let key : LentKey = (c.args.put.now.type_name, c.args.put.now.property, not c.args.put.now.list) in
    (λ so. absurd (false≢true so), λ is. absurd (mixed_none puts c.args.firsts.now.entries put are key refl c.in-None.ensures.value is))
