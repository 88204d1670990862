use Rattle.std.proofs.Common.{◌+◌, ◌<◌, ◌∷◌, [], Vec, Global, length, get_or, map, false, refl, sym, ap, ◌∙◌, subst, arith}
use Rattle.std.proofs.lemmas.List.{map-append}
use Rattle.std.proofs.lemmas.Option.{slice_get-get_or, slice_get_read}
use Rattle.lw_numbers.specs.Numbering.{type_names}
use Rattle.lw_types.specs.Seeing.{AreSeenProperties}
use Rattle.lw_types.specs.declared.property_table.info.PropertyInfo.{PropertyInfo}
use Rattle.lw_types.proofs.Telling.{told_type, seen_more}
use Rattle.lw_types.proofs.property_table.table.properties.Goals as goal

pub loop-number-preserved : goal.loop-number-preserved
loop-number-preserved c =
    let g = c.args.source.now.g.now in
    let gatherings = c.args.gatherings.now in
    let flags = c.args.free.now in
    let n = c.loop-number.number in
    let types = c.loop-number.types.items in
    let infos = c.in_ok-infos.infos in
    let numbers = c.requires.source.numbers in
    let inside : n < length (type_names g) = omega (arith, c.loop-number-test.true, c.type_count-number-end.ensures.count, ap length numbers.types) in
    let flag = slice_get-get_or flags n false (omega (arith, inside, c.requires.free.all)) in
    let there = slice_get_read gatherings (length gatherings) n c.index-gatherings-number.result refl (omega (arith, inside, c.requires.free.all, c.requires.all)) c.index-gatherings-number.is in
    let told = told_type g gatherings flags c.requires.free n c.type_name-name.result.now (get_or flags n false) c.index-gatherings-number.result infos.items flag (c.type_name-name.ensures g numbers) there c.in_ok-infos.ensures in
    let longer = ap (map (λ (v : Vec PropertyInfo Global). v.items)) c.in_ok-push.ensures.items ∙ map-append (λ (v : Vec PropertyInfo Global). v.items) types (infos ∷ []) in
    subst (AreSeenProperties g gatherings (n + 1)) (sym longer) (seen_more g gatherings n (map (λ (v : Vec PropertyInfo Global). v.items) types) infos.items c.loop-number.invariant told)
