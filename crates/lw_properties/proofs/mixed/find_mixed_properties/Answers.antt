use Rattle.std.proofs.Common.{[], map, sym, subst}
use Rattle.lw_faults.specs.Properties.{MixedProperty}
use Rattle.lw_faults.specs.Finding.{Finds, OfSome}
use Rattle.lw_properties.specs.Places.{spot_of}
use Rattle.lw_properties.specs.Mixing.{putting_of, PutAt}
use Rattle.lw_properties.proofs.Found.{found_told}
use Rattle.lw_properties.proofs.Freeing.{told_mixed, mixed_there}
use Rattle.lw_properties.proofs.mixed.find_mixed_properties.Goals as goal

pub returns : goal.returns
returns c =
    let g = c.args.known.now.g.now in
    let are = c.requires.places in
    let spots = map spot_of c.args.places.now in
    let puts = map putting_of c.as_slice.result.now in
    let none = subst (λ olds. Finds (OfSome (PutAt g) spots) (map putting_of olds) (map putting_of c.put_puts.new.puts.items)) c.new-puts.ensures.items c.in_ok-put_puts.ensures in
    let all = subst (λ news. Finds (OfSome (PutAt g) spots) [] (map putting_of news)) (sym c.as_slice.ensures.value) none in
    found_told (MixedProperty g) (told_mixed g are.rows are.ways spots are.all puts all) (mixed_there g are.rows are.ways spots are.all puts all) c.args.found.now c.find_mixed.new.found
    c.find_mixed.result c.find_mixed.ensures
