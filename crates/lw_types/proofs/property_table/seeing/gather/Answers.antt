use Rattle.std.proofs.Common.{[], refl, sym, ◌∙◌, subst, arith}
use Rattle.lw_types.specs.Gathered.{GathersSightings}
use Rattle.lw_types.proofs.Adding.{whole_back}
use Rattle.lw_types.proofs.property_table.seeing.gather.Goals as goal

pub returns : goal.returns
returns c =
    let wanted = c.args.wanted.now in
    let list = c.in_ok-list.list in
    let new = c.see_rules.new.gatherings in
    let start = c.in_ok-list.ensures wanted refl in
    let sees = c.in_ok-see_rules.ensures in
    let gathered = sees.adds [] (subst (GathersSightings wanted []) (sym c.deref_mut.ensures.value) start) in
    let back = whole_back list.len new list.items (gathered.all ∙ sym start.all) (omega (arith, list.ok.0)) in
    record { seen = sees.more; in_rules = sees.gives; gathers = subst (GathersSightings wanted sees.more) (sym back) gathered }
