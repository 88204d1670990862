use Rattle.std.proofs.Common.{◌∷◌, ◌++◌, [], nat_eq, map, refl, sym, ap, ◌∙◌, subst}
use Rattle.std.specs.Map.{keys_of, lookup}
use Rattle.std.specs.Option.{is_some}
use Rattle.indexmap.specs.IndexMap.{set_value_at}
use Rattle.indexmap.proofs.CallerLemmas.{insert_entry-new}
use Rattle.lw_properties.proofs.Knowing.{none_there}
use Rattle.lw_types.specs.Gathered.{info_of, PutsIntoProperty}
use Rattle.lw_types.specs.declared.property_table.gathering.Met.{Met}
use Rattle.lw_types.proofs.Meeting.{puts_at, puts_last, stands_at, ok_then}
use Rattle.lw_types.proofs.property_table.gathering.Gathering.put.Goals as goal

pub returns-in-Some : goal.returns-in-Some
returns-in-Some c =
    let entries = c.self.inside.props.entries in
    let prop = c.args.prop.0 in
    let at = c.in-Some.at in
    let place = stands_at (keys_of entries) prop at (sym c.get_index_of.ensures.index ∙ c.in-Some.is) in
    let old = c.index_mut.result.now in
    let now : Met = record { list = old.list; values = c.put_kinds.new.set } in
    ok_then c.put_kinds.result (λ joins. subst (λ infos. PutsIntoProperty prop c.args.list c.args.values.now infos (map info_of (set_value_at entries at now))) c.self.view_is
    (puts_at entries at prop c.args.list c.args.values.now old now c.index_mut.ensures.value place.0 place.1 refl joins)) c.put_kinds.ensures

pub returns-in_ok-insert-in-None : goal.returns-in_ok-insert-in-None
returns-in_ok-insert-in-None c =
    let props = c.self.inside.props in
    let entries = props.entries in
    let prop = c.args.prop.0 in
    let list = c.args.list in
    let values = c.args.values.now in
    let met = c.in_ok-met-in-None.met in
    let none = none_there (lookup (nat_eq prop) entries) (sym c.get_index_of.ensures.found ∙ ap is_some c.in-None.is) in
    let last = c.in_ok-insert-in-None.ensures.entries ∙ insert_entry-new nat_eq props prop met none in
    subst (λ es. PutsIntoProperty prop list values c.args.self.now (map info_of es)) (sym last)
    (subst (λ infos. PutsIntoProperty prop list values infos (map info_of (entries ++ (prop, met) ∷ []))) c.self.view_is
    (puts_last entries prop list values met none c.in_ok-met-in-None.ensures.list c.in_ok-met-in-None.ensures.values))
