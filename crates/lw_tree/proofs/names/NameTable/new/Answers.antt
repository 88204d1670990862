use Rattle.std.proofs.Common.{map, ap, ◌∙◌, sym}
use Rattle.lw_tree.specs.Keyed.{keys_of}
use Rattle.lw_tree.specs.LastPlaces.{name_places, place_before}
use Rattle.lw_tree.proofs.Lasts.{all_places}
use Rattle.lw_tree.proofs.names.NameTable.new.Goals as goal
use Rattle.lw_tree.proofs.names.NameTable.new.Goals.{in-None, in-Some-2+in_ok-behind-in-Some-2}

pub returns : goal.returns
returns c =
    elim c.match-name.branch [
      | in-None w ↦ ap (λ v. map place_before v.items) w.behind-is ∙ ap (map place_before) w.new-behind.ensures.items
          ∙ ap (λ name. name_places name c.args.count (keys_of c.args.entries.now)) (sym w.in-None.is)
      | in-Some-2+in_ok-behind-in-Some-2 w ↦ ap (λ v. map place_before v.items) w.behind-is
          ∙ all_places _ c.args.count (keys_of c.args.entries.now) _ w.in_ok-behind-in-Some-2.ensures.count w.in_ok-behind-in-Some-2.ensures.places
          ∙ ap (λ name. name_places name c.args.count (keys_of c.args.entries.now)) (sym w.in-Some-2.is)
    ]
