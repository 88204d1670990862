-- The name is put in and then the references, beside nothing.
use Rattle.std.proofs.Common.{List, Contains, ◌↔◌, sym, subst, ◌∙◌}
use Rattle.lw_index.specs.Users.{IsUser}
use Rattle.lw_index.specs.declared.refs.slot.SlotId.{SlotId}
use Rattle.lw_query.specs.Gathered.{PutsSpots, SpotKey}
use Rattle.lw_query.specs.Spots.{IsSpotOfMention}
use Rattle.lw_query.proofs.Putting.{gathered}
use Rattle.lw_query.proofs.gathering.gather.Goals as goal

pub returns : goal.returns
returns g c =
    let v = c.args.v.now in
    let stands = g.V.Views.Stands v in
    let tree_at = g.V.Views.tree_at v in
    let slots = c.as_slice.result.now in
    let exact : (slot : SlotId) → Contains slots slot ↔ IsUser c.args.refs.now c.args.target slot =
    subst (λ (xs : List SlotId). (slot : SlotId) → Contains xs slot ↔ IsUser c.args.refs.now c.args.target slot) (sym c.as_slice.ensures)
    c.in_ok-slots.ensures.exact in
    let both = gathered stands tree_at c.args.refs.now c.args.declaration c.args.target slots exact c.declared_spot.result c.declared_spot.ensures
    c.new-keys.result.keys c.put.new.keys.keys c.put_uses.new.keys.keys c.in_ok-put.ensures c.in_ok-put_uses.ensures in
    record {
      keys = c.put_uses.new.keys.keys;
      same = c.from_vec.ensures ∙ c.in_ok-spots_of.ensures.spots;
      ordered = c.in_ok-spots_of.ensures.ordered;
      put_in = subst (λ (old : List SpotKey). PutsSpots stands (IsSpotOfMention tree_at c.args.refs.now c.args.declaration c.args.target) old
          c.put_uses.new.keys.keys)
          c.new-keys.ensures.empty both;
    }
