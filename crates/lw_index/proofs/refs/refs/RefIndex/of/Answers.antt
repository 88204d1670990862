use Rattle.std.proofs.Common.{◌↔◌, List, Contains, sym, subst}
use Rattle.lw_index.specs.declared.refs.slot.SlotId.{SlotId}
use Rattle.lw_index.specs.Users.{IsUser}
use Rattle.lw_index.proofs.RefsView.{user_if, if_user}
use Rattle.lw_index.proofs.refs.refs.RefIndex.of.Goals as goal

pub returns-clause-exact : goal.returns-clause-exact
returns-clause-exact c slot =
    let P : List SlotId → Type 0 = λ slots. Contains slots slot ↔ IsUser c.args.self.now c.args.target slot in
    let one = c.in_ok-slots.ensures.exact slot in
    subst P (sym c.from_vec.ensures) (
      λ has. user_if c.self.inside.documents c.args.self.now c.self.view_is c.args.target slot (one.0 has),
      λ is. one.1 (if_user c.self.inside.documents c.args.self.now c.self.view_is c.args.target slot is),
    )
