use Rattle.std.proofs.Common.{refl}
use Rattle.lw_build.proofs.Turning.{still_held, turned_twice}
use Rattle.lw_build.proofs.workspace.renew.Goals as goal

pub set_version-requires : goal.set_version-requires
set_version-requires c =
    still_held c.args.docs.now c.set_text.new.self c.args.d (λ x. record x { text = c.args.text }) (λ x. refl) c.set_text.ensures c.requires

pub set_open-requires : goal.set_open-requires
set_open-requires c =
    still_held c.set_text.new.self c.set_version.new.self c.args.d (λ x. record x { version = c.args.version }) (λ x. refl) c.set_version.ensures
    (still_held c.args.docs.now c.set_text.new.self c.args.d (λ x. record x { text = c.args.text }) (λ x. refl) c.set_text.ensures c.requires)

pub returns : goal.returns
returns c =
    turned_twice c.args.docs.now c.set_version.new.self c.args.d (λ x. record x { text = c.args.text; version = c.args.version }) (λ x. refl)
    (turned_twice c.args.docs.now c.set_text.new.self c.args.d (λ x. record x { text = c.args.text }) (λ x. refl) c.set_text.ensures c.set_version.new.self
    (λ x. record x { version = c.args.version }) c.set_version.ensures)
    c.set_open.new.self (λ x. record x { is_open = c.args.is_open }) c.set_open.ensures
