use Rattle.std.proofs.Common.{None, false, refl}
use Rattle.lw_build.proofs.Turning.{still_held, turned_twice}
use Rattle.lw_build.proofs.workspace.shut.Goals as goal

pub set_open-requires : goal.set_open-requires
set_open-requires c = still_held c.args.docs.now c.set_version.new.self c.args.d (λ x. record x { version = None }) (λ x. refl) c.set_version.ensures c.requires

pub returns : goal.returns
returns c =
    turned_twice c.args.docs.now c.set_version.new.self c.args.d (λ x. record x { version = None }) (λ x. refl) c.set_version.ensures
    c.set_open.new.self (λ x. record x { is_open = false }) c.set_open.ensures
