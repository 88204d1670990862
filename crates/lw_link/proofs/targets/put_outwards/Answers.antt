use Rattle.std.proofs.Common.{ap, length, arith}
use Rattle.lw_symbols.proofs.Levels.{inside_next}
use Rattle.lw_symbols.proofs.Table.{families_long}
use Rattle.lw_link.proofs.PutLevels.{all_are_in, begins, goes_outwards, locals_inside, put_in}
use Rattle.lw_link.proofs.targets.put_outwards.Goals as goal

pub of-requires : goal.of-requires
of-requires c = omega (arith, c.loop-container.invariant.inside, ap length c.requires.locals.named, families_long c.args.tree.now)

pub put_names-requires : goal.put_names-requires
put_names-requires c = λ n has.
    locals_inside c.args.tree.now c.loop-container.level.0 c.of.result.now n (c.of.ensures c.args.tree.now c.requires.locals) has

pub loop-container-init : goal.loop-container-init
loop-container-init c = record { inside = c.requires.owner; goes = begins c.args.tree.now c.args.fits.now c.args.reference.now.owner.0 c.args.names.now.items }

pub loop-container-smaller : goal.loop-container-smaller
loop-container-smaller c = c.requires.outwards c.loop-container.level.0 c.in-Some.container.0 c.node.result.now c.node.ensures c.in-Some.is

pub loop-container-preserved : goal.loop-container-preserved
loop-container-preserved c =
    let tree = c.args.tree.now in
    let fits = c.args.fits.now in
    let level = c.loop-container.level.0 in
    let node = c.node.result.now in
    record {
      inside = inside_next tree c.args.reference.now fits level c.in-Some.container.0 node c.requires.outwards c.node.ensures c.in-Some.is c.loop-container.invariant.inside;
      goes = goes_outwards tree fits c.args.reference.now.owner.0 level c.args.names.now.items c.loop-container.names.items c.put_names.new.names.items node
          c.loop-container.invariant.goes c.node.ensures
          (put_in tree fits level c.of.result.now (c.of.ensures tree c.requires.locals) c.in_ok-put_names.ensures) c.in-Some.container.0 c.in-Some.is;
    }

pub returns-in-None : goal.returns-in-None
returns-in-None c =
    let tree = c.args.tree.now in
    let fits = c.args.fits.now in
    let level = c.loop-container.level.0 in
    all_are_in tree fits c.args.reference.now.owner.0 level c.args.names.now.items c.loop-container.names.items c.put_names.new.names.items c.node.result.now
    c.loop-container.invariant.goes c.node.ensures (put_in tree fits level c.of.result.now (c.of.ensures tree c.requires.locals) c.in_ok-put_names.ensures)
    c.in-None.is
