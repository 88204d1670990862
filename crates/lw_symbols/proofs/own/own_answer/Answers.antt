use Rattle.std.proofs.Common.{sym, ◌∙◌}
use Rattle.lw_symbols.proofs.Levels.{found_any, inside_next, none_found, outwards_from, over}
use Rattle.lw_symbols.proofs.own.own_answer.Goals as goal

pub returns-then-is_some : goal.returns-then-is_some
returns-then-is_some c =
    found_any c.args.tree.now c.args.reference.now c.args.fits.now c.loop-level.level.0 c.first_hashed-found.result (sym c.is_some.ensures ∙ c.if-is_some.true)
    c.requires.outwards c.loop-level.invariant.inside c.loop-level.invariant.goes c.first_hashed-found.ensures

pub returns-in-None : goal.returns-in-None
returns-in-None c =
    over c.args.tree.now c.args.reference.now c.args.fits.now c.loop-level.level.0 c.node.result.now c.loop-level.invariant.goes c.node.ensures c.in-None.is
    (none_found c.args.tree.now c.args.reference.now c.args.fits.now c.loop-level.level.0 c.first_hashed-found.result (sym c.is_some.ensures ∙ c.if-is_some.false)
    c.first_hashed-found.ensures)

pub loop-level-smaller : goal.loop-level-smaller
loop-level-smaller c =
    c.requires.outwards c.loop-level.level.0 c.in-Some.container.0 c.node.result.now c.node.ensures c.in-Some.is

pub loop-level-preserved : goal.loop-level-preserved
loop-level-preserved c = record {
  inside = inside_next c.args.tree.now c.args.reference.now c.args.fits.now c.loop-level.level.0 c.in-Some.container.0 c.node.result.now c.requires.outwards
      c.node.ensures c.in-Some.is c.loop-level.invariant.inside;
  goes = outwards_from c.args.tree.now c.args.reference.now c.args.fits.now c.loop-level.level.0 c.in-Some.container.0 c.node.result.now
      c.loop-level.invariant.goes c.node.ensures c.in-Some.is
      (none_found c.args.tree.now c.args.reference.now c.args.fits.now c.loop-level.level.0 c.first_hashed-found.result (sym c.is_some.ensures ∙ c.if-is_some.false)
      c.first_hashed-found.ensures);
}
