use Rattle.std.proofs.Common.{sym, ap, ◌∙◌, arith}
use Rattle.std.proofs.lemmas.Bool.{false≢true, leb-false}
use Rattle.lw_index.specs.Least.{seen}
use Rattle.lw_index.proofs.Orders.{by_uri_turned, by_node_turned}
use Rattle.lw_index.proofs.Wanted.{lesser_second}
use Rattle.lw_index.proofs.exporters.lesser.Goals as goal
use Rattle.lw_index.proofs.exporters.lesser.Goals.{in-Less, in-Equal, in-Greater}

pub returns-else-first : goal.returns-else-first
returns-else-first c =
    let one = c.in-Some-Some in
    lesser_second (seen c.args.one) (seen c.args.other) (one.uri.now, one.target) (one.other_uri.now, one.other_target) (ap seen one.is-0) (ap seen one.is-1)
    (elim c.match-cmp.branch [
      | in-Less w ↦ absurd (false≢true (sym c.if-first.false ∙ w.first-is))
      | in-Equal w ↦ by_node_turned one.uri.now one.other_uri.now one.target.node.0 one.other_target.node.0 (sym w.in-Equal.ensures) (omega (arith, leb-false _ _ (sym w.first-is ∙ c.if-first.false)))
      | in-Greater w ↦ by_uri_turned one.uri.now one.other_uri.now one.target.node.0 one.other_target.node.0 (sym w.in-Greater.ensures)
    ])
