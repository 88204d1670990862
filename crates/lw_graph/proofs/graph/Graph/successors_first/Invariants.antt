use Rattle.lw_graph.specs.Order.{SearchesWithin, steps_left}
use Rattle.lw_graph.proofs.graph.Graph.successors_first.Given as goal

abbrev pub invariant-searching : goal.invariant-searching
invariant-searching l = SearchesWithin l.self.nodes l.search

abbrev pub decreases-searching : goal.decreases-searching
decreases-searching l = steps_left l.search
