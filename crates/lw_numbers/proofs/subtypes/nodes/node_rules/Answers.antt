use Rattle.std.proofs.Common.{ℕ, ◌<◌, ◌↔◌, length, get_or, sym, subst}
use Rattle.std.proofs.lemmas.Result.{IfOk-weaker}
use Rattle.lw_graph.specs.Walks.{HasNode, IsReachedFrom}
use Rattle.lw_numbers.specs.Makers.{Shows}
use Rattle.lw_numbers.specs.Kinship.{AreNodeRules}
use Rattle.lw_numbers.proofs.Making.{starts_within, shown_makers}
use Rattle.lw_numbers.proofs.subtypes.nodes.node_rules.Goals as goal

pub reached-requires : goal.reached-requires
reached-requires c =
    let makers = c.in_ok-makers.makers in
    subst (λ xs. (k d : ℕ) → k < length xs → get_or xs k d < makers.callers.nodes) (sym c.as_slice.ensures.value)
    (starts_within c.args.g.now makers c.in_ok-makers.ensures)

pub returns : goal.returns
returns c =
    let g = c.args.g.now in
    let makers = c.in_ok-makers.makers in
    let met = c.in_ok-met.met in
    let reached = subst (λ starts. (n : ℕ) → HasNode met n ↔ IsReachedFrom makers.callers starts n) c.as_slice.ensures.value c.in_ok-met.ensures in
    IfOk-weaker c.flags.result (λ flags. Shows met c.len.result flags.items) (λ flags. AreNodeRules g flags.items)
    (λ flags shows. shown_makers g makers c.in_ok-makers.ensures met flags.items reached (subst (λ n. Shows met n flags.items) c.len.ensures shows)) c.flags.ensures
