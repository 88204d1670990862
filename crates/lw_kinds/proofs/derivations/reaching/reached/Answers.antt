use Rattle.std.proofs.Common.{◌∷◌, [], ◌↔◌, ℕ}
use Rattle.std.proofs.lemmas.Result.{IfOk-weaker}
use Rattle.lw_grammar.specs.Reached.{IsReached}
use Rattle.lw_graph.specs.Walks.{HasNode, IsReachedFrom}
use Rattle.lw_kinds.proofs.ReachedRules.{reached_from, reached_never}
use Rattle.lw_kinds.proofs.derivations.reaching.reached.Goals as goal

pub returns-in-Some : goal.returns-in-Some
returns-in-Some c =
    let g = c.args.g.now in
    let graph = c.args.calls.now in
    let entry = c.in-Some.ensures in
    IfOk-weaker c.reached.result (λ met. (r : ℕ) → HasNode met r ↔ IsReachedFrom graph (c.in-Some.rule ∷ []) r) (λ met. (r : ℕ) → HasNode met r ↔ IsReached g r)
    (λ met are r.
    let same = reached_from g graph c.requires c.in-Some.rule entry.0 entry.1 r in
    (λ has. same.0 ((are r).0 has), λ can. (are r).1 (same.1 can)))
    c.reached.ensures

pub returns-in-None : goal.returns-in-None
returns-in-None c =
    let g = c.args.g.now in
    let graph = c.args.calls.now in
    IfOk-weaker c.reached-in-None.result (λ met. (r : ℕ) → HasNode met r ↔ IsReachedFrom graph [] r) (λ met. (r : ℕ) → HasNode met r ↔ IsReached g r)
    (λ met are r.
    let same = reached_never g graph c.requires c.in-None.ensures r in
    (λ has. same.0 ((are r).0 has), λ can. (are r).1 (same.1 can)))
    c.reached-in-None.ensures
