use Rattle.std.proofs.Common.{◌↔◌, ◌≡◌, List, Contains, AllPairs, sym, subst}
use Rattle.lw_index.specs.declared.refs.uses.Use.{Use}
use Rattle.lw_index.specs.Uses.{UsePrecedes}
use Rattle.lw_index.proofs.Halves.{start_first, stretch_exact, stretch_ordered}
use Rattle.lw_index.proofs.refs.uses.uses_at.Goals as goal

pub between-requires-clause-order : goal.between-requires-clause-order
between-requires-clause-order c = start_first c.args.doc c.args.node c.args.uses.now c.requires c.first_not_before-start.result c.first_behind-end.result
    c.first_not_before-start.ensures.point c.first_behind-end.ensures.point c.first_not_before-start.ensures.bound c.first_behind-end.ensures.bound

pub returns-clause-exact : goal.returns-clause-exact
returns-clause-exact c u =
    let P : List Use → Type 0 = λ xs. Contains xs u ↔ (Contains c.args.uses.now u × (u.doc ≡ c.args.doc) × (u.node ≡ c.args.node)) in
    subst P (sym c.between.ensures) (stretch_exact c.args.doc c.args.node c.args.uses.now c.requires c.first_not_before-start.result c.first_behind-end.result
    c.first_not_before-start.ensures.point c.first_behind-end.ensures.point c.first_not_before-start.ensures.bound c.first_behind-end.ensures.bound u)

pub returns-clause-ordered : goal.returns-clause-ordered
returns-clause-ordered c = subst (AllPairs UsePrecedes) (sym c.between.ensures)
    (stretch_ordered c.args.doc c.args.node c.args.uses.now c.requires c.first_not_before-start.result c.first_behind-end.result
    c.first_not_before-start.ensures.point c.first_behind-end.ensures.point c.first_not_before-start.ensures.bound c.first_behind-end.ensures.bound)
