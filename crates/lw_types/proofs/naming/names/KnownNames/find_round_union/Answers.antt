use Rattle.std.proofs.lemmas.Result.{on_ok_weaker}
use Rattle.lw_grammar.specs.Named.{IsUnion, declared_union, declared_interface}
use Rattle.lw_graph.specs.Walks.{HasNode}
use Rattle.lw_faults.specs.Faults.{fault}
use Rattle.lw_faults.proofs.Joining.{Finds-where}
use Rattle.lw_types.proofs.Leading.{meant_here}
use Rattle.lw_types.proofs.naming.names.KnownNames.find_round_union.Goals as goal

pub returns-in-Some : goal.returns-in-Some
returns-in-Some c =
    let g = c.args.self.now.g.now in
    let x = c.args.union.now in
    let meant : IsUnion g x.name c.args.u x =
    meant_here declared_union declared_interface x.name g.unions g.interfaces c.args.u c.in-Some.place x c.in-Some.ensures.0 c.requires.there c.if-place-u.true
    c.in-Some.ensures.1 in
    let round : HasNode c.args.round.now c.args.u = c.holds.ensures.0 c.if-holds.true in
    on_ok_weaker c.add.result (Finds-where (IsUnion g x.name c.args.u x × HasNode c.args.round.now c.args.u) (fault 19 x.file x.span x.name) (meant, round))
    c.add.ensures
