use Rattle.std.proofs.lemmas.Result.{on_ok_weaker}
use Rattle.lw_grammar.specs.Named.{IsInterface, declared_interface, declared_union}
use Rattle.lw_graph.specs.Walks.{HasNode}
use Rattle.lw_faults.specs.Faults.{fault}
use Rattle.lw_faults.proofs.Joining.{Finds-where}
use Rattle.lw_types.proofs.Leading.{meant_here}
use Rattle.lw_types.proofs.naming.names.KnownNames.find_round_interface.Goals as goal

pub returns-in-Some : goal.returns-in-Some
returns-in-Some c =
    let g = c.args.self.now.g.now in
    let x = c.args.interface.now in
    let meant : IsInterface g x.name c.args.i x =
    meant_here declared_interface declared_union x.name g.interfaces g.unions c.args.i c.in-Some.place x c.in-Some.ensures.0 c.requires.there c.if-place-i.true
    c.in-Some.ensures.1 in
    let round : HasNode c.args.round.now c.args.i = c.holds.ensures.0 c.if-holds.true in
    on_ok_weaker c.add.result (Finds-where (IsInterface g x.name c.args.i x × HasNode c.args.round.now c.args.i) (fault 19 x.file x.span x.name) (meant, round))
    c.add.ensures
