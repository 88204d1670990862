-- None of the ways, and one of them.
use Rattle.std.proofs.Common.{◌<◌, [], ◌∷◌, Some, sym, subst}
use Rattle.lw_program.specs.declared.instr.Instr.TheVariants.{Choice}
use Rattle.lw_parse.specs.Deciding.{IsDecided}
use Rattle.lw_parse.specs.Running.{state_of, IsWayBy, TurnsTo}
use Rattle.lw_parse.specs.Running as run
use Rattle.lw_parse.proofs.run.Run.choose.Goals as goal

pub returns-in-None : goal.returns-in-None
returns-in-None c = λ p. run.no_way c.way.ensures c.in-None.ensures

pub returns-in-Some : goal.returns-in-Some
returns-in-Some c = λ p.
    let state = state_of c.args.self.now in
    let instr = Some (Choice c.args.point c.args.first c.args.end) in
    let (i, way, is, below) = c.in-Some.ensures in
    subst (IsDecided state p instr) (sym c.doing.ensures)
    (subst (λ q. TurnsTo state.parser state.unread p instr [] (q ∷ []) state.unread) (sym is)
    (run.way i (subst (IsWayBy state.parser state.unread c.args.point) way c.way.ensures) (subst (λ q. q < c.args.end) is below)))
