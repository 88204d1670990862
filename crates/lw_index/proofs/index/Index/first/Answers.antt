use Rattle.std.proofs.Common.{subst, sym}
use Rattle.std.specs.Prelude.{MatchOption}
use Rattle.lw_index.specs.Firsts.{NoneWanted, IsFirstExport}
use Rattle.lw_index.proofs.Asked.{none_named, none_wanted, first_wanted_is}
use Rattle.lw_index.proofs.index.Index.first.Goals as goal

pub returns-in_err-exporters-clause-first : goal.returns-in_err-exporters-clause-first
returns-in_err-exporters-clause-first g c =
    subst (λ o. MatchOption o (NoneWanted c.args.self.now c.args.name.now c.args.types.now) (IsFirstExport c.args.self.now c.args.name.now c.args.types.now)) (sym c.from_residual.ensures)
    (none_named c.self.inside.documents c.self.inside.names c.self.invariant c.args.self.now c.self.view_is c.args.name.now c.args.types.now c.in_err-exporters.ensures.value)

pub returns-in_err-target-clause-first : goal.returns-in_err-target-clause-first
returns-in_err-target-clause-first g c =
    subst (λ o. MatchOption o (NoneWanted c.args.self.now c.args.name.now c.args.types.now) (IsFirstExport c.args.self.now c.args.name.now c.args.types.now)) (sym c.from_residual-in_err-target.ensures)
    (none_wanted c.self.inside.documents c.self.inside.names c.self.invariant c.args.self.now c.self.view_is c.args.name.now c.in_ok-exporters.exporters.now c.in_ok-exporters.ensures.value c.args.types.now c.in_err-target.ensures)

pub returns-clause-first : goal.returns-clause-first
returns-clause-first g c =
    first_wanted_is c.self.inside.documents c.self.inside.names c.self.invariant c.args.self.now c.self.view_is c.args.name.now c.in_ok-exporters.exporters.now c.in_ok-exporters.ensures.value c.args.types.now
    (c.in_ok-target.field-0-0.now, c.in_ok-target.target) c.in_ok-target.ensures
