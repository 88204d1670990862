use Rattle.std.proofs.Common.{subst, sym}
use Rattle.std.specs.Prelude.{MatchOption}
use Rattle.lw_index.specs.Rivals.{HasNoRival, IsLeastRival}
use Rattle.lw_index.proofs.Asked.{no_rival_named, no_rival_found, least_rival_is}
use Rattle.lw_index.proofs.index.Index.others.Goals as goal

pub returns-in_err-exporters : goal.returns-in_err-exporters
returns-in_err-exporters c =
    subst (λ o. MatchOption o (HasNoRival c.args.self.now c.args.doc.0 c.args.name.now c.args.type_id.0) (λ uri. IsLeastRival c.args.self.now c.args.doc.0 c.args.name.now c.args.type_id.0 uri.now)) (sym c.from_residual.ensures)
    (no_rival_named c.self.inside.documents c.self.inside.names c.self.invariant c.args.self.now c.self.view_is c.args.name.now c.args.doc.0 c.args.type_id.0 c.in_err-exporters.ensures.value)

pub returns-in_err-uri : goal.returns-in_err-uri
returns-in_err-uri c =
    subst (λ o. MatchOption o (HasNoRival c.args.self.now c.args.doc.0 c.args.name.now c.args.type_id.0) (λ uri. IsLeastRival c.args.self.now c.args.doc.0 c.args.name.now c.args.type_id.0 uri.now)) (sym c.from_residual-in_err-uri.ensures)
    (no_rival_found c.self.inside.documents c.self.inside.names c.self.invariant c.args.self.now c.self.view_is c.args.name.now c.in_ok-exporters.exporters.now c.in_ok-exporters.ensures.value c.args.doc c.args.type_id.0 c.in_err-uri.ensures)

pub returns : goal.returns
returns c =
    least_rival_is c.self.inside.documents c.self.inside.names c.self.invariant c.args.self.now c.self.view_is c.args.name.now c.in_ok-exporters.exporters.now c.in_ok-exporters.ensures.value c.args.doc c.args.type_id.0
    (c.in_ok-uri.uri.now, c.in_ok-uri.field-0-1) c.in_ok-uri.ensures
