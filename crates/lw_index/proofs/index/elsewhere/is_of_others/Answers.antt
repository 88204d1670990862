use Rattle.std.proofs.Common.{sym}
use Rattle.std.proofs.lemmas.Bool.{false≢true}
use Rattle.lw_index.proofs.OthersLemmas.{others_by, none_named}
use Rattle.lw_index.proofs.index.elsewhere.is_of_others.Goals as goal

pub returns-in-Some : goal.returns-in-Some
returns-in-Some c =
    others_by c.args.names.now c.args.except c.args.types.now c.args.name.now c.in-Some.exporters.now c.has_other.result (sym c.in-Some.ensures.value) c.has_other.ensures

pub returns-in-None : goal.returns-in-None
returns-in-None c = (
  λ yes. absurd (false≢true yes),
  λ is. absurd (none_named c.args.names.now c.args.except c.args.types.now c.args.name.now (sym c.in-None.ensures.value) is),
)
