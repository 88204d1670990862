use Rattle.std.proofs.Common.{sym, ◌∙◌}
use Rattle.std.proofs.lemmas.Bool.{true≢false}
use Rattle.lw_properties.proofs.Asking.{refuted, refutes}
use Rattle.lw_properties.proofs.Found.{is_in, in_is}
use Rattle.lw_types.proofs.property_table.free.is_free.Goals as goal

pub returns-then-contains : goal.returns-then-contains
returns-then-contains c =
    let keys = c.args.inferred.now.keys in
    let name = c.args.name.now in
    let told = c.is_declared.ensures in (
      λ so. ((c.requires.inferred name).0 (is_in keys name (sym c.contains.ensures ∙ c.if-contains.true)), refuted c.is_declared.result told.0 told.1 so),
      λ is. refutes c.is_declared.result told.0 told.1 is.1,
    )

pub returns-else-contains : goal.returns-else-contains
returns-else-contains c =
    let keys = c.args.inferred.now.keys in
    let name = c.args.name.now in (
      λ so. absurd (true≢false (sym so ∙ c.if-contains.false)),
      λ is. c.contains.ensures ∙ in_is keys name ((c.requires.inferred name).1 is.0),
    )
